-- Rows that are kept by column.
use Rattle.std.proofs.Common.{inl, inr, ◌≡◌, ◌≢◌, ◌⊎◌, ◌↔◌, ℕ, zero, suc, ◌+◌, ◌<◌, ◌≤◌, true, refl, sym, ap, ◌∙◌, subst, arith, List, [], ◌∷◌, ◌++◌, length, map, take, get_or, set}
use Rattle.std.specs.List.{All, range_with_len}
use Rattle.std.proofs.lemmas.Bool.{cases_lt}
use Rattle.std.proofs.lemmas.List.{length-map, length-take-le, get_or_append_left, get_or_push, get_or-map, get_or-take, get_or-set_same, get_or-set_other, set-get_or, take_all, take-append-le, ext_get_or, length_push}
use Rattle.col_set.specs.ColSet.{has, upto}
use Rattle.col_set.specs.Members.{same_set}
use Rattle.col_set.specs.Subsets.{same_test}
use Rattle.rel_base.specs.declared.nulls.Nulls.{Nulls}
use Rattle.rel_base.specs.Cells.{Cell, Row, cell}
use Rattle.rel_base.specs.Agreement.{Agrees, agree}
use Rattle.rel_base.proofs.Agree.{agree-parts, agree-from}
use Rattle.row_log.specs.Column.{ColumnCells}
use Rattle.row_log.specs.Table.{row_at, rows_of, no_column, column_at, with_cell, HasRow}

pub length-range : (a n : ℕ) → length (range_with_len a n) ≡ n
length-range a zero = refl
length-range a (suc n) = ap suc (length-range (a + 1) n)

get_or-range : (a n k d : ℕ) → k < n → get_or (range_with_len a n) k d ≡ a + k
get_or-range a zero k d l = absurd (omega arith)
get_or-range a (suc n) zero d l = omega arith
get_or-range a (suc n) (suc k) d l = let e = get_or-range (a + 1) n k d (omega arith) in omega arith

pub length-rows_of : (cs : List ColumnCells) (n : ℕ) → length (rows_of cs n) ≡ n
unfolding rows_of
length-rows_of cs n = length-map (upto n) (row_at cs) ∙ length-range 0 n

pub rows_of-row : (cs : List ColumnCells) (n k : ℕ) (d : Row) → k < n → get_or (rows_of cs n) k d ≡ row_at cs k
unfolding rows_of
rows_of-row cs n k d l =
    let e = length-range 0 n in
    let z = get_or-range 0 n k 0 l in
    let i : get_or (upto n) k 0 ≡ k = omega arith in
    get_or-map (row_at cs) (upto n) k 0 d (omega arith) ∙ ap (row_at cs) i

pub length-row_at : (cs : List ColumnCells) (k : ℕ) → length (row_at cs k) ≡ length cs
unfolding row_at
length-row_at cs k = length-map cs _

pub cell-row_at : (cs : List ColumnCells) (k j : ℕ) → j < length cs → cell (row_at cs k) j ≡ get_or (column_at cs j).cells k []
unfolding row_at
cell-row_at cs k j l = get_or-map (λ (c : ColumnCells). get_or c.cells k []) cs j no_column [] l

-- rows that have the columns' cells are the columns' rows
pub rows_of-is : (cs : List ColumnCells) (n : ℕ) (rows : List Row) → length rows ≡ n → ((k : ℕ) → k < n → length (get_or rows k []) ≡ length cs)
    → ((k j : ℕ) → k < n → j < length cs → get_or (column_at cs j).cells k [] ≡ cell (get_or rows k []) j) → rows_of cs n ≡ rows
rows_of-is cs n rows long wide each =
    let e = length-rows_of cs n in
    ext_get_or [] (rows_of cs n) rows (e ∙ sym long) (λ k l. let m : k < n = omega arith in rows_of-row cs n k [] m ∙ same_row k m)
  where
    same_row : (k : ℕ) → k < n → row_at cs k ≡ get_or rows k []
    same_row k l =
        let w = length-row_at cs k in
        ext_get_or [] (row_at cs k) (get_or rows k []) (w ∙ sym (wide k l)) (λ j m. let b : j < length cs = omega arith in cell-row_at cs k j b ∙ each k j l b)

-- ---- a relation's rows
pub rows_of-opened : (cs : List ColumnCells) (rows : List Row) (w : ℕ) → All (λ row. length row ≡ w) rows → length cs ≡ w
    → ((j : ℕ) → j < w → (column_at cs j).cells ≡ map (λ row. cell row j) rows) → rows_of cs (length rows) ≡ rows
rows_of-opened cs rows w wide long each = rows_of-is cs (length rows) rows refl (λ k l. wide k [] l ∙ sym long)
    (λ k j l m. ap (λ (xs : List Cell). get_or xs k []) (each j (omega arith)) ∙ get_or-map (λ (row : Row). cell row j) rows k [] [] l)

-- ---- one row more
module _ (old new : List ColumnCells) (row : Row) (n : ℕ) (even : All (λ c. length c.cells ≡ n) old) (wide : length row ≡ length old) (h : HasRow old row new) where
  at_row : (k : ℕ) → k < n + 1 → ((k < n) × (get_or (rows_of old n ++ row ∷ []) k [] ≡ row_at old k)) ⊎ ((k ≡ n) × (get_or (rows_of old n ++ row ∷ []) k [] ≡ row))
  at_row k l = by (cases_lt k n)
    where
      by : (k < n) ⊎ (n ≤ k) → ((k < n) × (get_or (rows_of old n ++ row ∷ []) k [] ≡ row_at old k)) ⊎ ((k ≡ n) × (get_or (rows_of old n ++ row ∷ []) k [] ≡ row))
      by (inl g) = let e = length-rows_of old n in inl (g, get_or_append_left (rows_of old n) (row ∷ []) [] k (omega arith) ∙ rows_of-row old n k [] g)
      by (inr g) = let e = length-rows_of old n in let i : k ≡ n = omega arith in inr (i, get_or_push (rows_of old n) row [] k (e ∙ sym i))

  wide_at : (k : ℕ) → ((k < n) × (get_or (rows_of old n ++ row ∷ []) k [] ≡ row_at old k)) ⊎ ((k ≡ n) × (get_or (rows_of old n ++ row ∷ []) k [] ≡ row)) → length (get_or (rows_of old n ++ row ∷ []) k []) ≡ length new
  wide_at k (inl w) = ap length w.1 ∙ length-row_at old k ∙ sym h.long
  wide_at k (inr w) = ap length w.1 ∙ wide ∙ sym h.long

  cells_at : (k j : ℕ) → j < length old → ((k < n) × (get_or (rows_of old n ++ row ∷ []) k [] ≡ row_at old k)) ⊎ ((k ≡ n) × (get_or (rows_of old n ++ row ∷ []) k [] ≡ row))
      → get_or (column_at new j).cells k [] ≡ cell (get_or (rows_of old n ++ row ∷ []) k []) j
  cells_at k j m (inl w) =
      let e = even j no_column m in let g = w.0 in
      ap (λ (c : ColumnCells). get_or c.cells k []) (h.each j m) ∙ get_or_append_left (column_at old j).cells (cell row j ∷ []) [] k (omega arith)
      ∙ sym (cell-row_at old k j m) ∙ ap (λ (r : Row). cell r j) (sym w.1)
  cells_at k j m (inr w) =
      ap (λ (c : ColumnCells). get_or c.cells k []) (h.each j m) ∙ get_or_push (column_at old j).cells (cell row j) [] k (even j no_column m ∙ sym w.0)
      ∙ ap (λ (r : Row). cell r j) (sym w.1)

  pub rows_of-pushed : rows_of new (n + 1) ≡ rows_of old n ++ row ∷ []
  rows_of-pushed =
      let l = length-rows_of old n in
      let p = length_push (rows_of old n) row in
      rows_of-is new (n + 1) (rows_of old n ++ row ∷ []) (omega arith) (λ k m. wide_at k (at_row k m)) (λ k j m b. let e = h.long in cells_at k j (omega arith) (at_row k m))

  pub even-pushed : All (λ c. length c.cells ≡ n + 1) new
  even-pushed j d l =
      let e = h.long in
      let m : j < length old = omega arith in
      let s : get_or new j d ≡ column_at new j = at_default new j d no_column l in
      let a = even j no_column m in
      ap (λ (c : ColumnCells). length c.cells) (s ∙ h.each j m) ∙ length_push (column_at old j).cells (cell row j) ∙ ap (λ (k : ℕ). k + 1) a
    where
      at_default : (xs : List ColumnCells) (j : ℕ) (d e : ColumnCells) → j < length xs → get_or xs j d ≡ get_or xs j e
      at_default [] j d e l = absurd (omega arith)
      at_default (x ∷ xs) zero d e l = refl
      at_default (x ∷ xs) (suc j) d e l = at_default xs j d e (omega arith)

-- ---- the last rows dropped
-- the first m rows of a column
abbrev pub cut_at : ℕ → ColumnCells → ColumnCells
cut_at m c = record { nulls = c.nulls; cells = take m c.cells }

pub column-cut : (cs : List ColumnCells) (m j : ℕ) → j < length cs → column_at (map (cut_at m) cs) j ≡ cut_at m (column_at cs j)
column-cut cs m j l = get_or-map (cut_at m) cs j no_column no_column l

pub rows_of-cut : (cs : List ColumnCells) (n m : ℕ) → m ≤ n → rows_of (map (cut_at m) cs) m ≡ take m (rows_of cs n)
rows_of-cut cs n m l =
    let e = length-rows_of cs n in
    let w = length-map cs (cut_at m) in
    rows_of-is (map (cut_at m) cs) m (take m (rows_of cs n)) (length-take-le m (rows_of cs n) (omega arith))
    (λ k g. ap length (row_is k g) ∙ length-row_at cs k ∙ sym w)
    (λ k j g b. let c : j < length cs = omega arith in
    ap (λ (c : ColumnCells). get_or c.cells k []) (column-cut cs m j c) ∙ get_or-take m (column_at cs j).cells k [] g ∙ sym (cell-row_at cs k j c) ∙ ap (λ (r : Row). cell r j) (sym (row_is k g)))
  where
    row_is : (k : ℕ) → k < m → get_or (take m (rows_of cs n)) k [] ≡ row_at cs k
    row_is k g = get_or-take m (rows_of cs n) k [] g ∙ rows_of-row cs n k [] (omega arith)

-- ---- agreement by columns
pub agree-by_columns : (cs : List ColumnCells) (nulls : Nulls) (i j : ℕ) (x : ℕ)
    → ((k : ℕ) → (has x k ≡ true) ↔ ((k < length cs) × Agrees nulls (get_or (column_at cs k).cells i []) (get_or (column_at cs k).cells j [])))
    → x ≡ agree nulls (length cs) (row_at cs i) (row_at cs j)
agree-by_columns cs nulls i j x h = same_set x (agree nulls (length cs) (row_at cs i) (row_at cs j)) (λ k. same_test _ _ (there k) (back k))
  where
    there : (k : ℕ) → has x k ≡ true → has (agree nulls (length cs) (row_at cs i) (row_at cs j)) k ≡ true
    there k e = let w = (h k).0 e in
        agree-from nulls (length cs) (row_at cs i) (row_at cs j) k w.0
        (subst (λ (c : Cell). Agrees nulls c (cell (row_at cs j) k)) (sym (cell-row_at cs i k w.0)) (subst (λ (c : Cell). Agrees nulls (get_or (column_at cs k).cells i []) c) (sym (cell-row_at cs j k w.0)) w.1))

    back : (k : ℕ) → has (agree nulls (length cs) (row_at cs i) (row_at cs j)) k ≡ true → has x k ≡ true
    back k e = let w = agree-parts nulls (length cs) (row_at cs i) (row_at cs j) k e in
        (h k).1 (w.0, subst (λ (c : Cell). Agrees nulls c (get_or (column_at cs k).cells j [])) (cell-row_at cs i k w.0) (subst (λ (c : Cell). Agrees nulls (cell (row_at cs i) k) c) (cell-row_at cs j k w.0) w.1))

-- in the first p columns the codes in two lists are equal exactly where the rows at places i and j agree
pub record AgreeBelow (cs : List ColumnCells) (nulls : Nulls) (i j p : ℕ) (first second : List ℕ) : Type 0 where
  pub each : (k : ℕ) → k < p → (get_or first k 0 ≡ get_or second k 0) ↔ Agrees nulls (get_or (column_at cs k).cells i []) (get_or (column_at cs k).cells j [])

module _ (cs : List ColumnCells) (nulls : Nulls) (i j p : ℕ) (first second : List ℕ) where
  pub AgreeBelow-more : (a b : ℕ) → AgreeBelow cs nulls i j p first second → p < length first → p < length second
      → ((a ≡ b) ↔ Agrees (column_at cs p).nulls (get_or (column_at cs p).cells i []) (get_or (column_at cs p).cells j [])) → (column_at cs p).nulls ≡ nulls
      → AgreeBelow cs nulls i j (p + 1) (set first p a) (set second p b)
  AgreeBelow-more a b h m o are read = record { each = λ k l. by k l (cases_lt k p) }
    where
      at : (a ≡ b) ↔ Agrees nulls (get_or (column_at cs p).cells i []) (get_or (column_at cs p).cells j [])
      at = subst (λ (n : Nulls). (a ≡ b) ↔ Agrees n (get_or (column_at cs p).cells i []) (get_or (column_at cs p).cells j [])) read are

      moved : (e f c d : ℕ) (X : Type 0) → e ≡ c → f ≡ d → ((c ≡ d) ↔ X) → ((e ≡ f) ↔ X)
      moved e f c d X u q w = ((λ r. w.0 (sym u ∙ r ∙ q)), (λ x. u ∙ w.1 x ∙ sym q))

      by : (k : ℕ) → k < p + 1 → (k < p) ⊎ (p ≤ k) → (get_or (set first p a) k 0 ≡ get_or (set second p b) k 0) ↔ Agrees nulls (get_or (column_at cs k).cells i []) (get_or (column_at cs k).cells j [])
      by k l (inl w) =
          let ne : k ≢ p = λ e. absurd (omega arith) in
          moved _ _ _ _ _ (get_or-set_other first p k a 0 ne) (get_or-set_other second p k b 0 ne) (h.each k w)
      by k l (inr w) =
          let e : p ≡ k = omega arith in
          subst (λ (q : ℕ). (get_or (set first p a) q 0 ≡ get_or (set second p b) q 0) ↔ Agrees nulls (get_or (column_at cs q).cells i []) (get_or (column_at cs q).cells j [])) e
          (moved _ _ _ _ _ (get_or-set_same first p a 0 m) (get_or-set_same second p b 0 o) at)

  -- the agree set of the codes of all columns is that of the rows
  pub agree-read : (x : ℕ) → AgreeBelow cs nulls i j p first second → length cs ≤ p → length cs ≤ length first → length cs ≤ length second
      → ((k : ℕ) → (has x k ≡ true) ↔ ((k < length (take (length cs) first)) × (get_or (take (length cs) first) k 0 ≡ get_or (take (length cs) second) k 0)))
      → x ≡ agree nulls (length cs) (row_at cs i) (row_at cs j)
  agree-read x h l m o f = agree-by_columns cs nulls i j x (λ k. (there k, back k))
    where
      long : length (take (length cs) first) ≡ length cs
      long = length-take-le (length cs) first m

      there : (k : ℕ) → has x k ≡ true → (k < length cs) × Agrees nulls (get_or (column_at cs k).cells i []) (get_or (column_at cs k).cells j [])
      there k e =
          let w = (f k).0 e in
          let b = w.0 in
          let t = long in
          let g : k < length cs = omega arith in
          (g, (h.each k (omega arith)).0 (sym (get_or-take (length cs) first k 0 g) ∙ w.1 ∙ get_or-take (length cs) second k 0 g))

      back : (k : ℕ) → (k < length cs) × Agrees nulls (get_or (column_at cs k).cells i []) (get_or (column_at cs k).cells j []) → has x k ≡ true
      back k w =
          let g = w.0 in
          let t = long in
          (f k).1 (omega arith, get_or-take (length cs) first k 0 g ∙ (h.each k (omega arith)).1 w.1 ∙ sym (get_or-take (length cs) second k 0 g))

-- ---- a row whose cells were not all coded
pub restored : (old cs : List ColumnCells) (row : Row) (n p : ℕ) (x d : ColumnCells) → All (λ c. length c.cells ≡ n) old → length cs ≡ length old
    → ((j : ℕ) → j < p → column_at cs j ≡ with_cell (column_at old j) row j) → ((j : ℕ) → p ≤ j → column_at cs j ≡ column_at old j) → x ≡ get_or cs p d → map (cut_at n) (set cs p x) ≡ old
restored old cs row n p x d even long before after is =
    ap (map (cut_at n)) (ap (set cs p) is ∙ set-get_or cs p d)
    ∙ ext_get_or no_column (map (cut_at n) cs) old (length-map cs (cut_at n) ∙ long)
    (λ j l. let m = length-map cs (cut_at n) in let b : j < length cs = omega arith in column-cut cs n j b ∙ by j (omega arith) (cases_lt j p))
  where
    whole : (c : ColumnCells) → length c.cells ≡ n → cut_at n c ≡ c
    whole c e = ap (λ (xs : List Cell). let y : ColumnCells = record { nulls = c.nulls; cells = xs } in y) (take_all n c.cells (omega arith))

    fronts : (c : ColumnCells) (j : ℕ) → length c.cells ≡ n → cut_at n (with_cell c row j) ≡ c
    fronts c j e = ap (λ (xs : List Cell). let y : ColumnCells = record { nulls = c.nulls; cells = xs } in y) (take-append-le n c.cells (cell row j ∷ []) (omega arith) ∙ take_all n c.cells (omega arith))

    by : (j : ℕ) → j < length old → (j < p) ⊎ (p ≤ j) → cut_at n (column_at cs j) ≡ column_at old j
    by j l (inl m) = ap (cut_at n) (before j m) ∙ fronts (column_at old j) j (even j no_column l)
    by j l (inr m) = ap (cut_at n) (after j m) ∙ whole (column_at old j) (even j no_column l)
