-- Rows across columns.
use Rattle.std.proofs.Common.{inl, inr, ◌≡◌, ◌⊎◌, ℕ, ◌+◌, ◌<◌, ◌≤◌, refl, sym, ap, ◌∙◌, arith, List, [], ◌∷◌, ◌++◌, length, map, take, get_or, Result, Ok, Err}
use Rattle.std.specs.declared.alloc.AllocError.{AllocError}
use Rattle.std.specs.Prelude.{IfOk}
use Rattle.std.proofs.lemmas.Bool.{cases_lt}
use Rattle.std.proofs.lemmas.List.{length-map, get_or-map, get_or_append_left, get_or_push, ext_get_or, length_push, get_or_default, take_all}
use Rattle.std.proofs.lemmas.List.FromFn.{length-map-range_with_len, get_or-map-range_with_len}
use Rattle.rel_base.specs.Cells.{Cell, Row, cell}
use Rattle.rel_base.specs.declared.limits.TheConstants.{MOST_ROWS}
use Rattle.rel_base.specs.Relation.{IsContent, row_across, rows_across, AreColumns}

-- ---- rows and cells by their places
pub length-across : (columns : List (List Cell)) (n : ℕ) → length (rows_across columns n) ≡ n
unfolding rows_across
length-across columns n = length-map-range_with_len (row_across columns) 0 n

pub across-row : (columns : List (List Cell)) (n k : ℕ) (d : Row) → k < n → get_or (rows_across columns n) k d ≡ row_across columns k
unfolding rows_across
across-row columns n k d l = get_or-map-range_with_len (row_across columns) 0 n k k d l (omega arith)

pub length-row_across : (columns : List (List Cell)) (k : ℕ) → length (row_across columns k) ≡ length columns
unfolding row_across
length-row_across columns k = length-map columns _

pub cell-row_across : (columns : List (List Cell)) (k j : ℕ) → j < length columns → cell (row_across columns k) j ≡ get_or (get_or columns j []) k []
unfolding row_across
cell-row_across columns k j l = get_or-map (λ (cells : List Cell). get_or cells k []) columns j [] [] l

-- rows that have the columns' cells are the rows across them
pub across-is : (columns : List (List Cell)) (n : ℕ) (rows : List Row) → length rows ≡ n → ((k : ℕ) → k < n → length (get_or rows k []) ≡ length columns)
    → ((k j : ℕ) → k < n → j < length columns → get_or (get_or columns j []) k [] ≡ cell (get_or rows k []) j) → rows_across columns n ≡ rows
across-is columns n rows long wide each =
    let e = length-across columns n in
    ext_get_or [] (rows_across columns n) rows (e ∙ sym long) (λ k l. let m : k < n = omega arith in across-row columns n k [] m ∙ same_row k m)
  where
    same_row : (k : ℕ) → k < n → row_across columns k ≡ get_or rows k []
    same_row k l =
        let w = length-row_across columns k in
        ext_get_or [] (row_across columns k) (get_or rows k []) (w ∙ sym (wide k l)) (λ j m. let b : j < length columns = omega arith in cell-row_across columns k j b ∙ each k j l b)

-- ---- the content that is kept
pub IsContent-kept : (names : Row) (columns : List (List Cell)) (n : ℕ) → AreColumns names columns n → IsContent (record { names = names; rows = rows_across columns n })
IsContent-kept names columns n h = record {
  some = h.some;
  narrow = h.narrow;
  widths = λ k d l. let e = length-across columns n in ap length (across-row columns n k d (omega arith)) ∙ length-row_across columns k ∙ h.wide;
  short = let e = length-across columns n in let s = h.short in omega arith;
}

-- a column has its cell of each row
pub column-across : (names : Row) (columns : List (List Cell)) (n : ℕ) → AreColumns names columns n → (j : ℕ) → j < length names
    → get_or columns j [] ≡ map (λ row. cell row j) (rows_across columns n)
column-across names columns n h j l =
    let w = h.wide in
    let e = length-across columns n in
    let m = length-map (rows_across columns n) (λ row. cell row j) in
    let long = h.even j [] (omega arith) in
    ext_get_or [] (get_or columns j []) (map (λ row. cell row j) (rows_across columns n)) (long ∙ sym e ∙ sym m)
    (λ k g. sym (get_or-map (λ (row : Row). cell row j) (rows_across columns n) k [] [] (omega arith)
    ∙ ap (λ (row : Row). cell row j) (across-row columns n k [] (omega arith))
    ∙ cell-row_across columns k j (omega arith)))

-- ---- no rows
pub AreColumns-none : (names : Row) (columns : List (List Cell)) → 0 < length names → length names ≤ 128 → length columns ≡ length names
    → ((j : ℕ) → j < length columns → get_or columns j [] ≡ []) → AreColumns names columns 0
AreColumns-none names columns some narrow wide each = record {
  some = some;
  narrow = narrow;
  wide = wide;
  even = λ j d l. ap length (get_or_default columns j d [] l ∙ each j l);
  short = omega arith;
}

pub across-none : (columns : List (List Cell)) → rows_across columns 0 ≡ []
unfolding rows_across
across-none columns = refl

-- ---- one row more
module _ (names : Row) (old new : List (List Cell)) (row : Row) (n : ℕ) (h : AreColumns names old n) (wide : length row ≡ length names)
    (long : length new ≡ length old) (each : (j : ℕ) → j < length old → get_or new j [] ≡ get_or old j [] ++ cell row j ∷ []) where
  abbrev all : List Row
  all = rows_across old n ++ row ∷ []

  old_row : (k : ℕ) → k < n → get_or all k [] ≡ row_across old k
  old_row k l = let e = length-across old n in get_or_append_left (rows_across old n) (row ∷ []) [] k (omega arith) ∙ across-row old n k [] l

  new_row : (k : ℕ) → n ≡ k → get_or all k [] ≡ row
  new_row k e = get_or_push (rows_across old n) row [] k (length-across old n ∙ e)

  wide_at : (k : ℕ) → k < n + 1 → (k < n) ⊎ (n ≤ k) → length (get_or all k []) ≡ length new
  wide_at k m (inl l) = ap length (old_row k l) ∙ length-row_across old k ∙ sym long
  wide_at k m (inr l) = ap length (new_row k (omega arith)) ∙ wide ∙ sym h.wide ∙ sym long

  cells_at : (k j : ℕ) → k < n + 1 → j < length old → (k < n) ⊎ (n ≤ k) → get_or (get_or new j []) k [] ≡ cell (get_or all k []) j
  cells_at k j m b (inl l) =
      let e = h.even j [] b in
      ap (λ (cells : List Cell). get_or cells k []) (each j b) ∙ get_or_append_left (get_or old j []) (cell row j ∷ []) [] k (omega arith)
      ∙ sym (cell-row_across old k j b) ∙ ap (λ (r : Row). cell r j) (sym (old_row k l))
  cells_at k j m b (inr l) =
      let s : n ≡ k = omega arith in
      ap (λ (cells : List Cell). get_or cells k []) (each j b) ∙ get_or_push (get_or old j []) (cell row j) [] k (h.even j [] b ∙ s)
      ∙ ap (λ (r : Row). cell r j) (sym (new_row k s))

  pub across-more : rows_across new (n + 1) ≡ rows_across old n ++ row ∷ []
  across-more =
      let l = length-across old n in
      let p = length_push (rows_across old n) row in
      across-is new (n + 1) all (omega arith) (λ k m. wide_at k m (cases_lt k n)) (λ k j m b. cells_at k j m (omega (arith, b, long)) (cases_lt k n))

  pub AreColumns-more : n < MOST_ROWS → AreColumns names new (n + 1)
  AreColumns-more room = record {
    some = h.some;
    narrow = h.narrow;
    wide = long ∙ h.wide;
    even = λ j d l.
        let m : j < length old = omega (arith, l, long) in
        let e = h.even j [] m in
        ap length (get_or_default new j d [] l ∙ each j m) ∙ length_push (get_or old j []) (cell row j) ∙ ap (λ (k : ℕ). k + 1) e;
    short = omega arith;
  }

-- ---- a row by its place
pub row-made : (columns : List (List Cell)) (n k i : ℕ) → k < n → length columns ≤ i → map (λ (cells : List Cell). get_or cells k []) (take i columns) ≡ get_or (rows_across columns n) k []
unfolding row_across
row-made columns n k i l m = ap (map (λ (cells : List Cell). get_or cells k [])) (take_all i columns m) ∙ sym (across-row columns n k [] l)

pub if_made : (r : Result Row AllocError) (made wanted : Row) → IfOk r (λ row. row ≡ made) → made ≡ wanted → IfOk r (λ row. row ≡ wanted)
if_made (Ok row) made wanted h e = h ∙ e
if_made (Err x) made wanted h e = tt
