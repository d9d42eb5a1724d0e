-- The distinct cells of a column, gathered from the codes that live rows use.
use Rattle.std.proofs.Common.{inl, inr, ◌≡◌, ◌≢◌, ◌⊎◌, ℕ, zero, suc, ◌+◌, ◌-◌, ◌<◌, ◌≤◌, Bool, true, false, refl, sym, ap, ◌∙◌, subst, arith, List, [], ◌∷◌, ◌++◌, length, map, get_or, set, slice_get, Some, Result, Ok, Err, IfOk, if◌then◌else◌}
use Rattle.std.specs.Prelude.{replicate}
use Rattle.std.specs.List.{AllPairs, Contains}
use Rattle.std.proofs.lemmas.Bool.{cases_eq, cases_lt, true≢false}
use Rattle.std.proofs.lemmas.List.{length-map, get_or-set_same, get_or-set_other, get_or-replicate, get_or_past, get_or_read, length-replicate}
use Rattle.std.proofs.lemmas.Option.{slice_get-get_or, slice_get_within}
use Rattle.col_set.specs.Lists.{Listed, Listed-append_left, Listed-append_right, Listed-append_cases, Listed-map, Listed-map_which}
use Rattle.col_set.proofs.Places.{Contains-listed, Listed-contained, Listed-get_or}
use Rattle.rel_base.specs.declared.nulls.Nulls.{Nulls}
use Rattle.rel_base.specs.declared.nulls.Nulls.TheVariants.{Equal, Distinct}
use Rattle.rel_base.specs.Cells.{Cell, Row, cell}
use Rattle.rel_base.specs.Inclusion.{column_cells}
use Rattle.rel_base.specs.RowState.{RowState, row}
use Rattle.rel_base.proofs.Agree.{false-same_cell}
use Rattle.column_dict.specs.Coding.{Coding, IsCoding, is_fresh}
use Rattle.column_dict.proofs.Laid.{same_some}
use Rattle.row_log.specs.Column.{ColumnCells}
use Rattle.row_log.specs.Table.{live_of, column_at, IsLog}
use Rattle.row_log.specs.Distinct.{AreDistinctCells, AreFlaggedCells, AreUsed, unmarked}
use Rattle.row_log.proofs.Columns.{cell_of, cell-decoded}
use Rattle.row_log.proofs.Flags.{Listed-live_of, live_of-Listed}
use Rattle.row_log.proofs.Log.{kept, cell-kept}

-- ---- the codes that flagged rows use
no_flag : (used : List Bool) (m c : ℕ) → used ≡ replicate m false → (c < m) ⊎ (m ≤ c) → get_or used c false ≡ false
no_flag used m c e (inl l) = ap (λ (xs : List Bool). get_or xs c false) e ∙ get_or-replicate m c false false l
no_flag used m c e (inr l) = let n = ap length e ∙ length-replicate m false in get_or_past used c false (omega arith)

pub AreUsed-none : (flags : List Bool) (codes : List ℕ) (used : List Bool) (m : ℕ) → used ≡ replicate m false → AreUsed flags codes 0 used
AreUsed-none flags codes used m e = record {
  there = λ i l h. absurd (omega arith);
  back = λ c h. absurd (true≢false (sym h ∙ no_flag used m c e (cases_lt c m)));
}

module _ (flags : List Bool) (codes : List ℕ) (n : ℕ) (used : List Bool) (h : AreUsed flags codes n used) where
  pub AreUsed-more : get_or codes n 0 < length used → get_or flags n false ≡ true → AreUsed flags codes (n + 1) (set used (get_or codes n 0) true)
  AreUsed-more l f = record { there = λ i m g. there i m g (cases_eq (get_or codes i 0) (get_or codes n 0)); back = λ c g. back c g (cases_eq c (get_or codes n 0)) }
    where
      there : (i : ℕ) → i < n + 1 → get_or flags i false ≡ true → (get_or codes i 0 ≡ get_or codes n 0) ⊎ (get_or codes i 0 ≢ get_or codes n 0) → get_or (set used (get_or codes n 0) true) (get_or codes i 0) false ≡ true
      there i m g (inl e) = ap (λ (k : ℕ). get_or (set used (get_or codes n 0) true) k false) e ∙ get_or-set_same used (get_or codes n 0) true false l
      there i m g (inr ne) =
          let o : i ≢ n = λ e. ne (ap (λ (k : ℕ). get_or codes k 0) e) in
          get_or-set_other used (get_or codes n 0) (get_or codes i 0) true false ne ∙ h.there i (omega arith) g

      back : (c : ℕ) → get_or (set used (get_or codes n 0) true) c false ≡ true → (c ≡ get_or codes n 0) ⊎ (c ≢ get_or codes n 0) → (i : ℕ) × (i < n + 1) × (get_or flags i false ≡ true) × (get_or codes i 0 ≡ c)
      back c g (inl e) = (n, omega arith, f, sym e)
      back c g (inr ne) = let w = h.back c (sym (get_or-set_other used (get_or codes n 0) c true false ne) ∙ g) in let l = w.1 in (w.0, omega arith, w.2, w.3)

  pub AreUsed-skip : get_or flags n false ≡ false → AreUsed flags codes (n + 1) used
  AreUsed-skip f = record {
    there = λ i m g. let o : i ≢ n = λ e. true≢false (sym g ∙ ap (λ (k : ℕ). get_or flags k false) e ∙ f) in h.there i (omega arith) g;
    back = λ c g. let w = h.back c g in let l = w.1 in (w.0, omega arith, w.2, w.3);
  }

-- ---- how many codes are not used
pub unmarked-none : (used : List Bool) (n : ℕ) → used ≡ replicate n false → n ≡ unmarked used
unfolding unmarked
unmarked-none used n e = sym (ap unmarked e ∙ none n)
  where
    none : (n : ℕ) → unmarked (replicate n false) ≡ n
    none zero = refl
    none (suc n) = ap suc (none n)

pub unmarked-set : (used : List Bool) (c : ℕ) (d : Bool) → c < length used → get_or used c d ≡ false → unmarked used ≡ suc (unmarked (set used c true))
unfolding unmarked
unmarked-set [] c d l e = absurd (omega arith)
unmarked-set (is ∷ used) zero d l e = ap (λ (b : Bool). if b then unmarked used else suc (unmarked used)) e
unmarked-set (is ∷ used) (suc c) d l e = let f = unmarked-set used c d (omega arith) e in by is f
  where
    by : (b : Bool) → unmarked used ≡ suc (unmarked (set used c true)) → (if b then unmarked used else suc (unmarked used)) ≡ suc (if b then unmarked (set used c true) else suc (unmarked (set used c true)))
    by true f = f
    by false f = ap suc f

marked : (used : List Bool) (c : ℕ) → unmarked used ≡ 0 → c < length used → get_or used c false ≡ true
unfolding unmarked
marked [] c e l = absurd (omega arith)
marked (true ∷ used) zero e l = refl
marked (true ∷ used) (suc c) e l = marked used c e (omega arith)
marked (false ∷ used) c e l = absurd (omega arith)

-- where all codes are marked, no later row needs to be looked at
pub AreUsed-all : (flags : List Bool) (codes : List ℕ) (n m : ℕ) (used : List Bool) → AreUsed flags codes n used → n ≤ m → ((i : ℕ) → i < m → get_or codes i 0 < length used) → unmarked used ≡ 0 → AreUsed flags codes m used
AreUsed-all flags codes n m used h l within e = record {
  there = λ i k g. marked used (get_or codes i 0) e (within i k);
  back = λ c g. let w = h.back c g in let k = w.1 in (w.0, omega arith, w.2, w.3);
}

-- ---- their cells
-- each element differs from each later one
abbrev pub Apart : List Cell → Type 0
Apart [] = Unit {0}
Apart (x ∷ xs) = ((y : Cell) → Listed y xs → x ≢ y) × Apart xs

Apart-append : (xs : List Cell) (x : Cell) → Apart xs → ((y : Cell) → Listed y xs → y ≢ x) → Apart (xs ++ x ∷ [])
Apart-append [] x a f = ((λ y h. absurd h), tt)
Apart-append (z ∷ xs) x a f = ((λ y h. by y (Listed-append_cases y xs (x ∷ []) h)), Apart-append xs x a.1 (λ y h. f y (inr h)))
  where
    by : (y : Cell) → Listed y xs ⊎ Listed y (x ∷ []) → z ≢ y
    by y (inl h) = a.0 y h
    by y (inr (inl e)) = λ s. f z (inl refl) (s ∙ e)
    by y (inr (inr h)) = absurd h

AllPairs-apart : (xs : List Cell) → Apart xs → AllPairs (λ a b. a ≢ b) xs
AllPairs-apart [] a i j d l h = absurd (omega arith)
AllPairs-apart (x ∷ xs) a zero zero d l h = absurd (omega arith)
AllPairs-apart (x ∷ xs) a zero (suc j) d l h = a.0 _ (Listed-get_or xs j d (omega arith))
AllPairs-apart (x ∷ xs) a (suc i) zero d l h = absurd (omega arith)
AllPairs-apart (x ∷ xs) a (suc i) (suc j) d l h = AllPairs-apart xs a.1 i j d (omega arith) (omega arith)

-- the cells of the used codes below n, NULL aside
pub record AreCellsBelow (d : Coding) (used : List Bool) (n : ℕ) (cells : List Cell) : Type 0 where
  pub there : (c : ℕ) → c < n → get_or used c false ≡ true → cell_of d.cells c ≢ [] → Listed (cell_of d.cells c) cells
  pub back : (x : Cell) → Listed x cells → (c : ℕ) × (c < n) × (get_or used c false ≡ true) × (cell_of d.cells c ≡ x) × (x ≢ [])
  pub once : Apart cells

pub AreCellsBelow-none : (d : Coding) (used : List Bool) (cells : List Cell) → cells ≡ [] → AreCellsBelow d used 0 cells
AreCellsBelow-none d used cells e = subst (AreCellsBelow d used 0) (sym e) (record { there = λ c l u f. absurd (omega arith); back = λ x h. absurd h; once = tt })

pub not_fresh : (nulls : Nulls) (x : Cell) → x ≢ [] → is_fresh nulls x ≡ false
not_fresh Equal x ne = refl
not_fresh Distinct x ne = false-same_cell x [] ne

module _ (d : Coding) (is : IsCoding d) (used : List Bool) (n : ℕ) (cells : List Cell) (h : AreCellsBelow d used n cells) where
  pub AreCellsBelow-more : (x : Cell) → n < length d.cells → cell_of d.cells n ≡ x → get_or used n false ≡ true → x ≢ [] → AreCellsBelow d used (n + 1) (cells ++ x ∷ [])
  AreCellsBelow-more x l e u f = record {
    there = λ c m g o. there c m g o (cases_lt c n);
    back = λ y g. back y (Listed-append_cases y cells (x ∷ []) g);
    once = Apart-append cells x h.once differs;
  }
    where
      there : (c : ℕ) → c < n + 1 → get_or used c false ≡ true → cell_of d.cells c ≢ [] → (c < n) ⊎ (n ≤ c) → Listed (cell_of d.cells c) (cells ++ x ∷ [])
      there c m g o (inl w) = Listed-append_left (cell_of d.cells c) cells (x ∷ []) (h.there c w g o)
      there c m g o (inr w) = let s : c ≡ n = omega arith in Listed-append_right (cell_of d.cells c) cells (x ∷ []) (inl (ap (cell_of d.cells) s ∙ e))

      back : (y : Cell) → Listed y cells ⊎ Listed y (x ∷ []) → (c : ℕ) × (c < n + 1) × (get_or used c false ≡ true) × (cell_of d.cells c ≡ y) × (y ≢ [])
      back y (inl g) = let w = h.back y g in let m = w.1 in (w.0, omega arith, w.2, w.3, w.4)
      back y (inr (inl s)) = (n, omega arith, u, e ∙ sym s, λ z. f (sym s ∙ z))
      back y (inr (inr g)) = absurd g

      differs : (y : Cell) → Listed y cells → y ≢ x
      differs y g s =
          let w = h.back y g in
          let m = w.1 in
          let same : w.0 ≡ n = is.once w.0 n x (slice_get-get_or d.cells w.0 [] (omega arith) ∙ ap Some (w.3 ∙ s)) (slice_get-get_or d.cells n [] l ∙ ap Some e) (not_fresh d.nulls x f) in
          omega arith

  pub AreCellsBelow-skip : (get_or used n false ≡ true → cell_of d.cells n ≡ []) → AreCellsBelow d used (n + 1) cells
  AreCellsBelow-skip f = record {
    there = λ c m g o. there c m g o (cases_lt c n);
    back = λ y g. let w = h.back y g in let m = w.1 in (w.0, omega arith, w.2, w.3, w.4);
    once = h.once;
  }
    where
      there : (c : ℕ) → c < n + 1 → get_or used c false ≡ true → cell_of d.cells c ≢ [] → (c < n) ⊎ (n ≤ c) → Listed (cell_of d.cells c) cells
      there c m g o (inl w) = h.there c w g o
      there c m g o (inr w) = let s : c ≡ n = omega arith in absurd (o (ap (cell_of d.cells) s ∙ f (ap (λ (k : ℕ). get_or used k false) (sym s) ∙ g)))

-- all used codes were looked at
pub AreFlaggedCells-all : (d : Coding) (codes : List ℕ) (flags used : List Bool) (n m : ℕ) (cells : List Cell) → ((i : ℕ) → i < length codes → get_or codes i 0 < length d.cells)
    → AreUsed flags codes m used → length codes ≡ m → length d.cells ≤ n → AreCellsBelow d used n cells → AreFlaggedCells (map (cell_of d.cells) codes) flags cells
AreFlaggedCells-all d codes flags used n m cells known u long l h = record {
  each = λ x. ((λ g. to x (h.back x (Listed-contained x cells g))), (λ w. Contains-listed x cells (from x w)));
  once = AllPairs-apart cells h.once;
}
  where
    all_long : length (map (cell_of d.cells) codes) ≡ length codes
    all_long = length-map codes (cell_of d.cells)

    to : (x : Cell) → (c : ℕ) × (c < n) × (get_or used c false ≡ true) × (cell_of d.cells c ≡ x) × (x ≢ [])
        → (i : ℕ) × (get_or flags i false ≡ true) × (i < length (map (cell_of d.cells) codes)) × (get_or (map (cell_of d.cells) codes) i [] ≡ x) × (x ≢ [])
    to x w =
        let v = u.back w.0 w.2 in
        let b = v.1 in
        let e = all_long in
        let k : v.0 < length codes = omega arith in
        (v.0, v.2, omega arith, cell-decoded d codes v.0 k ∙ ap (cell_of d.cells) v.3 ∙ w.3, w.4)

    from : (x : Cell) → (i : ℕ) × (get_or flags i false ≡ true) × (i < length (map (cell_of d.cells) codes)) × (get_or (map (cell_of d.cells) codes) i [] ≡ x) × (x ≢ []) → Listed x cells
    from x w =
        let e = all_long in
        let b = w.2 in
        let k : w.0 < length codes = omega arith in
        let s : cell_of d.cells (get_or codes w.0 0) ≡ x = sym (cell-decoded d codes w.0 k) ∙ w.3 in
        let q = known w.0 k in
        subst (λ (y : Cell). Listed y cells) s (h.there (get_or codes w.0 0) (omega arith) (u.there w.0 (omega arith) w.1) (λ z. w.4 (sym s ∙ z)))

-- ---- of a row state
module _ (names : Row) (nulls : Nulls) (limit : ℕ) (columns : List ColumnCells) (flags : List Bool) (live : ℕ) (h : IsLog (length names) nulls limit columns flags live) where
  pub AreDistinctCells-kept : (k : ℕ) (cells : List Cell) → k < length names → length (column_at columns k).cells ≡ length flags → AreFlaggedCells (column_at columns k).cells flags cells
      → AreDistinctCells (kept names nulls limit columns flags) k cells
  AreDistinctCells-kept k cells l long f = record { each = λ x. ((λ g. to x ((f.each x).0 g)), (λ w. (f.each x).1 (from x w))); once = f.once }
    where
      read : RowState
      read = kept names nulls limit columns flags

      to : (x : Cell) → (i : ℕ) × (get_or flags i false ≡ true) × (i < length (column_at columns k).cells) × (get_or (column_at columns k).cells i [] ≡ x) × (x ≢ []) → Contains (column_cells (kept names nulls limit columns flags) k) x × (x ≢ [])
      to x w =
          let b = w.2 in
          let e : w.0 + 1 - 1 ≡ w.0 = omega arith in
          let m : w.0 + 1 - 1 < length flags = omega arith in
          let g : Listed (w.0 + 1) (live_of flags) = live_of-Listed flags (w.0 + 1) (omega arith) (ap (λ (i : ℕ). get_or flags i false) e ∙ w.1) in
          let s : cell (row (kept names nulls limit columns flags) (w.0 + 1)) k ≡ x =
          cell-kept names nulls limit columns flags live h (w.0 + 1) k m l ∙ ap (λ (i : ℕ). get_or (column_at columns k).cells i []) e ∙ w.3 in (
            Contains-listed x (column_cells (kept names nulls limit columns flags) k)
                (subst (λ (y : Cell). Listed y (column_cells (kept names nulls limit columns flags) k)) s (Listed-map (λ number. cell (row (kept names nulls limit columns flags) number) k) (w.0 + 1) (live_of flags) g)),
            w.4,
          )

      from : (x : Cell) → Contains (column_cells (kept names nulls limit columns flags) k) x × (x ≢ []) → (i : ℕ) × (get_or flags i false ≡ true) × (i < length (column_at columns k).cells) × (get_or (column_at columns k).cells i [] ≡ x) × (x ≢ [])
      from x w =
          let v = Listed-map_which (λ number. cell (row (kept names nulls limit columns flags) number) k) x (live_of flags) (Listed-contained x (column_cells (kept names nulls limit columns flags) k) w.0) in
          let g = Listed-live_of flags v.0 v.1 in
          let a = g.positive in let b = g.within in
          let m : v.0 - 1 < length flags = omega arith in
          (v.0 - 1, g.flag, omega arith, sym (cell-kept names nulls limit columns flags live h v.0 k m l) ∙ sym v.2, w.1)

pub if_ok : {X E : Type 0} (r : Result X E) (P Q : X → Type 0) → IfOk r P → ((v : X) → P v → Q v) → IfOk r Q
if_ok (Ok v) P Q p f = f v p
if_ok (Err e) P Q p f = tt

-- a code was looked at, and its cell taken or not
pub looked_at : (d : Coding) (used : List Bool) (n : ℕ) (cells new : List Cell) (x : Cell) (b : Bool) → IsCoding d → AreCellsBelow d used n cells → slice_get d.cells n ≡ Some x → b ≡ get_or used n b → n < length used
    → ((b ≡ true) × (x ≢ []) × (new ≡ cells ++ x ∷ [])) ⊎ ((b ≡ true → x ≡ []) × (new ≡ cells)) → AreCellsBelow d used (n + 1) new
looked_at d used n cells new x b is h s r l w = by w
  where
    within : n < length d.cells
    within = slice_get_within d.cells n x s

    at : cell_of d.cells n ≡ x
    at = same_some (sym (slice_get-get_or d.cells n [] within) ∙ s)

    flag : b ≡ get_or used n false
    flag = get_or_read used n b l r false

    by : ((b ≡ true) × (x ≢ []) × (new ≡ cells ++ x ∷ [])) ⊎ ((b ≡ true → x ≡ []) × (new ≡ cells)) → AreCellsBelow d used (n + 1) new
    by (inl v) = subst (AreCellsBelow d used (n + 1)) (sym v.2) (AreCellsBelow-more d is used n cells h x within at (sym flag ∙ v.0) v.1)
    by (inr v) = subst (AreCellsBelow d used (n + 1)) (sym v.1) (AreCellsBelow-skip d is used n cells h (λ e. at ∙ v.0 (flag ∙ e)))
