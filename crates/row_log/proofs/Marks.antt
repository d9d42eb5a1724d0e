-- The cells that live rows have in a column, as the marked codes of its dictionary.
use Rattle.std.proofs.Common.{inl, inr, ◌≡◌, ◌≢◌, ◌⊎◌, ℕ, ◌+◌, ◌-◌, ◌<◌, ◌≤◌, Bool, true, false, refl, sym, ap, ◌∙◌, subst, arith, List, [], ◌∷◌, length, map, ◌++◌, get_or, slice_get, Some}
use Rattle.std.specs.List.{Contains}
use Rattle.std.proofs.lemmas.Bool.{cases_lt, true≢false}
use Rattle.std.proofs.lemmas.List.{append-nil, length-map, get_or-map, get_or_append_left, get_or_push, length_push}
use Rattle.std.proofs.lemmas.List.FromFn.{get_or-range_with_len, length-map-range_with_len}
use Rattle.std.proofs.lemmas.Option.{slice_get-get_or, slice_get_within}
use Rattle.col_set.specs.ColSet.{upto}
use Rattle.col_set.specs.Lists.{Listed, Listed-map, Listed-map_which}
use Rattle.col_set.proofs.Places.{Contains-listed, Listed-contained}
use Rattle.rel_base.specs.declared.nulls.Nulls.{Nulls}
use Rattle.rel_base.specs.declared.nulls.Nulls.TheVariants.{Equal, Distinct}
use Rattle.rel_base.specs.Agreement.{Agrees}
use Rattle.rel_base.specs.Cells.{Cell, cell}
use Rattle.rel_base.specs.Inclusion.{all_columns, column_cells, included}
use Rattle.rel_base.specs.RowState.{RowState, row, width}
use Rattle.rel_base.proofs.Parts.{Included-tested, included-true}
use Rattle.column_dict.specs.Coding.{IsCodeOf, is_new}
use Rattle.column_dict.proofs.Laid.{same_some}
use Rattle.column_dict.proofs.Coded.{known-cell}
use Rattle.row_log.specs.Column.{ColumnCells}
use Rattle.row_log.specs.Table.{live_of, column_at, IsLog}
use Rattle.row_log.specs.Marked.{Marked}
use Rattle.row_log.specs.Live.{AreLiveColumns, AreMarked, HasMarked, IsLacking, IsLiveColumn, marked_at, no_codes}
use Rattle.row_log.proofs.Columns.{cell_of}
use Rattle.row_log.proofs.Distinct.{not_fresh}
use Rattle.row_log.proofs.Flags.{Listed-live_of, live_of-Listed}
use Rattle.row_log.proofs.Log.{kept, cell-kept}

-- the cell of a code that is known
pub cell_known : (known : List Cell) (code : ℕ) (a : Cell) → slice_get known code ≡ Some a → cell_of known code ≡ a
cell_known known code a e = same_some (sym (slice_get-get_or known code [] (slice_get_within known code a e)) ∙ e)

-- ---- columns
-- the marked codes of one column more
pub marked-more : (columns : List ColumnCells) (flags : List Bool) (old new : List Marked) (n : ℕ) (x : ColumnCells) (m : Marked) → length old ≡ n
    → ((j : ℕ) → j < n → AreMarked (column_at columns j).cells flags (marked_at old j)) → new ≡ old ++ m ∷ [] → x ≡ column_at columns n → AreMarked x.cells flags m
    → (length new ≡ n + 1) × ((j : ℕ) → j < n + 1 → AreMarked (column_at columns j).cells flags (marked_at new j))
marked-more columns flags old new n x m long so_far is at are = (ap length is ∙ length_push old m ∙ ap (λ (k : ℕ). k + 1) long, λ j l. by j l (cases_lt j n))
  where
    by : (j : ℕ) → j < n + 1 → (j < n) ⊎ (n ≤ j) → AreMarked (column_at columns j).cells flags (marked_at new j)
    by j l (inl b) =
        subst (λ (ms : List Marked). AreMarked (column_at columns j).cells flags (marked_at ms j)) (sym is)
        (subst (AreMarked (column_at columns j).cells flags) (sym (get_or_append_left old (m ∷ []) no_codes j (omega arith))) (so_far j b))
    by j l (inr b) =
        let e : n ≡ j = omega arith in
        subst (λ (k : ℕ). AreMarked (column_at columns k).cells flags (marked_at new k)) e
        (subst (λ (c : ColumnCells). AreMarked c.cells flags (marked_at new n)) at
        (subst (λ (ms : List Marked). AreMarked x.cells flags (marked_at ms n)) (sym is)
        (subst (AreMarked x.cells flags) (sym (get_or_push old m no_codes n long)) are)))

-- ---- looking a cell up among the marked ones
agrees_itself : (nulls : Nulls) (a : Cell) → a ≢ [] → Agrees nulls a a
agrees_itself Equal a ne = refl
agrees_itself Distinct a ne = (refl, ne)

pub new-unmarked : (m : Marked) (a : Cell) → is_new m.coding a ≡ true → a ≢ [] → HasMarked m a → ⊥
new-unmarked m a n filled w = true≢false (sym n ∙ known-cell m.coding a w.0 (not_fresh m.coding.nulls a filled) w.2)

pub code-unmarked : (m : Marked) (a : Cell) (code : ℕ) → IsCodeOf m.coding a code → get_or m.used code false ≡ false → a ≢ [] → HasMarked m a → ⊥
code-unmarked m a code is f filled w =
    let same : w.0 ≡ code = (is w.0 a w.2).1 (agrees_itself m.coding.nulls a filled) in
    true≢false (sym w.1 ∙ ap (λ (k : ℕ). get_or m.used k false) same ∙ f)

-- the codes below n are marked only where their cells are NULL or marked among the others
abbrev pub AreHadBelow : Marked → Marked → ℕ → Type 0
AreHadBelow m others n = (c : ℕ) → c < n → get_or m.used c false ≡ true → cell_of m.coding.cells c ≢ [] → HasMarked others (cell_of m.coding.cells c)

pub AreHadBelow-more : (m others : Marked) (n : ℕ) → AreHadBelow m others n → (get_or m.used n false ≡ true → cell_of m.coding.cells n ≢ [] → HasMarked others (cell_of m.coding.cells n)) → AreHadBelow m others (n + 1)
AreHadBelow-more m others n so_far here c l = by (cases_lt c n)
  where
    by : (c < n) ⊎ (n ≤ c) → get_or m.used c false ≡ true → cell_of m.coding.cells c ≢ [] → HasMarked others (cell_of m.coding.cells c)
    by (inl b) = so_far c b
    by (inr b) =
        let e : n ≡ c = omega arith in
        subst (λ (k : ℕ). get_or m.used k false ≡ true → cell_of m.coding.cells k ≢ [] → HasMarked others (cell_of m.coding.cells k)) e here

pub AreHadBelow-all : (m others : Marked) (n : ℕ) → AreHadBelow m others n → length m.coding.cells ≤ n → (a : Cell) → a ≢ [] → HasMarked m a → HasMarked others a
AreHadBelow-all m others n so_far all a filled w =
    let l = slice_get_within m.coding.cells w.0 a w.2 in
    let s = cell_known m.coding.cells w.0 a w.2 in
    subst (HasMarked others) s (so_far w.0 (omega arith) w.1 (λ e. filled (sym s ∙ e)))

-- ---- of a row state
module _ (names : List Cell) (nulls : Nulls) (limit : ℕ) (columns : List ColumnCells) (flags : List Bool) (live : ℕ) (h : IsLog (length names) nulls limit columns flags live) where
  pub IsLiveColumn-kept : (k : ℕ) (m : Marked) → k < length names → length (column_at columns k).cells ≡ length flags → AreMarked (column_at columns k).cells flags m → IsLiveColumn (kept names nulls limit columns flags) k m
  IsLiveColumn-kept k m l long are = record { each = λ a. ((λ w. to a ((are.each a).0 w)), (λ g. (are.each a).1 (from a g))) }
    where
      to : (a : Cell) → (i : ℕ) × (get_or flags i false ≡ true) × (i < length (column_at columns k).cells) × (get_or (column_at columns k).cells i [] ≡ a) → Contains (column_cells (kept names nulls limit columns flags) k) a
      to a w =
          let b = w.2 in
          let e : w.0 + 1 - 1 ≡ w.0 = omega arith in
          let in_flags : w.0 + 1 - 1 < length flags = omega arith in
          let g : Listed (w.0 + 1) (live_of flags) = live_of-Listed flags (w.0 + 1) (omega arith) (ap (λ (i : ℕ). get_or flags i false) e ∙ w.1) in
          let s : cell (row (kept names nulls limit columns flags) (w.0 + 1)) k ≡ a =
          cell-kept names nulls limit columns flags live h (w.0 + 1) k in_flags l ∙ ap (λ (i : ℕ). get_or (column_at columns k).cells i []) e ∙ w.3 in
          Contains-listed a (column_cells (kept names nulls limit columns flags) k)
          (subst (λ (y : Cell). Listed y (column_cells (kept names nulls limit columns flags) k)) s (Listed-map (λ number. cell (row (kept names nulls limit columns flags) number) k) (w.0 + 1) (live_of flags) g))

      from : (a : Cell) → Contains (column_cells (kept names nulls limit columns flags) k) a → (i : ℕ) × (get_or flags i false ≡ true) × (i < length (column_at columns k).cells) × (get_or (column_at columns k).cells i [] ≡ a)
      from a w =
          let v = Listed-map_which (λ number. cell (row (kept names nulls limit columns flags) number) k) a (live_of flags) (Listed-contained a (column_cells (kept names nulls limit columns flags) k) w) in
          let g = Listed-live_of flags v.0 v.1 in
          let positive = g.positive in let within = g.within in
          let in_flags : v.0 - 1 < length flags = omega arith in
          (v.0 - 1, g.flag, omega arith, sym (cell-kept names nulls limit columns flags live h v.0 k in_flags l) ∙ sym v.2)

  pub AreLiveColumns-kept : (marked : List Marked) → length marked ≡ length columns → ((j : ℕ) → j < length columns → AreMarked (column_at columns j).cells flags (marked_at marked j))
      → ((j : ℕ) → j < length columns → length (column_at columns j).cells ≡ length flags) → AreLiveColumns (kept names nulls limit columns flags) marked
  AreLiveColumns-kept marked long are even = record {
    long = long ∙ h.wide;
    each = λ k l. let w = h.wide in let m : k < length columns = omega arith in IsLiveColumn-kept k (marked_at marked k) l (even k m) (are k m);
  }

-- ---- inclusion among the columns of one relation
module _ (r : RowState) where
  one : all_columns (r ∷ []) ≡ map (column_cells r) (upto (width r))
  one = append-nil (map (column_cells r) (upto (width r)))

  long : length (all_columns (r ∷ [])) ≡ width r
  long = ap length one ∙ length-map-range_with_len (column_cells r) 0 (width r)

  at : (k : ℕ) → k < width r → get_or (all_columns (r ∷ [])) k [] ≡ column_cells r k
  at k l =
      let n : length (upto (width r)) ≡ width r = sym (length-map (upto (width r)) (column_cells r)) ∙ length-map-range_with_len (column_cells r) 0 (width r) in
      let e : 0 + k ≡ k = omega arith in
      ap (λ (xs : List (List Cell)). get_or xs k []) one ∙ get_or-map (column_cells r) (upto (width r)) k 0 [] (omega arith) ∙ ap (column_cells r) (get_or-range_with_len 0 (width r) k 0 l ∙ e)

  module _ (columns : List Marked) (are : AreLiveColumns r columns) (c d : ℕ) (l : c < width r) (m : d < width r) (other : c ≢ d) where
    pub included-none : ((a : Cell) → a ≢ [] → HasMarked (marked_at columns c) a → HasMarked (marked_at columns d) a) → included (all_columns (r ∷ [])) c d ≡ true
    included-none has =
        let n = long in
        included-true (all_columns (r ∷ [])) c d (record {
          dependent = omega arith;
          referenced = omega arith;
          other = other;
          each = λ a g filled. subst (λ (xs : List Cell). Contains xs a) (sym (at d m))
              (((are.each d m).each a).0 (has a filled (((are.each c l).each a).1 (subst (λ (xs : List Cell). Contains xs a) (at c l) g))));
        })

    pub included-lacking : (code : ℕ) → IsLacking (marked_at columns c) (marked_at columns d) code → included (all_columns (r ∷ [])) c d ≡ false
    included-lacking code lacks = by (included (all_columns (r ∷ [])) c d) refl
      where
        by : (b : Bool) → included (all_columns (r ∷ [])) c d ≡ b → b ≡ false
        by false e = refl
        by true e =
            let n = long in
            let is = Included-tested (all_columns (r ∷ [])) c d (omega arith) (omega arith) e in
            let there : Contains (column_cells r c) lacks.cell = ((are.each c l).each lacks.cell).0 (code, lacks.marked, lacks.at) in
            absurd (lacks.lacks (((are.each d m).each lacks.cell).1
            (subst (λ (xs : List Cell). Contains xs lacks.cell) (at d m) (is.each lacks.cell (subst (λ (xs : List Cell). Contains xs lacks.cell) (sym (at c l)) there) lacks.filled))))
