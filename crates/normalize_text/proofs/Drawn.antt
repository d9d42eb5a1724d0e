-- The rows that are drawn of a seed.
use Rattle.std.proofs.Common.{◌≡◌, ◌∙◌, ◌+◌, ◌-◌, ◌<◌, ◌≤◌, ℕ, suc, refl, sym, ap, arith, List, [], ◌∷◌, ◌++◌, length, map, take, get_or, append_assoc, append-nil, Result, Ok, Err}
use Rattle.std.specs.Prelude.{decimal, IfOk}
use Rattle.std.specs.declared.alloc.AllocError.{AllocError}
use Rattle.std.proofs.lemmas.List.{map-append, take_more}
use Rattle.std.proofs.lemmas.List.{length-map}
use Rattle.col_set.specs.ColSet.{Columns, all}
use Rattle.rel_base.specs.declared.dependency.Table.{Table}
use Rattle.rel_base.specs.Cells.{Row}
use Rattle.rel_base.specs.Relation.{Content}
use Rattle.rel_base.specs.Covers.{covers}
use Rattle.rel_base.specs.Inclusion.{all_columns, inclusions}
use Rattle.rel_base.specs.RowState.{RowState, width}
use Rattle.fd_closure.specs.Keys.{table_key}
use Rattle.bcnf_split.specs.Split.{splits}
use Rattle.report_text.specs.Outcome.{demo_line}
use Rattle.normalize_text.specs.Normalize.{tables}
use Rattle.normalize_text.specs.Demo.{demo_content, demo_names, demo_rows, demo_text, drawn_row, row_from, rows_from, state_after}

-- one number more
pub cells_more : (numbers : List ℕ) (i d : ℕ) (cells next : Row) → i < length numbers → cells ≡ map decimal (take i numbers) → next ≡ cells ++ decimal (get_or numbers i d) ∷ [] → next ≡ map decimal (take (i + 1) numbers)
cells_more numbers i d cells next h so_far more =
    more ∙ ap (λ (cs : Row). cs ++ decimal (get_or numbers i d) ∷ []) so_far ∙ sym (map-append decimal (take i numbers) (get_or numbers i d ∷ [])) ∙ ap (map decimal) (sym (take_more numbers i d h))

-- one row more
pub rows_more : (count place s : ℕ) (rows next whole : List Row) (row : Row) → place < count → rows ++ rows_from (count - place) (place + 1) s ≡ whole → row ≡ row_from (place + 1) s → next ≡ rows ++ row ∷ []
    → next ++ rows_from (count - (place + 1)) (place + 1 + 1) (state_after s 6) ≡ whole
unfolding rows_from
rows_more count place s rows next whole row h so_far is more =
    let left : count - place ≡ suc (count - (place + 1)) = omega arith in
    let rest : List Row = rows_from (count - (place + 1)) (place + 1 + 1) (state_after s 6) in
    ap (λ (rs : List Row). rs ++ rest) (more ∙ ap (λ (x : Row). rows ++ x ∷ []) is) ∙ append_assoc rows (row_from (place + 1) s ∷ []) rest
    ∙ ap (λ (n : ℕ). rows ++ rows_from n (place + 1) s) (sym left) ∙ so_far

pub row-wide : (r s : ℕ) → length (row_from r s) ≡ 12
unfolding row_from drawn_row
row-wide r s = refl

pub rows_end : (count place r s : ℕ) (rows whole : List Row) → count ≤ place → rows ++ rows_from (count - place) r s ≡ whole → rows ≡ whole
unfolding rows_from
rows_end count place r s rows whole h so_far =
    let none : count - place ≡ 0 = omega arith in
    sym (append-nil rows) ∙ ap (λ (n : ℕ). rows ++ rows_from n r s) (sym none) ∙ so_far

-- the relation of a seed
pub demo-drawn : (r : Result Content AllocError) (seed : ℕ) (names : Row) → names ≡ demo_names → IfOk r (λ c. c.names ≡ names) → IfOk r (λ c. c.rows ≡ rows_from demo_rows 1 seed) → IfOk r (λ c. c ≡ demo_content seed)
unfolding demo_content
demo-drawn (Ok c) seed names e n s = λ i. record { names = (n ∙ e) i; rows = s i }
demo-drawn (Err x) seed names e n s = tt

-- the counts of what is written
pub demo-counted : (seed : ℕ) (r : RowState) (keys fds inds count : ℕ) (ts : List Table) → keys ≡ length (covers r).keys → fds ≡ length (covers r).fds → inds ≡ length (inclusions (all_columns (r ∷ [])))
    → ts ≡ tables r → count ≡ length ts → demo_line seed keys fds inds count ≡ demo_text seed r
unfolding demo_text
demo-counted seed r keys fds inds count ts k f i t n =
    let all_of : count ≡ length (splits r (all (width r))) = n ∙ ap length t ∙ length-map (splits r (all (width r))) (λ (x : Columns). record { columns = x; key = table_key r x }) in
    λ j. demo_line seed (k j) (f j) (i j) (all_of j)
