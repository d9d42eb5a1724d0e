-- Which inclusions are still possible.
use Rattle.std.specs.Prelude.{◌≡◌, ◌≢◌, ◌⊎◌, ◌<◌, ℕ, ◌*◌, ◌==◌, ◌&&◌, not, Bool, false, List, [], drop, map}
use Rattle.std.specs.List.{flat_map}
use Rattle.col_set.specs.ColSet.{upto}
use Rattle.rel_base.specs.Cells.{Cell}
use Rattle.inclusion_merge.specs.Sharing.{list_at}
use Rattle.inclusion_merge.specs.WideSet.{has_wide}
use Rattle.inclusion_merge.specs.declared.candidates.Candidates.{Candidates}

-- whether a column may still be included in another: the set of these columns stands behind those of the columns before it
abbrev pub may : Candidates → ℕ → ℕ → Bool
may c dependent referenced = has_wide (drop (dependent * c.parts) c.kept.items) referenced

-- what is left of a column's list tells nothing more: the column is included in no other, and nothing is left of those that may be included in it
abbrev pub IsSpent : Candidates → List (List Cell) → ℕ → Type 0
IsSpent c rests column = (other : ℕ) → other < c.columns → other ≢ column → (may c column other ≡ false)
    × ((may c other column ≡ false) ⊎ (list_at rests other ≡ []))

-- a column's list stays as it was, or nothing is left of it and the column is spent
abbrev pub IsSameOrSpent : Candidates → List (List Cell) → ℕ → List Cell → List Cell → Type 0
IsSameOrSpent c rests column old new = (new ≡ old) ⊎ ((new ≡ []) × IsSpent c rests column)

-- whether two columns differ, and the first may still be included in the second
abbrev pub is_left : Candidates → ℕ × ℕ → Bool
is_left c p = not (p.0 == p.1) && may c p.0 p.1

-- a column with each of these
abbrev pub pairs_from : ℕ → List ℕ → List (ℕ × ℕ)
pairs_from dependent referenced = map (λ d. (dependent, d)) referenced

-- each of the first so many columns with each of so many
abbrev pub pairs_among : ℕ → ℕ → List (ℕ × ℕ)
pairs_among columns count = flat_map (λ c. pairs_from c (upto columns)) (upto count)
