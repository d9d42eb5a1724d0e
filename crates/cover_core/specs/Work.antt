-- How much `finish` has left to do: what falls with each of its turns.
use Rattle.std.specs.Prelude.{◌≡◌, ℕ, ◌+◌, ◌-◌, ◌*◌, List, ◌++◌, length}
use Rattle.std.specs.List.{count_by, sum_by}
use Rattle.col_set.specs.declared.target.Target.{Target}
use Rattle.col_set.specs.ColSet.{all_sets}
use Rattle.rel_base.specs.RowState.{width, next}
use Rattle.rel_base.specs.Validity.{agree_sets}
use Rattle.negative_cover.specs.declared.negative_cover.Witness.{Witness}
use Rattle.cover_steps.specs.Core.{Core, targets, cands, is_unfinished}
use Rattle.cover_steps.specs.Laws.{different}

-- how many candidates of a target, and of all, are unfinished
abbrev pub unfinished_of : Core → Target → ℕ
unfinished_of s t = count_by (is_unfinished (next s.rows)) (cands s t)

unfoldable pub unfinished : Core → ℕ
unfinished s = sum_by (unfinished_of s) (targets (width s.rows))

-- more than there can be
unfoldable pub bound : ℕ → ℕ
bound n = length (targets n) * length (all_sets n) + 1

-- the agree sets that are not booked yet count for more than all candidates
unfoldable pub work : Core → ℕ
work s = (length (different (agree_sets s.rows)) - length s.witnesses) * bound (width s.rows) + unfinished s

-- the witnesses that there were come first
abbrev pub Extends : List Witness → List Witness → Type 0
Extends old new = (more : List Witness) × (new ≡ old ++ more)
