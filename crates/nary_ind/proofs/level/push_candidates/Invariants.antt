use Rattle.std.proofs.Common.{◌≡◌, ◌++◌, map}
use Rattle.std.specs.List.{filter}
use Rattle.col_set.specs.ColSet.{upto}
use Rattle.nary_ind.specs.Levels.{extend, is_candidate}
use Rattle.nary_ind.proofs.level.push_candidates.Given as goal

abbrev pub invariant-loop-column : goal.invariant-loop-column
invariant-loop-column l = l.found.items ≡ l.initial.found.items ++ filter (is_candidate l.known l.side) (map (extend l.list) (upto l.column))
