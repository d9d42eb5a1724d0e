use Rattle.std.proofs.Common.{◌≡◌, take}
use Rattle.std.specs.List.{filter, flat_map}
use Rattle.nary_ind.specs.Levels.{grown, is_candidate}
use Rattle.nary_ind.proofs.level.candidates_of.Given as goal

abbrev pub invariant-loop-list : goal.invariant-loop-list
invariant-loop-list l = l.found.items ≡ filter (is_candidate l.known l.side) (flat_map (grown l.known) (take l.list-index l.into))
