use Rattle.std.proofs.Common.{◌≤◌, length}
use Rattle.candidate_cover.specs.Marks.{fresh_mark}
use Rattle.candidate_cover.specs.Pairs.{pairs_of, AreEven}
use Rattle.candidate_cover.proofs.Toggling.{Toggling}
use Rattle.candidate_cover.proofs.cand_list.Lists.toggled.Given as goal

abbrev pub invariant-loop-x : goal.invariant-loop-x
invariant-loop-x l = record {
  within : l.rest ≤ length l.self.sets.items;
  even : AreEven l.made.sets.items l.made.uptos.items l.made.helds.items;
  whole : Toggling (pairs_of l.self.sets.items l.self.uptos.items l.self.helds.items) l.sets fresh_mark l.x-index (pairs_of l.made.sets.items l.made.uptos.items l.made.helds.items) l.rest;
}
