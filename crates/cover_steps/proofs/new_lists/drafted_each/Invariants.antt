use Rattle.std.proofs.Common.{take}
use Rattle.std.specs.List.{AllZip}
use Rattle.candidate_cover.specs.Cands.{width}
use Rattle.cover_steps.specs.NewLists.{IsNewList}
use Rattle.cover_steps.proofs.new_lists.drafted_each.Given as goal

abbrev pub invariant-loop-target : goal.invariant-loop-target
invariant-loop-target l = AllZip (IsNewList (width l.candidates) l.draft.agree_sets l.candidates) (take l.target-index l.targets) l.new_lists.items
