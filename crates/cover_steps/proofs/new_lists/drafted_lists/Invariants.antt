use Rattle.std.proofs.Common.{take}
use Rattle.std.specs.List.{All, AllZip}
use Rattle.candidate_cover.specs.Cands.{width}
use Rattle.cover_steps.specs.NewLists.{IsNewList, IsPlaced}
use Rattle.cover_steps.proofs.new_lists.drafted_lists.Given as goal

abbrev pub invariant-loop-place : goal.invariant-loop-place
invariant-loop-place g l = record {
  made : All (IsPlaced (width l.candidates) l.draft.agree_sets l.candidates l.targets) l.made.items;
  listed : AllZip (IsNewList (width l.candidates) l.draft.agree_sets l.candidates) (take l.place l.targets) l.new_lists.items;
}
