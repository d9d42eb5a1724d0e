use Rattle.std.specs.List.{All}
use Rattle.candidate_cover.specs.Cands.{width}
use Rattle.cover_steps.specs.NewLists.{IsPlaced}
use Rattle.cover_steps.proofs.new_lists.drafted_in_turn.Given as goal

abbrev pub invariant-loop : goal.invariant-loop
invariant-loop l = All (IsPlaced (width l.candidates) l.draft.agree_sets l.candidates l.targets) l.made.items
