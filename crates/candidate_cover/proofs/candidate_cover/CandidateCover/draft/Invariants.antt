use Rattle.std.proofs.Common.{◌≡◌, map}
use Rattle.col_set.specs.ColSet.{upto}
use Rattle.least_sets.specs.Drafts.{lists_behind}
use Rattle.candidate_cover.proofs.Drafted.{column_lefts}
use Rattle.candidate_cover.proofs.candidate_cover.CandidateCover.draft.Given as goal

abbrev pub invariant-loop-column : goal.invariant-loop-column
invariant-loop-column l = lists_behind l.columns.items ≡ map (column_lefts l.fn.self) (upto l.column)
