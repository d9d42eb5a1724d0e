use Rattle.std.proofs.Common.{◌∙◌, List, ap}
use Rattle.candidate_cover.specs.declared.cand.Cand.{Cand}
use Rattle.candidate_cover.specs.Cands.{cands_of, marked}
use Rattle.candidate_cover.proofs.Remarked.{col_read, col_written}
use Rattle.candidate_cover.proofs.candidate_cover.CandidateCover.mark.Goals as goal

pub returns-in-Col-clause-list : goal.returns-in-Col-clause-list
returns-in-Col-clause-list c = col_written c.self.inside.row_id c.self.inside.columns.items c.args.self.now c.self.view_is c.args.target c.in-Col.column c.in-Col.is c.mark_in.new.list (marked (cands_of c.args.self.now c.args.target) c.args.x c.args.to)
    (c.mark_in.ensures.list ∙ ap (λ (cs : List Cand). marked cs c.args.x c.args.to) (col_read c.self.inside.row_id c.self.inside.columns.items c.args.self.now c.self.view_is c.args.target c.in-Col.column c.in-Col.is c.requires c.index_mut.result.now c.index_mut.result.now c.index_mut.ensures.value))
