use Rattle.std.proofs.Common.{◌∙◌, List, ap}
use Rattle.candidate_cover.specs.declared.cand.Cand.{Cand}
use Rattle.candidate_cover.specs.Cands.{cands_of, holding}
use Rattle.candidate_cover.proofs.Remarked.{col_read, col_written}
use Rattle.candidate_cover.proofs.candidate_cover.CandidateCover.hold.Goals as goal

pub returns-in-Col-clause-list : goal.returns-in-Col-clause-list
returns-in-Col-clause-list c = col_written c.self.inside.row_id c.self.inside.columns.items c.args.self.now c.self.view_is c.args.target c.in-Col.column c.in-Col.is c.hold.new.self (holding (cands_of c.args.self.now c.args.target) c.args.x c.args.held)
    (c.hold.ensures.list ∙ ap (λ (cs : List Cand). holding cs c.args.x c.args.held) (col_read c.self.inside.row_id c.self.inside.columns.items c.args.self.now c.self.view_is c.args.target c.in-Col.column c.in-Col.is c.requires c.index_mut.result.now c.index_mut.result.now c.index_mut.ensures.value))
