use Rattle.std.proofs.Common.{◌∙◌, ap}
use Rattle.candidate_cover.specs.Cands.{cands_of}
use Rattle.candidate_cover.specs.Marks.{cands}
use Rattle.candidate_cover.proofs.Remarked.{col_read, col_written, with_list-own}
use Rattle.candidate_cover.proofs.candidate_cover.CandidateCover.look_near.Goals as goal

pub returns-in-Col : goal.returns-in-Col
returns-in-Col c = col_written c.self.inside.row_id c.self.inside.columns.items c.args.self.now c.self.view_is c.args.target c.in-Col.column c.in-Col.is c.look_near.new.self (cands_of c.args.self.now c.args.target)
    (ap cands c.look_near.ensures ∙ col_read c.self.inside.row_id c.self.inside.columns.items c.args.self.now c.self.view_is c.args.target c.in-Col.column c.in-Col.is c.requires c.index_mut.result.now c.index_mut.result.now c.index_mut.ensures.value)
    ∙ with_list-own c.args.self.now c.args.target
