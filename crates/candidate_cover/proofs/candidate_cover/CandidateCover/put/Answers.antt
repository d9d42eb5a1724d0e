use Rattle.std.proofs.Common.{◌∙◌, ap}
use Rattle.candidate_cover.specs.Marks.{cands}
use Rattle.candidate_cover.proofs.Remarked.{col_written}
use Rattle.candidate_cover.proofs.candidate_cover.CandidateCover.put.Goals as goal

pub returns-in-Col : goal.returns-in-Col
returns-in-Col c = col_written c.self.inside.row_id c.self.inside.columns.items c.args.self.now c.self.view_is c.args.target c.in-Col.column c.in-Col.is c.replace.new.dest c.args.new_list (ap cands c.replace.ensures.after ∙ c.into_list-list.ensures)
