use Rattle.cover_steps.proofs.Drafting.{parts_are}
use Rattle.cover_steps.proofs.new_lists.gathered.Goals as goal

pub returns : goal.returns
returns c = λ n ws candidates all. parts_are n ws candidates c.args.new_lists.items c.remove-row_id.result c.remove-row_id.new.self.items all c.remove-row_id.ensures.value c.remove-row_id.ensures.items
