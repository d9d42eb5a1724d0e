use Rattle.std.proofs.Common.{◌∙◌}
use Rattle.plain_base.proofs.Rows.{holds-sets}
use Rattle.plain_base.proofs.plain_rows.PlainRows.holds.Goals as goal

pub returns : goal.returns
returns c = c.determines.ensures ∙ holds-sets c.args.self.now c.as_slice.result.now c.args.x c.args.target (c.as_slice.ensures.value ∙ c.in_ok-sets.ensures)
