use Rattle.std.proofs.Common.{◌∙◌, sym, ap, length}
use Rattle.rel_base.proofs.Packed.{length-packed}
use Rattle.rel_base.proofs.cells.Cells.len.Goals as goal

pub returns : goal.returns
returns c = c.len.ensures ∙ c.self.inside.ends.ok.0 ∙ sym (length-packed c.self.inside.bytes.items c.self.inside.ends.items) ∙ ap length c.self.view_is
