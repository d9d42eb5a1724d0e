use Rattle.std.proofs.Common.{◌∙◌, ◌==◌, sym, ap, ℕ, length}
use Rattle.rel_base.proofs.Packed.{length-packed}
use Rattle.rel_base.proofs.cells.Cells.is_empty.Goals as goal

pub returns : goal.returns
returns c = c.is_empty.ensures ∙ ap (λ (n : ℕ). n == 0) (c.self.inside.ends.ok.0 ∙ sym (length-packed c.self.inside.bytes.items c.self.inside.ends.items) ∙ ap length c.self.view_is)
