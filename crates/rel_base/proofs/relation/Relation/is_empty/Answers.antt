use Rattle.std.proofs.Common.{◌∙◌, ◌==◌, sym, ap, ℕ, length}
use Rattle.rel_base.specs.Relation.{Content}
use Rattle.rel_base.proofs.Across.{length-across}
use Rattle.rel_base.proofs.relation.Relation.is_empty.Goals as goal

pub returns : goal.returns
returns c = ap (λ (n : ℕ). n == 0) (sym (length-across c.self.inside.columns.items c.self.inside.count) ∙ ap (λ (r : Content). length r.rows) c.self.view_is)
