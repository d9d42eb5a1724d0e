use Rattle.std.proofs.Common.{◌∙◌, sym, ap, length}
use Rattle.rel_base.specs.Relation.{Content}
use Rattle.rel_base.proofs.Across.{length-across}
use Rattle.rel_base.proofs.relation.Relation.len.Goals as goal

pub returns-clause-value : goal.returns-clause-value
returns-clause-value c = sym (length-across c.self.inside.columns.items c.self.inside.count) ∙ ap (λ (r : Content). length r.rows) c.self.view_is
