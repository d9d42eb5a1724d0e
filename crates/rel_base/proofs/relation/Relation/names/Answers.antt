use Rattle.std.proofs.Common.{subst}
use Rattle.rel_base.specs.Relation.{IsContent}
use Rattle.rel_base.proofs.Across.{IsContent-kept}
use Rattle.rel_base.proofs.relation.Relation.names.Goals as goal

pub returns-clause-bounds : goal.returns-clause-bounds
returns-clause-bounds c = subst IsContent c.self.view_is (IsContent-kept c.self.inside.names c.self.inside.columns.items c.self.inside.count c.self.invariant)
