use Rattle.std.proofs.Common.{◌≡◌, ◌<◌, subst, ℕ, [], length, map, get_or}
use Rattle.rel_base.specs.Cells.{Row, cell}
use Rattle.rel_base.specs.Relation.{Content, IsContent}
use Rattle.rel_base.proofs.Across.{IsContent-kept, column-across}
use Rattle.rel_base.proofs.relation.Relation.into_columns.Goals as goal

pub returns-clause-cells : goal.returns-clause-cells
returns-clause-cells c =
    subst (λ (r : Content). (j : ℕ) → j < length r.names → get_or c.self.inside.columns.items j [] ≡ map (λ (row : Row). cell row j) r.rows) c.self.view_is
    (column-across c.self.inside.names c.self.inside.columns.items c.self.inside.count c.self.invariant)

pub returns-clause-bounds : goal.returns-clause-bounds
returns-clause-bounds c = subst IsContent c.self.view_is (IsContent-kept c.self.inside.names c.self.inside.columns.items c.self.inside.count c.self.invariant)
