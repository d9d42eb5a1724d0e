use Rattle.std.proofs.Common.{◌∙◌}
use Rattle.plain_base.proofs.Included.{included-apart, included-itself}
use Rattle.plain_base.proofs.inclusion.is_included.Goals as goal

pub returns-then-dependent-referenced : goal.returns-then-dependent-referenced
returns-then-dependent-referenced c =
    c.are_cells_of.ensures
    ∙ included-apart c.args.columns.now c.args.dependent c.args.referenced c.index-columns-dependent.result c.index-columns-referenced.result c.requires.dependent c.requires.referenced
    c.if-dependent-referenced.true c.index-columns-dependent.is c.index-columns-referenced.is

pub returns-else-dependent-referenced : goal.returns-else-dependent-referenced
returns-else-dependent-referenced c = included-itself c.args.columns.now c.args.dependent c.args.referenced c.if-dependent-referenced.false
