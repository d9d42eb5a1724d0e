use Rattle.std.proofs.Common.{◌∙◌, ap, ◌++◌, List}
use Rattle.rel_base.specs.declared.dependency.Table.{Table}
use Rattle.bcnf_split.proofs.Tabling.{on_ok, part_table, tables_whole, tables_joined}
use Rattle.bcnf_split.proofs.tables.+push_tables.Goals as goal

pub returns-in_ok-push-in-None : goal.returns-in_ok-push-in-None
returns-in_ok-push-in-None d c r t = c.in_ok-push-in-None.ensures.items ∙ ap (λ (ts : List Table). c.args.tables.now.items ++ ts) (tables_whole c.args.covers.now r c.args.s t c.shrink_key.result (c.shrink_key.ensures.told c.args.covers.now.fds c.requires) (c.in-None.ensures.first r t))

pub returns-in_ok-push_tables-in-Some : goal.returns-in_ok-push_tables-in-Some
returns-in_ok-push_tables-in-Some d c = on_ok c.push_tables-in-Some.result
    (λ f r t. tables_joined c.args.covers.now r c.args.s t c.in-Some.parting c.args.tables.now.items c.push_tables.new.tables.items c.push_tables-in-Some.new.tables.items c.minus.result c.union.result c.minus.ensures c.union.ensures
    (c.in-Some.ensures.told r t) (c.in-Some.ensures.first r t)
    (c.in_ok-push_tables-in-Some.ensures r (part_table c.args.covers.now r c.args.s t c.minus.result _ c.minus.ensures c.in-Some.ensures.smaller.rest))
    (f r (part_table c.args.covers.now r c.args.s t c.union.result _ c.union.ensures c.in-Some.ensures.smaller.moved)))
    c.push_tables-in-Some.ensures
