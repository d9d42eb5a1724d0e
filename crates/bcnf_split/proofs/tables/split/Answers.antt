use Rattle.std.proofs.Common.{ℕ, ◌∙◌, ap, ◌++◌, List}
use Rattle.rel_base.specs.declared.dependency.Table.{Table}
use Rattle.bcnf_split.specs.Split.{tables_of}
use Rattle.bcnf_split.proofs.Tabling.{all_table}
use Rattle.bcnf_split.proofs.tables.split.Goals as goal

pub returns : goal.returns
returns c r is w e =
    c.in_ok-push_tables.ensures r (all_table c.args.covers.now r c.args.n c.all.result is w e c.all.ensures)
    ∙ ap (λ (ts : List Table). ts ++ tables_of r c.all.result) c.new-tables.ensures.items
    ∙ ap (λ (z : ℕ). tables_of r z) c.all.ensures
