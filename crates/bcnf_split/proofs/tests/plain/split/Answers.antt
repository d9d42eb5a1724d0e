use Rattle.std.proofs.Common.{ℕ, ◌<◌, ◌^◌, ◌∙◌, ap, sym, subst, ◌++◌, List}
use Rattle.rel_base.specs.declared.dependency.Table.{Table}
use Rattle.bcnf_split.proofs.PlainSplit.{plain_tables, with_keys}
use Rattle.bcnf_split.specs.Split.{splits_within}
use Rattle.bcnf_split.proofs.Tabling.{all-below}
use Rattle.bcnf_split.proofs.tests.plain.split.Goals as goal

pub returns : goal.returns
returns c r e w =
    c.in_ok-push_tables.ensures r e w (subst (λ (z : ℕ). z < 2 ^ c.args.n) (sym c.all.ensures) (all-below c.args.n))
    ∙ ap (λ (ts : List Table). ts ++ with_keys r (splits_within c.set_count.result r c.all.result)) c.new-tables.ensures.items
    ∙ plain_tables r c.args.n c.all.result c.set_count.result w c.all.ensures c.set_count.ensures
