use Rattle.std.proofs.Common.{sym, ap, ◌∙◌}
use Rattle.col_set.specs.ColSet.{subset}
use Rattle.col_set.specs.Subsets.{subset-true}
use Rattle.stripped_partition.proofs.Ways.{popped_levels, fewer_levels}
use Rattle.stripped_partition.proofs.path.Levels.go_back.Goals as goal

pub loop-columns-preserved-in-loop-columns : goal.loop-columns-preserved-in-loop-columns
loop-columns-preserved-in-loop-columns c s are =
    let p = popped_levels s _ _ c.pop.result c.pop.ensures.items (c.loop-columns.invariant s are).before in
    record { before = p.0; last = p.1 }

pub loop-columns-preserved : goal.loop-columns-preserved
loop-columns-preserved c s are =
    let p = popped_levels s _ _ c.pop.result c.pop.ensures.items (c.loop-columns.invariant s are).before in
    record { before = p.0; last = p.1 }

pub loop-columns-smaller : goal.loop-columns-smaller
loop-columns-smaller c =
    fewer_levels c.loop-columns.self (record { below = c.pop.new.self; top = c.pop.result }) c.args.columns
    (ap (λ z. subset z c.args.columns) (sym c.columns.ensures) ∙ sym c.subset_of.ensures ∙ c.loop-columns-test.true) c.pop.ensures.cases

pub returns-clause-inside : goal.returns-clause-inside
returns-clause-inside c = subset-true (ap (λ z. subset z c.args.columns) (sym c.columns.ensures) ∙ sym c.subset_of.ensures ∙ c.loop-columns-test.false)
