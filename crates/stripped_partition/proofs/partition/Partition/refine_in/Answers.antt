use Rattle.std.proofs.lemmas.Result.{IfOk-weaker}
use Rattle.col_set.specs.ColSet.{with}
use Rattle.stripped_partition.proofs.Refining.{in_its_order, put_in_order}
use Rattle.stripped_partition.proofs.partition.Partition.refine_in.Goals as goal

pub refine_unordered-requires-clause-of : goal.refine_unordered-requires-clause-of
refine_unordered-requires-clause-of c = record { columns = c.requires.of.columns; are = in_its_order c.args.snapshot.now c.requires.of.columns c.args.self.now c.requires.of.is }

pub returns-clause-value : goal.returns-clause-value
returns-clause-value c = IfOk-weaker c.ordered.result _ _ (λ p order x e.
    put_in_order c.args.snapshot.now (with x c.args.column) c.in_ok-unordered.unordered p (c.in_ok-unordered.ensures.groups x (in_its_order c.args.snapshot.now x c.args.self.now e)) order) c.ordered.ensures

pub returns-clause-of : goal.returns-clause-of
returns-clause-of c = IfOk-weaker c.ordered.result _ _ (λ p order. record {
  columns = with c.requires.of.columns c.args.column;
  is = put_in_order c.args.snapshot.now (with c.requires.of.columns c.args.column) c.in_ok-unordered.unordered p
      (c.in_ok-unordered.ensures.groups c.requires.of.columns (in_its_order c.args.snapshot.now c.requires.of.columns c.args.self.now c.requires.of.is)) order;
}) c.ordered.ensures
