use Rattle.std.proofs.Common.{ℕ, sym, ap, ◌∙◌, subst}
use Rattle.rel_base.specs.CodeTable.{CodeTable}
use Rattle.col_set.specs.ColSet.{with}
use Rattle.stripped_partition.specs.AnyOrder.{AreGroupsBy}
use Rattle.stripped_partition.specs.Standing.{Standing}
use Rattle.stripped_partition.proofs.path.Path.go_on.Goals as goal

pub invariant_of-self-3 : goal.invariant_of-self-3
invariant_of-self-3 c =
    let kept = c.self-2.invariant in
    let partition = c.in_ok-partition.partition in
    let table = ap (λ (v : Standing). v.table) (c.self-2.view_is ∙ c.in_ok-partition.ensures.same) in
    let columns = c.with-columns.ensures ∙ ap (λ (z : ℕ). with z c.args.column) c.columns.ensures in
    record {
      whole = kept.whole;
      each = c.push.ensures.levels c.self-2.inside.snapshot.now kept.each
          (subst (λ (s : CodeTable). AreGroupsBy s c.with-columns.result partition) (sym table)
          (subst (λ (x : ℕ). AreGroupsBy c.self.inside.snapshot.now x partition) (sym columns) c.in_ok-partition.ensures.groups));
      clear = kept.clear;
    }
