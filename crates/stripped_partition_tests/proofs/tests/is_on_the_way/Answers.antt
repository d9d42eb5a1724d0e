use Rattle.std.proofs.Common.{◌≡◌, ◌<◌, ◌^◌, ℕ, length, sym, ap, subst, ◌∙◌, arith}
use Rattle.std.proofs.lemmas.Nat.{pow_pos}
use Rattle.col_set.specs.ColSet.{with, empty}
use Rattle.col_set.specs.Subsets.{with_below}
use Rattle.rel_base.specs.CodeTable.{CodeTable}
use Rattle.stripped_partition.specs.Standing.{Standing}
use Rattle.stripped_partition_tests.proofs.tests.is_on_the_way.Goals as goal

-- one column is one of so many
below_one : (n none one k : ℕ) → none ≡ empty → one ≡ with none k → k < n → one < 2 ^ n
below_one n none one k e is l = subst (λ (x : ℕ). x < 2 ^ n) (sym (is ∙ ap (λ (x : ℕ). with x k) e)) (with_below empty k n (pow_pos n) l)

pub goes_to-requires : goal.goes_to-requires
goes_to-requires c =
    let n = c.columns-else-left-columns.ensures.value in let f = c.if-right-columns.false in
    subst (λ (s : CodeTable). c.with-one.result < 2 ^ length s.codes) (sym (ap (λ (p : Standing). p.table) c.in_ok-path.ensures))
    (below_one (length c.args.snapshot.now.codes) c.empty.result c.with-one.result c.args.right c.empty.ensures c.with-one.ensures (omega arith))

pub goes_to-requires-then-branch : goal.goes_to-requires-then-branch
goes_to-requires-then-branch c =
    let n = c.columns.ensures.value in let f = c.if-left-columns.false in
    let m = c.columns-else-left-columns.ensures.value in let g = c.if-right-columns.false in
    subst (λ (s : CodeTable). c.with.result < 2 ^ length s.codes) (sym (c.goes_to.ensures ∙ ap (λ (p : Standing). p.table) c.in_ok-path.ensures))
    (subst (λ (x : ℕ). x < 2 ^ length c.args.snapshot.now.codes) (sym c.with.ensures)
    (with_below c.with-one.result c.args.left (length c.args.snapshot.now.codes)
    (below_one (length c.args.snapshot.now.codes) c.empty.result c.with-one.result c.args.right c.empty.ensures c.with-one.ensures (omega arith)) (omega arith)))
