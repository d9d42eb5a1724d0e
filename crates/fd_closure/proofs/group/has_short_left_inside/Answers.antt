use Rattle.std.proofs.Common.{◌≡◌, ℕ, true, sym, subst, ◌∙◌, arith, ◌<◌, length, false}
use Rattle.std.specs.List.Sorted.{IsPartitionPoint}
use Rattle.fd_closure.specs.Closure.{is_short}
use Rattle.fd_closure.proofs.Grouping.{inside-at, inside-none}
use Rattle.fd_closure.proofs.group.has_short_left_inside.Goals as goal

pub returns-then-subset_of : goal.returns-then-subset_of
returns-then-subset_of c =
    let b = c.end_of-end.ensures.bound in let l = c.loop-k-test.true in let inside : c.loop-k.k < length c.args.fds.now = omega arith in
    sym (inside-at c.args.fds.now c.args.x c.args.column c.loop-k.k c.index-fds-k.result c.index-fds-k.is inside c.if-fd-column.true (sym c.subset_of.ensures ∙ c.if-subset_of.true))

pub returns : goal.returns
returns c = sym (inside-none c.args.fds.now c.args.x c.args.column c.start_of-start.result c.end_of-end.result c.start_of-start.ensures.place
    (subst (λ (n : ℕ). IsPartitionPoint (λ fd. is_short c.args.column n fd ≡ true) (λ fd. is_short c.args.column n fd ≡ false) c.args.fds.now c.end_of-end.result) c.len.ensures.value c.end_of-end.ensures.place)
    (λ k fd a b i. let l = c.loop-k-test.false in c.loop-k.invariant k fd a (omega arith) i))
