use Rattle.std.proofs.Common.{◌∙◌, sym, subst, IsPermutation}
use Rattle.fd_closure.proofs.Siding.{if_ok, tells_permuted}
use Rattle.fd_closure.proofs.sides.sides_of.Goals as goal

pub returns : goal.returns
returns c = if_ok c.joined_sides.result
    (λ sides f x a. f x a ∙ tells_permuted c.args.covers.now.fds c.in_ok-single.single.items c.as_slice.result.now
    (subst (IsPermutation c.in_ok-single.single.items) (sym c.as_slice.ensures.value) c.sort_unstable_by.ensures.permutation)
    c.in_ok-single.ensures x a)
    c.joined_sides.ensures
