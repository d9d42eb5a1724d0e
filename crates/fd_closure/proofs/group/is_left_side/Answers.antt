use Rattle.std.proofs.Common.{rules}
use Rattle.std.proofs.lemmas.Fn.{always_returns_same}
use Rattle.rel_base.specs.declared.dependency.Fd.{Fd}
use Rattle.rel_base.specs.Covers.{fd_cmp}
use Rattle.fd_closure.proofs.Reaching.{left_side-inside}
use Rattle.fd_closure.proofs.group.is_left_side.Goals as goal

pub returns : goal.returns
returns c = left_side-inside c.args.fds.now c.args.x c.args.column c.binary_search_by.result c.is_ok.result c.binary_search_by.ensures.bound
    (c.binary_search_by.ensures.position (λ (fd : Fd). fd_cmp fd (record { left = c.args.x; right = c.args.column })) (always_returns_same _ _ _ (λ a r f' k. search rules)))
    c.is_ok.ensures.value
