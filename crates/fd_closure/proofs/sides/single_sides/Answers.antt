use Rattle.std.proofs.Common.{◌≡◌, ◌<◌, ◌+◌, ◌∙◌, ◌++◌, ◌∷◌, [], ℕ, List, sym, ap, subst, take, length, get_or, arith}
use Rattle.col_set.specs.ColSet.{with}
use Rattle.rel_base.specs.declared.dependency.Fd.{Fd}
use Rattle.fd_closure.specs.Closure.{Tells}
use Rattle.fd_closure.proofs.Siding.{tells_nothing, tells_taken}
use Rattle.fd_closure.proofs.sides.single_sides.Goals as goal
use Rattle.fd_closure.proofs.sides.single_sides.Goals.{then-fd-lt-MOST_COLUMNS+in_ok-push, else-fd-lt-MOST_COLUMNS}

pub loop-fd-init : goal.loop-fd-init
loop-fd-init c = subst (Tells []) (sym c.in_ok-sides.ensures.items) tells_nothing

pub loop-fd-preserved : goal.loop-fd-preserved
loop-fd-preserved c = elim c.if-fd-lt-MOST_COLUMNS.branch [
  | then-fd-lt-MOST_COLUMNS+in_ok-push w ↦
      let items = ap (λ (v : List (ℕ × ℕ)). v) w.in_ok-push.ensures.items in
      subst (Tells (take (c.loop-fd.fd-index + 1) c.fds-fd-items.result.now))
      (ap (λ (z : ℕ). c.loop-fd.sides.items ++ (c.fd-item.result.left, z) ∷ []) (sym (w.with.ensures ∙ ap (λ (z : ℕ). with z c.fd-item.result.right) w.empty.ensures)) ∙ sym (ap (λ (v : _). v.items) w.sides-is ∙ items))
      (tells_taken c.fds-fd-items.result.now c.loop-fd.fd-index c.fd-item.result c.loop-fd.sides.items c.loop-fd-test.true c.fd-item.is c.loop-fd.invariant)
  | else-fd-lt-MOST_COLUMNS w ↦
      let n = c.fds-fd-items.ensures.order.narrow c.loop-fd.fd-index c.fd-item.result (subst (λ (us : List Fd). c.loop-fd.fd-index < length us) c.fds-fd-items.ensures.value c.loop-fd-test.true) in
      let e : c.fd-item.result.right ≡ (get_or c.args.covers.now.fds c.loop-fd.fd-index c.fd-item.result).right = ap (λ (q : Fd). q.right) (c.fd-item.is ∙ ap (λ (us : List Fd). get_or us c.loop-fd.fd-index c.fd-item.result) c.fds-fd-items.ensures.value) in
      let l = w.if-fd-lt-MOST_COLUMNS.false in
      absurd (omega (arith, n, e, l))
]
