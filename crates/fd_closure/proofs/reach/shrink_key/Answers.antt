use Rattle.std.proofs.Common.{◌≡◌, ℕ, suc, ◌-◌, ◌∙◌, sym, ap, subst, arith}
use Rattle.std.proofs.lemmas.Bool.{and_left, and_right}
use Rattle.col_set.specs.ColSet.{IsSubset, has, subset}
use Rattle.col_set.specs.Subsets.{IsSubset-trans}
use Rattle.fd_closure.specs.Closure.{closure_of}
use Rattle.fd_closure.proofs.Shrinking.{without-subset, shrunk-dropped, shrunk-end, shrunk-kept}
use Rattle.fd_closure.proofs.reach.shrink_key.Goals as goal
use Rattle.fd_closure.proofs.reach.shrink_key.Goals.{else-has-via-then-has+else-determines, else-has-via-else-has}

pub loop-column-preserved-then-determines : goal.loop-column-preserved-then-determines
loop-column-preserved-then-determines c =
    let l = c.loop-column-test.true in
    let e : c.loop-column.column ≡ suc (c.loop-column.column - 1) = omega arith in
    record {
      inside = subst (λ (z : ℕ). IsSubset z c.args.s) (sym c.without-key.ensures) (IsSubset-trans (without-subset c.loop-column.key (c.loop-column.column - 1)) c.loop-column.invariant.inside);
      value = shrunk-dropped (λ x. subset c.args.s (closure_of c.args.covers.now.fds x)) c.loop-column.column (c.loop-column.column - 1) c.loop-column.key c.without-key.result e (sym c.has.ensures ∙ c.if-has.true)
          (ap (λ (z : ℕ). subset c.args.s (closure_of c.args.covers.now.fds z)) (c.without-key.ensures ∙ sym c.without.ensures) ∙ sym c.determines.ensures ∙ c.if-determines.true) c.without-key.ensures
          ∙ c.loop-column.invariant.value;
    }

pub loop-column-preserved : goal.loop-column-preserved
loop-column-preserved c =
    let l = c.loop-column-test.true in
    let e : c.loop-column.column ≡ suc (c.loop-column.column - 1) = omega arith in
    record {
      inside = c.loop-column.invariant.inside;
      value = shrunk-kept (λ x. subset c.args.s (closure_of c.args.covers.now.fds x)) c.loop-column.column (c.loop-column.column - 1) c.loop-column.key e
          (elim c.else-has.branch [
            | else-has-via-then-has+else-determines w ↦ and_right (has c.loop-column.key (c.loop-column.column - 1)) _
                (ap (λ (z : ℕ). subset c.args.s (closure_of c.args.covers.now.fds z)) (sym w.without.ensures) ∙ sym w.determines.ensures ∙ w.if-determines.false)
            | else-has-via-else-has w ↦ and_left _ _ (sym c.has.ensures ∙ w.if-has.false)
          ])
          ∙ c.loop-column.invariant.value;
    }

pub returns-clause-value : goal.returns-clause-value
returns-clause-value c = sym (shrunk-end (λ x. subset c.args.s (closure_of c.args.covers.now.fds x)) c.loop-column.column c.loop-column.key c.loop-column-test.false) ∙ c.loop-column.invariant.value
