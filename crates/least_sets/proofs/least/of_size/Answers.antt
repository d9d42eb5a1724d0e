use Rattle.std.proofs.Common.{◌∙◌, [], ℕ, Bool, true, false, eqb, sym, ap, append-nil}
use Rattle.std.proofs.lemmas.Bool.{eq-eqb, ne_eqb}
use Rattle.col_set.specs.ColSet.{size}
use Rattle.least_sets.proofs.Splitting.{kept_next}
use Rattle.least_sets.proofs.least.of_size.Goals as goal
use Rattle.least_sets.proofs.least.of_size.Goals.{then-len-size+in_ok-push, else-len-size}

pub loop-x-preserved : goal.loop-x-preserved
loop-x-preserved c =
    let p : ℕ → Bool = λ x. eqb (size x) c.args.size in
    elim c.if-len-size.branch [
      | then-len-size+in_ok-push w ↦
          ap (λ v. v.items) w.sets-is ∙ w.in_ok-push.ensures.items
          ∙ kept_next p c.args.found.now c.loop-x.x-index c.x-item.result c.loop-x-test.true c.x-item.is [] c.loop-x.sets.items c.loop-x.invariant true (eq-eqb (size c.x-item.result) c.args.size (sym c.len.ensures.value ∙ w.if-len-size.true))
      | else-len-size w ↦
          ap (λ v. v.items) w.sets-is ∙ sym (append-nil c.loop-x.sets.items)
          ∙ kept_next p c.args.found.now c.loop-x.x-index c.x-item.result c.loop-x-test.true c.x-item.is [] c.loop-x.sets.items c.loop-x.invariant false (ne_eqb (size c.x-item.result) c.args.size (λ e. w.if-len-size.false (c.len.ensures.value ∙ e)))
    ]
