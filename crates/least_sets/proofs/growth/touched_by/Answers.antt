use Rattle.std.proofs.Common.{◌≡◌, ◌∙◌, ◌++◌, ◌∷◌, [], List, ℕ, true, false, eqb, sym, ap, append-nil, rules}
use Rattle.std.proofs.lemmas.Bool.{eq-eqb, ne_eqb}
use Rattle.col_set.specs.ColSet.{subset, size}
use Rattle.least_sets.specs.Growth.{one_outside}
use Rattle.least_sets.proofs.Splitting.{subset_minus, inside_next, near_same, near_next}
use Rattle.least_sets.proofs.growth.touched_by.Goals as goal
use Rattle.least_sets.proofs.growth.touched_by.Goals.{then-eq+in_ok-push, else-eq+then-len-eq1+in_ok-push-2, else-eq+else-len-eq1}

pub loop-x-preserved : goal.loop-x-preserved
loop-x-preserved c =
    let z = c.args.z in
    let xs = c.args.sets.now in
    let i = c.loop-x.x-index in
    let x = c.x-item.result in
    let r = c.minus-out.result in
    elim c.if-eq.branch [
      | then-eq+in_ok-push w ↦
          let e : eqb r 0 ≡ true = search rules in
          let s : subset x z ≡ true = sym (subset_minus x z) ∙ ap (λ (v : ℕ). eqb v 0) (sym c.minus-out.ensures) ∙ e in
          record {
            inside = ap (λ v. v.items) w.inside-is ∙ w.in_ok-push.ensures.items ∙ ap (λ (ys : List ℕ). ys ++ x ∷ []) c.loop-x.invariant.inside ∙ sym (inside_next z xs i x c.loop-x-test.true c.x-item.is true s);
            near = ap (λ v. v.items) w.near-is ∙ c.loop-x.invariant.near ∙ sym (near_same z xs i x c.loop-x-test.true c.x-item.is s);
          }
      | else-eq+then-len-eq1+in_ok-push-2 w ↦
          let e : eqb r 0 ≡ false = search rules in
          let s : subset x z ≡ false = sym (subset_minus x z) ∙ ap (λ (v : ℕ). eqb v 0) (sym c.minus-out.ensures) ∙ e in
          let o : one_outside z x ≡ true = ap (λ (v : ℕ). eqb (size v) 1) (sym c.minus-out.ensures) ∙ eq-eqb (size r) 1 (sym w.len.ensures.value ∙ w.if-len-eq1.true) in
          record {
            inside = ap (λ v. v.items) w.inside-is ∙ c.loop-x.invariant.inside ∙ sym (inside_next z xs i x c.loop-x-test.true c.x-item.is false s ∙ append-nil _);
            near = ap (λ v. v.items) w.near-is ∙ w.in_ok-push-2.ensures.items ∙ ap (λ (ys : List ℕ). ys ++ x ∷ []) c.loop-x.invariant.near ∙ sym (near_next z xs i x c.loop-x-test.true c.x-item.is true s o);
          }
      | else-eq+else-len-eq1 w ↦
          let e : eqb r 0 ≡ false = search rules in
          let s : subset x z ≡ false = sym (subset_minus x z) ∙ ap (λ (v : ℕ). eqb v 0) (sym c.minus-out.ensures) ∙ e in
          let o : one_outside z x ≡ false = ap (λ (v : ℕ). eqb (size v) 1) (sym c.minus-out.ensures) ∙ ne_eqb (size r) 1 (λ h. w.if-len-eq1.false (w.len.ensures.value ∙ h)) in
          record {
            inside = ap (λ v. v.items) w.inside-is ∙ c.loop-x.invariant.inside ∙ sym (inside_next z xs i x c.loop-x-test.true c.x-item.is false s ∙ append-nil _);
            near = ap (λ v. v.items) w.near-is ∙ c.loop-x.invariant.near ∙ sym (near_next z xs i x c.loop-x-test.true c.x-item.is false s o ∙ append-nil _);
          }
    ]
