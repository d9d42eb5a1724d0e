use Rattle.std.proofs.Common.{inl, inr, ◌≡◌, ◌⊎◌, ℕ, refl, sym, subst, arith}
use Rattle.col_set.proofs.Places.{Listed-get_or}
use Rattle.col_set.specs.Lists.{Listed}
use Rattle.cover_cert.proofs.Visits.{below-more}
use Rattle.cover_cert.proofs.holding.least_of.Goals as goal
use Rattle.cover_cert.proofs.holding.least_of.Goals.{then-place-least, else-place-least}

pub loop-place-init : goal.loop-place-init
loop-place-init c = record { bound = omega arith; below = λ k d l. absurd (omega arith); found = inl refl }

pub loop-place-preserved : goal.loop-place-preserved
loop-place-preserved c =
    let places = c.args.places.now in let n = c.loop-place.place-index in let inv = c.loop-place.invariant in
    let next = c.if-place-least.least in let old = c.loop-place.least in
    let most = inv.bound in
    elim c.if-place-least.branch [
      | then-place-least w ↦
          let is = w.least-is in let less = w.if-place-least.true in
          record {
            bound = omega arith;
            below = below-more places n old next c.args.bound c.loop-place-test.true (omega arith) (omega arith) inv.below;
            found = inr (subst (λ (m : ℕ). Listed m places) (sym is) (Listed-get_or places n 0 c.loop-place-test.true));
          }
      | else-place-least w ↦
          let is = w.least-is in let less = w.if-place-least.false in
          record {
            bound = omega arith;
            below = below-more places n old next c.args.bound c.loop-place-test.true (omega arith) (omega arith) inv.below;
            found = subst (λ (m : ℕ). (m ≡ c.args.bound) ⊎ Listed m places) (sym is) inv.found;
          }
    ]

pub returns-clause-least : goal.returns-clause-least
returns-clause-least c k d l = let m = c.loop-place-test.false in c.loop-place.invariant.below k d (omega arith)
