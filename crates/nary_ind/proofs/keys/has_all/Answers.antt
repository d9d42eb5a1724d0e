use Rattle.std.proofs.Common.{◌∙◌, ℕ, arith, below_more, get_or, refl, sym, subst}
use Rattle.std.proofs.lemmas.Bool.{false≢true}
use Rattle.col_set.specs.Listing.{Listed}
use Rattle.nary_ind.proofs.Keying.{all-listed, listed-place}
use Rattle.nary_ind.proofs.keys.has_all.Goals as goal

pub returns-then-not-has : goal.returns-then-not-has
returns-then-not-has c = (
  (λ e. absurd (false≢true e)),
  (λ f. absurd (false≢true (sym c.if-not-has.true ∙ c.has.ensures.1 (f c.key_at.result (listed-place c.args.keys.now c.loop-place.place c.key_at.result (omega arith) c.key_at.ensures))))),
)

pub loop-place-preserved : goal.loop-place-preserved
loop-place-preserved c =
    below_more (λ (k : ℕ). Listed (get_or c.args.keys.now k 0) c.args.found.now) c.loop-place.place c.loop-place.invariant
    (subst (λ (k : ℕ). Listed k c.args.found.now) c.key_at.ensures (c.has.ensures.0 c.if-not-has.false))

pub returns : goal.returns
returns c = ((λ e. all-listed c.args.keys.now c.args.found.now c.loop-place.place (omega arith) (λ k m g. c.loop-place.invariant k m)), (λ f. refl))
