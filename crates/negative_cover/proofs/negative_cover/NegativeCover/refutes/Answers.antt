use Rattle.std.proofs.Common.{◌≡◌, ◌∙◌, refl, sym, ap, false}
use Rattle.std.proofs.lemmas.Bool.{true≢false}
use Rattle.col_set.specs.Evidence.{refuted}
use Rattle.negative_cover.specs.Witnesses.{sets_of}
use Rattle.negative_cover.proofs.Telling.{told_refuted, untold}
use Rattle.negative_cover.proofs.negative_cover.NegativeCover.refutes.Goals as goal

pub returns-then-refutes-clause-none : goal.returns-then-refutes-clause-none
returns-then-refutes-clause-none c =
    let e = ap (λ ws. refuted (sets_of ws) c.args.target c.args.x) (sym (c.as_slice-witness-items.ensures.value ∙ c.self.view_is))
    ∙ told_refuted c.args.target c.args.x c.as_slice-witness-items.result.now c.loop-witness.witness-index c.witness-item.result c.loop-witness-test.true c.witness-item.is (sym c.if-refutes.ensures) in
    ((λ h. absurd (true≢false h)), (λ h. absurd (true≢false (sym e ∙ h))))

pub returns-clause-none : goal.returns-clause-none
returns-clause-none c =
    let e : refuted (sets_of c.args.self.now) c.args.target c.args.x ≡ false = ap (λ ws. refuted (sets_of ws) c.args.target c.args.x) (sym (c.as_slice-witness-items.ensures.value ∙ c.self.view_is))
    ∙ untold c.args.target c.args.x c.as_slice-witness-items.result.now c.loop-witness.witness-index c.loop-witness-test.false c.loop-witness.invariant in
    ((λ h. e), (λ h. refl))
