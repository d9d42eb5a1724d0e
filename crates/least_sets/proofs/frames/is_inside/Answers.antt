use Rattle.std.proofs.Common.{◌≡◌, ◌∙◌, ◌||◌, Bool, true, false, refl, sym, ap, ℕ}
use Rattle.std.proofs.lemmas.List.{take_all}
use Rattle.std.proofs.lemmas.List.Folds.{list_any_at, list_any_more}
use Rattle.std.specs.List.{list_any}
use Rattle.col_set.specs.ColSet.{inter, subset}
use Rattle.least_sets.proofs.frames.is_inside.Goals as goal

neither : (a b : Bool) → a ≡ false → b ≡ false → (a || b) ≡ false
neither false b e f = f
neither true b e f = e

pub loop-v-init : goal.loop-v-init
loop-v-init g c = refl

pub returns-then-subset_of : goal.returns-then-subset_of
returns-then-subset_of g c =
    let p = λ (v : ℕ). subset (inter c.args.w c.args.free) v in
    sym (list_any_at p c.args.others.now c.loop-v.v-index c.v-item.result c.loop-v-test.true
    (ap p (sym c.v-item.is) ∙ ap (λ (u : ℕ). subset u c.v-item.result) (sym c.inter-own.ensures) ∙ sym c.if-subset_of.ensures))

pub loop-v-preserved : goal.loop-v-preserved
loop-v-preserved g c =
    let p = λ (v : ℕ). subset (inter c.args.w c.args.free) v in
    list_any_more p c.args.others.now c.loop-v.v-index c.v-item.result c.loop-v-test.true
    ∙ neither _ _ c.loop-v.invariant (ap p (sym c.v-item.is) ∙ ap (λ (u : ℕ). subset u c.v-item.result) (sym c.inter-own.ensures) ∙ sym c.if-subset_of.ensures)

pub returns : goal.returns
returns g c = sym (sym (ap (list_any (λ v. subset (inter c.args.w c.args.free) v)) (take_all c.loop-v.v-index c.args.others.now c.loop-v-test.false)) ∙ c.loop-v.invariant)
