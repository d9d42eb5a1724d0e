use Rattle.std.proofs.Common.{inl, inr, ◌≡◌, ℕ, ◌<◌, ◌^◌, ◌∙◌, sym, ap, subst, not, ◌&&◌}
use Rattle.col_set.specs.ColSet.{subset, inter}
use Rattle.bcnf_split.proofs.PlainSplit.{violates-plainly, both_tests}
use Rattle.bcnf_split.proofs.tests.plain.violates.Goals as goal
use Rattle.bcnf_split.proofs.tests.plain.violates.Goals.{then-subset_of, else-subset_of}

pub returns-then-not-subset_of : goal.returns-then-not-subset_of
returns-then-not-subset_of c r e w b =
    let value : c.if-subset_of.value ≡ (subset c.args.x c.args.s && not (subset (inter c.args.s c.determined_columns-found.result) c.args.x)) =
    both_tests (subset c.args.x c.args.s) (not (subset (inter c.args.s c.determined_columns-found.result) c.args.x)) c.if-subset_of.value (elim c.if-subset_of.branch [
      | then-subset_of v ↦ inl (sym c.subset_of.ensures ∙ v.if-subset_of.true, v.value-is ∙ ap not (v.subset_of-then-subset_of.ensures ∙ ap (λ (z : ℕ). subset z c.args.x) v.inter.ensures))
      | else-subset_of v ↦ inr (sym c.subset_of.ensures ∙ v.if-subset_of.false, v.value-is ∙ v.if-subset_of.false)
    ]) in
    ap not c.subset_of-then-not-subset_of.ensures
    ∙ sym (ap (λ a. a && not (subset c.args.s c.determined_columns-found.result)) (sym value ∙ c.if-not-subset_of.true))
    ∙ violates-plainly r c.args.s c.args.x (subst (λ (m : ℕ). c.args.s < 2 ^ m) (sym w) b) c.determined_columns-found.result (c.determined_columns-found.ensures r e w)

pub returns-else-not-subset_of : goal.returns-else-not-subset_of
returns-else-not-subset_of c r e w b =
    let value : c.if-subset_of.value ≡ (subset c.args.x c.args.s && not (subset (inter c.args.s c.determined_columns-found.result) c.args.x)) =
    both_tests (subset c.args.x c.args.s) (not (subset (inter c.args.s c.determined_columns-found.result) c.args.x)) c.if-subset_of.value (elim c.if-subset_of.branch [
      | then-subset_of v ↦ inl (sym c.subset_of.ensures ∙ v.if-subset_of.true, v.value-is ∙ ap not (v.subset_of-then-subset_of.ensures ∙ ap (λ (z : ℕ). subset z c.args.x) v.inter.ensures))
      | else-subset_of v ↦ inr (sym c.subset_of.ensures ∙ v.if-subset_of.false, v.value-is ∙ v.if-subset_of.false)
    ]) in
    c.if-not-subset_of.false
    ∙ sym (ap (λ a. a && not (subset c.args.s c.determined_columns-found.result)) (sym value ∙ c.if-not-subset_of.false))
    ∙ violates-plainly r c.args.s c.args.x (subst (λ (m : ℕ). c.args.s < 2 ^ m) (sym w) b) c.determined_columns-found.result (c.determined_columns-found.ensures r e w)
