use Rattle.std.proofs.Common.{◌∙◌, ℕ, sym, ap, arith}
use Rattle.std.proofs.lemmas.List.Filters.{FiltersInPlace-more_set}
use Rattle.col_set.specs.ColSet.{with}
use Rattle.least_sets.proofs.Splitting.{passed_in_place}
use Rattle.least_sets.proofs.Branches.{single_inside}
use Rattle.least_sets.proofs.frames.move_having.Goals as goal
use Rattle.least_sets.proofs.frames.move_having.Goals.{then-subset_of, else-subset_of}

pub loop-place-preserved : goal.loop-place-preserved
loop-place-preserved g c =
    let told = sym (single_inside c.args.column c.index-sets-place.result c.with-single.result (c.with-single.ensures ∙ ap (λ (v : ℕ). with v c.args.column) c.empty.ensures)) ∙ sym c.subset_of.ensures in
    elim c.if-subset_of.branch [
      | then-subset_of w ↦ rw w.kept-is (FiltersInPlace-more_set c.loop-place.invariant (omega arith) (told ∙ w.if-subset_of.true) c.index-sets-place.is)
      | else-subset_of w ↦ rw w.kept-is (passed_in_place c.loop-place.invariant (omega arith) (told ∙ w.if-subset_of.false) c.index-sets-place.is)
    ]
