use Rattle.std.proofs.Common.{◌∙◌, not, ℕ, sym, ap}
use Rattle.col_set.specs.ColSet.{with}
use Rattle.least_sets.proofs.Branches.{single_inside, lacking_more, lacking_same}
use Rattle.least_sets.proofs.frames.push_lacking.Goals as goal
use Rattle.least_sets.proofs.frames.push_lacking.Goals.{then-not-subset_of+in_ok-push, else-not-subset_of}

pub loop-w-preserved : goal.loop-w-preserved
loop-w-preserved g c =
    let told = sym (single_inside c.args.column c.w-item.result c.with-single.result (c.with-single.ensures ∙ ap (λ (v : ℕ). with v c.args.column) c.empty.ensures)) ∙ sym c.subset_of.ensures in
    elim c.if-not-subset_of.branch [
      | then-not-subset_of+in_ok-push w ↦ ap (λ v. v.items) w.found-is ∙ w.in_ok-push.ensures.items
          ∙ lacking_more c.args.column c.args.sets.now c.loop-w.w-index c.w-item.result c.args.found.now.items c.loop-w.found.items c.loop-w-test.true c.w-item.is (ap not (told ∙ w.if-not-subset_of.true)) c.loop-w.invariant
      | else-not-subset_of w ↦ ap (λ v. v.items) w.found-is
          ∙ lacking_same c.args.column c.args.sets.now c.loop-w.w-index c.w-item.result c.args.found.now.items c.loop-w.found.items c.loop-w-test.true c.w-item.is (ap not (told ∙ w.if-not-subset_of.false)) c.loop-w.invariant
    ]
