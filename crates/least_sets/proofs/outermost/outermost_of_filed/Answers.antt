use Rattle.std.proofs.Common.{◌∙◌, ◌+◌, ◌≤◌, length, arith, refl, sym, ap}
use Rattle.std.specs.List.{list_any}
use Rattle.col_set.specs.ColSet.{inter, subset}
use Rattle.least_sets.proofs.Splitting.{slice_rest}
use Rattle.least_sets.proofs.Branches.{with_rest-kept, with_rest-left}
use Rattle.least_sets.proofs.outermost.outermost_of_filed.Goals as goal
use Rattle.least_sets.proofs.outermost.outermost_of_filed.Goals.{then-place-end, else-place-end, then-not-is_inside_one+in_ok-push, else-not-is_inside_one}

ahead : (c : goal.Joined-not-is_inside_one) → (c.loop-place.place + 1 ≤ c.if-place-end.end) × (c.if-place-end.end ≤ length c.args.agree_sets.now)
ahead c = elim c.if-place-end.branch as (λ _. (c.loop-place.place + 1 ≤ c.if-place-end.end) × (c.if-place-end.end ≤ length c.args.agree_sets.now)) [
  | then-place-end w ↦ (omega (arith, w.end-is, w.run_end-end.ensures.further), omega (arith, w.end-is, w.run_end-end.ensures.within))
  | else-place-end w ↦ (omega (arith, w.end-is, w.if-place-end.false), omega (arith, w.end-is, c.loop-place.invariant.2))
]

pub loop-place-preserved : goal.loop-place-preserved
loop-place-preserved c =
    let a = ahead c in
    elim c.if-not-is_inside_one.branch [
      | then-not-is_inside_one+in_ok-push w ↦ rw w.kept-is (
        with_rest-kept c.args.columns c.args.agree_sets.now c.loop-place.place c.loop-place.kept.items w.push.new.self.items c.index-agree_sets-place.result c.loop-place-test.true c.index-agree_sets-place.is w.in_ok-push.ensures.items c.loop-place.invariant.0,
        a.0,
        a.1,
      )
      | else-not-is_inside_one w ↦ rw w.kept-is (
        with_rest-left c.args.columns c.args.agree_sets.now c.loop-place.place c.if-place-end.end c.loop-place.kept.items c.index-agree_sets-place.result c.loop-place-test.true (omega (arith, a.0)) c.index-agree_sets-place.is (ap (list_any (λ v. subset (inter c.index-agree_sets-place.result c.args.columns) v)) (sym (slice_rest c.args.agree_sets.now c.args.agree_sets.now c.if-place-end.end refl)) ∙ w.if-not-is_inside_one.ensures refl) c.loop-place.invariant.0,
        a.0,
        a.1,
      )
    ]
