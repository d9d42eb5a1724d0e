use Rattle.std.proofs.Common.{◌≡◌, ◌++◌, ◌∷◌, [], List, ℕ, sym, ap, ◌∙◌, subst, take, refl, false, not, ◌&&◌}
use Rattle.std.proofs.lemmas.Bool.{true≢false}
use Rattle.col_set.specs.Target.{has_target}
use Rattle.col_set.specs.Evidence.{refuted}
use Rattle.least_sets.specs.Growth.{ListsLeast}
use Rattle.least_sets.proofs.Exploring.{explored_none, explored_more, explored_pass, explored_next, explored_as, lacks_of, item_has}
use Rattle.least_sets.proofs.explore.explored.Goals as goal
use Rattle.least_sets.proofs.explore.explored.Goals.{then-is_new+in_ok-found+in_ok-extend_from_slice+in_ok-push, else-is_new}

pub loop-w-init : goal.loop-w-init
loop-w-init g c = record { explored = explored_none c.args.choices c.args.rest.now c.args.target c.new-tops.result.items c.new-sets.result.items c.new-tops.ensures.items c.new-sets.ensures.items; idle = λ h. refl }

pub loop-w-preserved : goal.loop-w-preserved
loop-w-preserved g c =
    let test : c.is_new.result ≡ (not (has_target c.w-item.result c.args.target) && not (refuted c.loop-w.tops.items c.args.target c.w-item.result))
    = c.is_new.ensures.new ∙ ap (λ (vs : List ℕ). not (has_target c.w-item.result c.args.target) && not (refuted vs c.args.target c.w-item.result)) c.as_slice.ensures.value in
    elim c.if-is_new.branch [
      | then-is_new+in_ok-found+in_ok-extend_from_slice+in_ok-push w ↦
          let apart : has_target c.w-item.result c.args.target ≡ false = lacks_of (has_target c.w-item.result c.args.target) (refuted c.loop-w.tops.items c.args.target c.w-item.result) (sym test ∙ w.if-is_new.true) in
          record {
            explored = explored_next c.args.choices c.args.rest.now c.args.withdrawn.now c.args.target c.if-is_new.tops.items c.if-is_new.sets.items c.loop-w.w-index c.w-item.result c.loop-w-test.true c.w-item.is
                (explored_as c.args.choices c.args.rest.now (take c.loop-w.w-index c.args.withdrawn.now ++ c.w-item.result ∷ []) c.args.target (c.loop-w.tops.items ++ c.w-item.result ∷ []) (c.loop-w.sets.items ++ w.in_ok-found.found.items) c.if-is_new.tops.items c.if-is_new.sets.items
                (ap (λ m. m.items) w.tops-is ∙ w.in_ok-push.ensures.items)
                (ap (λ m. m.items) w.sets-is ∙ w.in_ok-extend_from_slice.ensures.items ∙ ap (λ (ys : List ℕ). c.loop-w.sets.items ++ ys) w.as_slice-then-is_new.ensures.value)
                (explored_more c.args.choices c.args.rest.now (take c.loop-w.w-index c.args.withdrawn.now) c.args.target c.loop-w.tops.items c.loop-w.sets.items c.loop-w.invariant.explored c.w-item.result apart w.in_ok-found.found.items
                (subst (λ (u : ℕ). ListsLeast u c.args.rest.now c.args.target w.in_ok-found.found.items) w.inter.ensures w.in_ok-found.ensures)));
            idle = λ h. absurd (true≢false (sym (item_has c.args.withdrawn.now c.args.target c.loop-w.w-index c.w-item.result c.loop-w-test.true c.w-item.is h) ∙ apart));
          }
      | else-is_new w ↦ record {
        explored = explored_next c.args.choices c.args.rest.now c.args.withdrawn.now c.args.target c.if-is_new.tops.items c.if-is_new.sets.items c.loop-w.w-index c.w-item.result c.loop-w-test.true c.w-item.is
            (explored_as c.args.choices c.args.rest.now (take c.loop-w.w-index c.args.withdrawn.now ++ c.w-item.result ∷ []) c.args.target c.loop-w.tops.items c.loop-w.sets.items c.if-is_new.tops.items c.if-is_new.sets.items
            (ap (λ m. m.items) w.tops-is) (ap (λ m. m.items) w.sets-is)
            (explored_pass c.args.choices c.args.rest.now (take c.loop-w.w-index c.args.withdrawn.now) c.args.target c.loop-w.tops.items c.loop-w.sets.items c.loop-w.invariant.explored c.w-item.result (sym test ∙ w.if-is_new.false)));
        idle = λ h. w.steps-is ∙ c.is_new.ensures.idle (item_has c.args.withdrawn.now c.args.target c.loop-w.w-index c.w-item.result c.loop-w-test.true c.w-item.is h) ∙ c.loop-w.invariant.idle h;
      }
    ]
