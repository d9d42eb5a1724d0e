use Rattle.std.proofs.Common.{rules, ◌∙◌, ℕ, List, refl, sym, ap, subst}
use Rattle.std.specs.List.{All}
use Rattle.std.proofs.lemmas.List.Elements.{All-push}
use Rattle.col_set.specs.Lists.{Listed}
use Rattle.col_set.proofs.Places.{Listed-get_or}
use Rattle.candidate_cover.specs.declared.cand.Cand.{Cand}
use Rattle.cover_core.specs.KnownLefts.{IsKnownLeft}
use Rattle.cover_core.proofs.known_lefts.push_known_lefts.Goals as goal
use Rattle.cover_core.proofs.known_lefts.push_known_lefts.Goals.{then-le+in_ok-push, else-le}

pub loop-cand-preserved : goal.loop-cand-preserved
loop-cand-preserved c = elim c.if-le.branch [
  | then-le+in_ok-push w ↦
      subst (λ (xs : List ℕ). All (IsKnownLeft c.args.own.now c.args.from) xs) (sym (ap (λ v. v.items) w.lefts-is ∙ w.in_ok-push.ensures.items))
      (All-push (IsKnownLeft c.args.own.now c.args.from) c.loop-cand.lefts.items c.cand-item.result.left c.loop-cand.invariant
      (record {
        cand = c.cand-item.result;
        listed = subst (λ (d : Cand). Listed d c.args.own.now) (sym c.cand-item.is) (Listed-get_or c.args.own.now c.loop-cand.cand-index c.cand-item.result c.loop-cand-test.true);
        left = refl;
        upto = (search rules);
      }))
  | else-le w ↦ subst (λ (xs : List ℕ). All (IsKnownLeft c.args.own.now c.args.from) xs) (sym (ap (λ v. v.items) w.lefts-is)) c.loop-cand.invariant
]
