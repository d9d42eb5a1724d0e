use Rattle.std.proofs.Common.{◌≡◌, ◌++◌, ◌∷◌, [], ℕ, List, ◌+◌, ap, sym, ◌∙◌, subst}
use Rattle.key_finder.proofs.Judging.{Judged, none_left, some_left, judged_unique, judged_news, judged_end}
use Rattle.key_finder.proofs.rounds.judged.Goals as goal
use Rattle.key_finder.proofs.rounds.judged.Goals.{then-is_empty+in_ok-push, else-is_empty+in_ok-extend_from_slice}

pub loop-key-preserved : goal.loop-key-preserved
loop-key-preserved c = record {
  path = c.in_ok-found.ensures.path;
  judged = elim c.if-is_empty.branch [
    | then-is_empty+in_ok-push w ↦ subst (λ (news : List ℕ). Judged c.args.snapshot.now c.args.columns c.args.keys.now (c.loop-key.key-index + 1) c.if-is_empty.unique.items news) (sym (ap (λ m. m.items) w.news-is))
        (judged_unique c.args.snapshot.now c.args.columns c.args.keys.now c.loop-key.key-index c.key-item.result c.loop-key.unique.items c.loop-key.news.items c.loop-key.invariant.judged c.loop-key-test.true c.key-item.is
        c.if-is_empty.unique.items (c.in_ok-found.ensures.none (none_left _ c.in_ok-found.found.items c.in_ok-found.found.ok.0 (sym w.if-is_empty.ensures))) (ap (λ m. m.items) w.unique-is ∙ w.in_ok-push.ensures.items))
    | else-is_empty+in_ok-extend_from_slice w ↦ subst (λ (unique : List ℕ). Judged c.args.snapshot.now c.args.columns c.args.keys.now (c.loop-key.key-index + 1) unique c.if-is_empty.news.items) (sym (ap (λ m. m.items) w.unique-is))
        (judged_news c.args.snapshot.now c.args.columns c.args.keys.now c.loop-key.key-index c.key-item.result c.loop-key.unique.items c.loop-key.news.items c.loop-key.invariant.judged c.loop-key-test.true c.key-item.is
        c.in_ok-found.found.items c.if-is_empty.news.items c.in_ok-found.ensures.each (some_left _ c.in_ok-found.found.items c.in_ok-found.found.ok.0 (sym w.if-is_empty.ensures))
        (ap (λ m. m.items) w.news-is ∙ w.in_ok-extend_from_slice.ensures.items ∙ ap (λ (more : List ℕ). c.loop-key.news.items ++ more) w.as_slice.ensures.value))
  ];
}

pub returns-clause-none : goal.returns-clause-none
returns-clause-none c = judged_end c.args.snapshot.now c.args.columns c.args.keys.now c.loop-key.key-index c.loop-key.unique.items c.loop-key.news.items c.loop-key.invariant.judged c.loop-key-test.false
