use Rattle.std.proofs.Common.{◌∙◌, ap, sym, subst, ℕ, List, ◌+◌}
use Rattle.approx_fd.specs.declared.found.NearKey.{NearKey}
use Rattle.approx_fd.specs.Search.{Searching}
use Rattle.approx_fd.proofs.Judging.{Judged, judged-held, judged-news, counted-in, failing-in}
use Rattle.approx_fd.proofs.search.Search.round.Goals as goal
use Rattle.approx_fd.proofs.search.Search.round.Goals.{in-Some+in_ok-push-in-Some, in-None+in_ok-grown-in-None+in_ok-push-in-None}

pub loop-left-preserved : goal.loop-left-preserved
loop-left-preserved c =
    let s = c.args.self.now.table in let most = c.args.self.now.most in let t = c.args.target in let xs = c.args.candidates.now in
    let same = c.in_ok-removed.ensures.table ∙ c.loop-left.invariant.table in
    let bound = c.in_ok-removed.ensures.most ∙ c.loop-left.invariant.most in
    elim c.match-branch-2.branch [
      | in-Some+in_ok-push-in-Some w ↦ record {
        table = ap (λ (v : Searching). v.table) w.self-is ∙ same;
        most = ap (λ (v : Searching). v.most) w.self-is ∙ bound;
        judged = subst (λ (news : List ℕ). Judged s most t xs (c.loop-left.left-index + 1) c.match-branch-2.kept.items news) (sym (ap (λ m. m.items) w.news-is))
            (judged-held s most t xs c.loop-left.left-index c.left-item.result c.loop-left.kept.items c.loop-left.news.items c.loop-left.invariant.judged c.loop-left-test.true c.left-item.is
            w.in-Some.removed c.match-branch-2.kept.items
            (counted-in s most t c.loop-left.self.table c.loop-left.self.most c.left-item.result w.in-Some.removed c.in_ok-removed.field-0 c.loop-left.invariant.table c.loop-left.invariant.most c.in_ok-removed.ensures.counted w.in-Some.is)
            (ap (λ m. m.items) w.kept-is ∙ w.in_ok-push-in-Some.ensures.items));
      }
      | in-None+in_ok-grown-in-None+in_ok-push-in-None w ↦ record {
        table = ap (λ (v : Searching). v.table) w.self-is ∙ w.in_ok-grown-in-None.ensures.table ∙ same;
        most = ap (λ (v : Searching). v.most) w.self-is ∙ w.in_ok-grown-in-None.ensures.most ∙ bound;
        judged = subst (λ (kept : List NearKey). Judged s most t xs (c.loop-left.left-index + 1) kept c.match-branch-2.news.items) (sym (ap (λ m. m.items) w.kept-is))
            (judged-news s most t xs c.loop-left.left-index c.left-item.result c.loop-left.kept.items c.loop-left.news.items c.loop-left.invariant.judged c.loop-left-test.true c.left-item.is
            w.in_ok-grown-in-None.field-0 c.match-branch-2.news.items
            (failing-in s most t c.judged.new.self.table c.judged.new.self.most w.in_ok-grown-in-None.field-0 same bound w.in_ok-grown-in-None.ensures.failing)
            w.in_ok-grown-in-None.ensures.inside (ap (λ m. m.items) w.news-is ∙ w.in_ok-push-in-None.ensures.items));
      }
    ]
