use Rattle.std.proofs.Common.{◌≡◌, ◌∙◌, ◌++◌, ap, sym, subst, ℕ, List, length, refl}
use Rattle.rel_base.specs.CodeTable.{CodeTable}
use Rattle.approx_fd.specs.Search.{counted}
use Rattle.approx_fd.proofs.Evidence.{standing-less}
use Rattle.approx_fd.proofs.Judging.{candidates-of, candidates-left, all-counted-in, news-in, settled-end, none_left, some_left}
use Rattle.approx_fd.proofs.search.Search.settled.Goals as goal

pub round-requires-clause-candidates : goal.round-requires-clause-candidates
round-requires-clause-candidates c = candidates-of c.rounds.self.table c.args.target c.rounds.evidence.items c.as_slice-in-rounds.result.now
    (candidates-left c.rounds.self.table c.rounds.self.most c.args.target c.rounds.self.table c.columns.result c.rounds.evidence.items c.as_slice.result.now c.in_ok-candidates.candidates.items c.as_slice-in-rounds.result.now
    refl c.columns.ensures.value c.as_slice.ensures.value c.in_ok-candidates.ensures c.as_slice-in-rounds.ensures.value)

pub returns-then-is_empty-clause-found : goal.returns-then-is_empty-clause-found
returns-then-is_empty-clause-found c =
    let s = c.args.self.now.table in let most = c.args.self.now.most in let t = c.args.target in
    settled-end s most t c.rounds.evidence.items c.as_slice-in-rounds.result.now c.in_ok-round.round.held.items c.rounds.invariant.evidence
    (candidates-left s most t c.rounds.self.table c.columns.result c.rounds.evidence.items c.as_slice.result.now c.in_ok-candidates.candidates.items c.as_slice-in-rounds.result.now
    c.rounds.invariant.table c.columns.ensures.value c.as_slice.ensures.value c.in_ok-candidates.ensures c.as_slice-in-rounds.ensures.value)
    (all-counted-in s most t c.rounds.self.table c.rounds.self.most c.in_ok-round.round.held.items c.rounds.invariant.table c.rounds.invariant.most c.in_ok-round.ensures.held)
    (subst (λ (u : CodeTable). c.in_ok-round.round.held.items ≡ counted u t c.as_slice-in-rounds.result.now) c.rounds.invariant.table
    (c.in_ok-round.ensures.whole (none_left _ c.in_ok-round.round.news.items c.in_ok-round.round.news.ok.0 (sym c.if-is_empty.ensures))))

pub rounds-smaller : goal.rounds-smaller
rounds-smaller c =
    let s = c.args.self.now.table in let most = c.args.self.now.most in let t = c.args.target in
    standing-less s most (length s.codes) t c.rounds.evidence.items c.as_slice-in-rounds.result.now c.in_ok-round.round.news.items c.extend_from_slice.new.self.items
    (candidates-left s most t c.rounds.self.table c.columns.result c.rounds.evidence.items c.as_slice.result.now c.in_ok-candidates.candidates.items c.as_slice-in-rounds.result.now
    c.rounds.invariant.table c.columns.ensures.value c.as_slice.ensures.value c.in_ok-candidates.ensures c.as_slice-in-rounds.ensures.value)
    (news-in s most t c.rounds.self.table c.rounds.self.most c.as_slice-in-rounds.result.now c.in_ok-round.round.news.items c.rounds.invariant.table c.rounds.invariant.most c.in_ok-round.ensures.news)
    (some_left _ c.in_ok-round.round.news.items c.in_ok-round.round.news.ok.0 (sym c.if-is_empty.ensures))
    (c.in_ok-extend_from_slice.ensures.items ∙ ap (λ (more : List ℕ). c.rounds.evidence.items ++ more) c.as_slice-in-rounds-3.ensures.value)
