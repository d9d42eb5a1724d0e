use Rattle.std.proofs.Common.{◌≡◌, false, List, sym, subst}
use Rattle.std.specs.List.{All}
use Rattle.negative_cover.specs.declared.negative_cover.Witness.{Witness}
use Rattle.cover_steps.specs.Core.{Core}
use Rattle.negative_cover.specs.Witnesses.{sets_of}
use Rattle.least_sets.specs.Drafts.{Drafted, is_news}
use Rattle.rel_base.specs.RowState.{RowState, width}
use Rattle.std.proofs.lemmas.Result.{on_ok_weaker}
use Rattle.cover_steps.specs.Evidences.{IsEvidence, IsNews}
use Rattle.cover_core.proofs.Passes.{news-outside}
use Rattle.cover_core.proofs.book.Book.book_all.Goals as goal

pub book-requires-clause-news : goal.book-requires-clause-news
book-requires-clause-news g c =
    news-outside _ c.args.self.now _ c.self.invariant.0 c.self.view_is c.in_ok-news.news.witnesses.items c.in_ok-news.news.draft
    (c.in_ok-news.ensures.news _ (subst (λ (m : Core). All (IsEvidence m.rows) c.args.found.items) (sym c.self.view_is) c.requires.found))

pub returns-clause-told : goal.returns-clause-told
returns-clause-told g c = on_ok_weaker c.book.result (λ booked.
    let found = c.args.found.items in
    let more = c.in_ok-news.news.witnesses.items in
    let now = c.args.self.now in
    let news : IsNews now.rows (width now.rows) now.witnesses more c.in_ok-news.news.draft = news-outside _ c.args.self.now _ c.self.invariant.0 c.self.view_is more c.in_ok-news.news.draft (c.in_ok-news.ensures.news _ (subst (λ (m : Core). All (IsEvidence m.rows) found) (sym c.self.view_is) c.requires.found)) in
    let drafted = subst (λ (d : Drafted). All (λ e. is_news d.width d.agree_sets e.agree ≡ false) found) news.drafted c.in_ok-news.ensures.told in
    let added = subst (λ (ws : List Witness). All (λ e. is_news (width now.rows) (sets_of ws) e.agree ≡ false) found) (sym booked) drafted in
    subst (λ (r : RowState). All (λ e. is_news (width r) (sets_of c.book.new.self.witnesses) e.agree ≡ false) found) (sym c.book.ensures.rows) added) c.book.ensures.booked
