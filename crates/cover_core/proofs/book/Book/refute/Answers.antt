use Rattle.std.proofs.Common.{◌∙◌, ℕ, sym, refl, subst}
use Rattle.std.proofs.lemmas.Bool.{false≢true}
use Rattle.negative_cover.specs.Witnesses.{sets_of}
use Rattle.negative_cover.specs.Concerning.{AreConcerned}
use Rattle.cover_core.proofs.Calls.{are_least}
use Rattle.cover_core.proofs.Concerning.{known-found, news-found, same-unconcerned, renewed-width}
use Rattle.cover_core.proofs.Whole.{refute-all, live-found}
use Rattle.cover_core.proofs.Turn.{on-err}
use Rattle.cover_core.proofs.Cursors.{past-but, past-moved, searched}
use Rattle.cover_core.proofs.book.Book.refute.Goals as goal

pub returns-then-is_none-clause-step : goal.returns-then-is_none-clause-step
returns-then-is_none-clause-step c = (live-found _ _ _ c.self.invariant.0 c.self.view_is c.args.i c.args.j c.is_live.result c.is_live-2.result c.is_live.ensures.value c.if-not-is_live.false c.is_live-2.ensures.value c.if-not-is_live-2.false, known-found _ _ _ c.self.invariant.0 c.self.view_is c.args.i c.args.j c.agree-agree.result c.columns.result c.by-concerned.result c.agree-agree.ensures c.columns.ensures.width c.by-concerned.ensures (c.is_none.ensures.0 c.if-is_none.true), refl)

pub put_all-requires : goal.put_all-requires
put_all-requires c = (c.in_ok-new_lists.ensures (sets_of c.self.inside.witnesses) (are_least _ _ c.self.invariant.0) (subst (λ (n : ℕ). AreConcerned n (sets_of c.self.inside.witnesses) c.agree-agree.result c.by-concerned.result) c.columns.ensures.width c.by-concerned.ensures)).count

pub move_both_back-requires : goal.move_both_back-requires
move_both_back-requires c =
    let put = c.put_all.ensures _ (c.in_ok-new_lists.ensures (sets_of c.self.inside.witnesses) (are_least _ _ c.self.invariant.0) (subst (λ (n : ℕ). AreConcerned n (sets_of c.self.inside.witnesses) c.agree-agree.result c.by-concerned.result) c.columns.ensures.width c.by-concerned.ensures)) in
    past-but (record { rows = c.self.inside.rows; witnesses = c.self.inside.witnesses; candidates = c.self.inside.candidates }) c.put_all.new.candidates c.by-concerned.result c.next-next.result c.self.inside.cursors c.next-next.ensures.value (renewed-width _ _ _ _ put)
    (λ t l e. same-unconcerned _ (sets_of c.self.inside.witnesses) c.self.inside.candidates c.put_all.new.candidates c.agree-agree.result c.by-concerned.result (are_least _ _ c.self.invariant.0) put (subst (λ (n : ℕ). AreConcerned n (sets_of c.self.inside.witnesses) c.agree-agree.result c.by-concerned.result) c.columns.ensures.width c.by-concerned.ensures) t l e) c.self.invariant.2

pub invariant_of-self-2 : goal.invariant_of-self-2
invariant_of-self-2 c =
    let all = refute-all _ _ _ c.self.invariant.0 c.self.view_is c.args.i c.args.j c.agree-agree.result c.add.new.self c.put_all.new.candidates c.requires (live-found _ _ _ c.self.invariant.0 c.self.view_is c.args.i c.args.j c.is_live.result c.is_live-2.result c.is_live.ensures.value c.if-not-is_live.false c.is_live-2.ensures.value c.if-not-is_live-2.false) (news-found _ _ _ c.self.invariant.0 c.self.view_is c.args.i c.args.j c.agree-agree.result c.columns.result c.by-concerned.result c.agree-agree.ensures c.columns.ensures.width c.by-concerned.ensures (λ none. false≢true (sym c.if-is_none.false ∙ c.is_none.ensures.1 none))) c.agree-agree.ensures c.in_ok-add.ensures.ok (c.put_all.ensures _ (c.in_ok-new_lists.ensures (sets_of c.self.inside.witnesses) (are_least _ _ c.self.invariant.0) (subst (λ (n : ℕ). AreConcerned n (sets_of c.self.inside.witnesses) c.agree-agree.result c.by-concerned.result) c.columns.ensures.width c.by-concerned.ensures))) in
    let w = searched (record { rows = c.self.inside.rows; witnesses = c.add.new.self; candidates = c.put_all.new.candidates }) _ all.kept c.next-next.result c.move_both_back.new.cursors c.first_unfinished-self-inside.new.cursor c.first_unfinished-self-inside.result c.next-next.ensures.value
    (past-moved (record { rows = c.self.inside.rows; witnesses = c.add.new.self; candidates = c.put_all.new.candidates }) c.next-next.result c.move_both_back.new.cursors c.next-next.ensures.value c.move_both_back.ensures.unfinished c.move_both_back.ensures.drawable) c.first_unfinished-self-inside.ensures.past c.first_unfinished-self-inside.ensures.found in
    (all.kept, c.self.invariant.1, w.past, w.first)

pub returns-clause-step : goal.returns-clause-step
returns-clause-step c = (live-found _ _ _ c.self.invariant.0 c.self.view_is c.args.i c.args.j c.is_live.result c.is_live-2.result c.is_live.ensures.value c.if-not-is_live.false c.is_live-2.ensures.value c.if-not-is_live-2.false, news-found _ _ _ c.self.invariant.0 c.self.view_is c.args.i c.args.j c.agree-agree.result c.columns.result c.by-concerned.result c.agree-agree.ensures c.columns.ensures.width c.by-concerned.ensures (λ none. false≢true (sym c.if-is_none.false ∙ c.is_none.ensures.1 none)), (refute-all _ _ _ c.self.invariant.0 c.self.view_is c.args.i c.args.j c.agree-agree.result c.add.new.self c.put_all.new.candidates c.requires (live-found _ _ _ c.self.invariant.0 c.self.view_is c.args.i c.args.j c.is_live.result c.is_live-2.result c.is_live.ensures.value c.if-not-is_live.false c.is_live-2.ensures.value c.if-not-is_live-2.false) (news-found _ _ _ c.self.invariant.0 c.self.view_is c.args.i c.args.j c.agree-agree.result c.columns.result c.by-concerned.result c.agree-agree.ensures c.columns.ensures.width c.by-concerned.ensures (λ none. false≢true (sym c.if-is_none.false ∙ c.is_none.ensures.1 none))) c.agree-agree.ensures c.in_ok-add.ensures.ok (c.put_all.ensures _ (c.in_ok-new_lists.ensures (sets_of c.self.inside.witnesses) (are_least _ _ c.self.invariant.0) (subst (λ (n : ℕ). AreConcerned n (sets_of c.self.inside.witnesses) c.agree-agree.result c.by-concerned.result) c.columns.ensures.width c.by-concerned.ensures)))).state)

pub returns-clause-sound : goal.returns-clause-sound
returns-clause-sound c = (refute-all _ _ _ c.self.invariant.0 c.self.view_is c.args.i c.args.j c.agree-agree.result c.add.new.self c.put_all.new.candidates c.requires (live-found _ _ _ c.self.invariant.0 c.self.view_is c.args.i c.args.j c.is_live.result c.is_live-2.result c.is_live.ensures.value c.if-not-is_live.false c.is_live-2.ensures.value c.if-not-is_live-2.false) (news-found _ _ _ c.self.invariant.0 c.self.view_is c.args.i c.args.j c.agree-agree.result c.columns.result c.by-concerned.result c.agree-agree.ensures c.columns.ensures.width c.by-concerned.ensures (λ none. false≢true (sym c.if-is_none.false ∙ c.is_none.ensures.1 none))) c.agree-agree.ensures c.in_ok-add.ensures.ok (c.put_all.ensures _ (c.in_ok-new_lists.ensures (sets_of c.self.inside.witnesses) (are_least _ _ c.self.invariant.0) (subst (λ (n : ℕ). AreConcerned n (sets_of c.self.inside.witnesses) c.agree-agree.result c.by-concerned.result) c.columns.ensures.width c.by-concerned.ensures)))).kept.sound

pub returns-in_err-new_lists-clause-wanted : goal.returns-in_err-new_lists-clause-wanted
returns-in_err-new_lists-clause-wanted c = on-err c.from_residual.result _ (live-found _ _ _ c.self.invariant.0 c.self.view_is c.args.i c.args.j c.is_live.result c.is_live-2.result c.is_live.ensures.value c.if-not-is_live.false c.is_live-2.ensures.value c.if-not-is_live-2.false, news-found _ _ _ c.self.invariant.0 c.self.view_is c.args.i c.args.j c.agree-agree.result c.columns.result c.by-concerned.result c.agree-agree.ensures c.columns.ensures.width c.by-concerned.ensures (λ none. false≢true (sym c.if-is_none.false ∙ c.is_none.ensures.1 none)))

pub returns-in_err-add-clause-wanted : goal.returns-in_err-add-clause-wanted
returns-in_err-add-clause-wanted c = on-err c.from_residual-in_err-add.result _ (live-found _ _ _ c.self.invariant.0 c.self.view_is c.args.i c.args.j c.is_live.result c.is_live-2.result c.is_live.ensures.value c.if-not-is_live.false c.is_live-2.ensures.value c.if-not-is_live-2.false, news-found _ _ _ c.self.invariant.0 c.self.view_is c.args.i c.args.j c.agree-agree.result c.columns.result c.by-concerned.result c.agree-agree.ensures c.columns.ensures.width c.by-concerned.ensures (λ none. false≢true (sym c.if-is_none.false ∙ c.is_none.ensures.1 none)))
