use Rattle.std.proofs.Common.{◌≡◌, ◌∙◌, ◌++◌, ℕ, List, [], ◌∷◌, length, sym, ap, subst, refl, true, eqb, arith}
use Rattle.std.proofs.lemmas.Bool.{eqb-true}
use Rattle.rel_base.specs.RowState.{RowState, width}
use Rattle.rel_base.specs.declared.batch.Op.{Op}
use Rattle.profile_text.specs.declared.session.Asked.{Asked}
use Rattle.profile_text.specs.Session.{answers}
use Rattle.profile_text.specs.Waiting.{waiting, AreWaiting}
use Rattle.task_base.proofs.Facts.{IfOk-map}
use Rattle.profile_text.proofs.Waits.{answers-end, text-nothing, told_by}
use Rattle.profile_text.proofs.session.Session.into_text.Goals as goal

none_of : (batches : List (List Op)) (n : ℕ) → n ≡ length batches → eqb n 0 ≡ true → batches ≡ []
none_of [] n e is = refl
none_of (ops ∷ batches) n e is = let none = eqb-true n 0 is in absurd (omega arith)

pub push_answers-requires : goal.push_answers-requires
push_answers-requires g c =
    let self = c.args.self in
    let r : RowState = self.book.rows in
    let none : self.batches.items ≡ [] = none_of self.batches.items _ self.batches.ok.0 (sym c.if-is_empty.ensures) in (
      r,
      [],
      told_by r self.asked.items c.deref.result.now [] [] [] c.live_len-live.result c.rows.ensures.sound.rows
          (c.live_len-live.ensures.value ∙ ap (λ (s : RowState). length s.live) c.rows.ensures.rows)
          (subst (AreWaiting (width r) self.asked.items) none c.requires.asked) refl c.deref.ensures.value refl,
    )

pub returns-then-is_empty : goal.returns-then-is_empty
returns-then-is_empty g c =
    let self = c.args.self in
    let r : RowState = self.book.rows in
    let none : self.batches.items ≡ [] = none_of self.batches.items _ self.batches.ok.0 (sym c.if-is_empty.ensures) in
    let told = told_by r self.asked.items c.deref.result.now [] [] [] c.live_len-live.result c.rows.ensures.sound.rows
    (c.live_len-live.ensures.value ∙ ap (λ (s : RowState). length s.live) c.rows.ensures.rows)
    (subst (AreWaiting (width r) self.asked.items) none c.requires.asked) refl c.deref.ensures.value refl in
    IfOk-map c.into_text.result
    (λ text e name. e ∙ c.in_ok-push_answers.ensures r [] told name
    ∙ ap (λ (these : List Asked). self.lines ++ answers name r (waiting these [])) c.deref.ensures.value
    ∙ ap (λ (batches : List (List Op)). self.lines ++ answers name r (waiting self.asked.items batches)) (sym none)
    ∙ answers-end name self.lines r self.asked.items self.batches.items)
    c.into_text.ensures

pub returns : goal.returns
returns g c =
    let session = c.in_ok-answered.field-0 in
    IfOk-map c.into_text-2.result
    (λ text e name. e ∙ sym (text-nothing name session.lines session.book.rows) ∙ c.in_ok-answered.ensures.text name [])
    c.into_text-2.ensures
