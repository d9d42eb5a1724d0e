use Rattle.std.proofs.Common.{◌≡◌, ◌∙◌, ◌+◌, ◌++◌, ◌∷◌, ℕ, List, [], length, drop, sym, ap, arith, subst}
use Rattle.std.proofs.lemmas.List.{drop_all, length-append}
use Rattle.std.proofs.lemmas.Iterator.Adapters.{YieldsList-from_vec}
use Rattle.std.proofs.lemmas.Iterator.Consumers.{YieldsList-end, YieldsList-turn}
use Rattle.rel_base.specs.RowState.{width}
use Rattle.batch_update.specs.declared.item.Item.{Item}
use Rattle.cover_steps.specs.Core.{Core}
use Rattle.profile_text.specs.Items.{IsAnswerable}
use Rattle.profile_text.specs.Session.{answers}
use Rattle.profile_text.specs.Waiting.{text_with}
use Rattle.task_base.proofs.Facts.{IfOk-map}
use Rattle.profile_text.proofs.Waits.{AreWaiting-none, from_place, text-start}
use Rattle.profile_text.proofs.session.answers_to.Goals as goal

pub loop-item-init : goal.loop-item-init
loop-item-init g c =
    let s = c.new-session.result in
    record {
      text = text-start c.args.name.now s.lines s.book.rows s.asked.items s.batches.items c.args.items.items c.new-session.ensures.text c.new-session.ensures.asked c.new-session.ensures.batches
          ∙ ap (λ (b : Core). answers c.args.name.now b.rows c.args.items.items) c.new-session.ensures.book;
      waits = AreWaiting-none (width s.book.rows) s.asked.items s.batches.items c.new-session.ensures.asked c.new-session.ensures.batches;
      wide = ap (λ (b : Core). width b.rows) c.new-session.ensures.book;
    }

pub after-requires-clause-item : goal.after-requires-clause-item
after-requires-clause-item g c κs within =
    let items : List Item = c.args.items.items in
    let from = c.into_iter-item-iterator.ensures.into_iter_gives in
    let turn = YieldsList-turn (YieldsList-from_vec items from.0 (from.1 ∙ c.args.items.ok.0)) c.loop-item.yielded c.loop-item.item-iterator c.loop-item.yielded_by c.next.result c.next.new.self c.in-Some.item c.in-Some.is c.next.ensures.steps in
    subst (λ (n : ℕ). IsAnswerable n c.in-Some.item) (sym c.loop-item.invariant.wide)
    (subst (IsAnswerable (width c.args.book.rows)) (sym turn.1) (c.requires.items (length c.loop-item.yielded) c.in-Some.item turn.0))

pub loop-item-preserved : goal.loop-item-preserved
loop-item-preserved g c =
    let items : List Item = c.args.items.items in
    let yielded : List Item = c.loop-item.yielded in
    let from = c.into_iter-item-iterator.ensures.into_iter_gives in
    let turn = YieldsList-turn (YieldsList-from_vec items from.0 (from.1 ∙ c.args.items.ok.0)) yielded c.loop-item.item-iterator c.loop-item.yielded_by c.next.result c.next.new.self c.in-Some.item c.in-Some.is c.next.ensures.steps in
    let old = c.loop-item.session in
    let new = c.in_ok-session.session in
    let one_more : length (yielded ++ c.in-Some.item ∷ []) ≡ length yielded + 1 = length-append yielded (c.in-Some.item ∷ []) in
    record {
      text = ap (λ (n : ℕ). text_with c.args.name.now new.lines new.book.rows new.asked.items new.batches.items (drop n items)) one_more
          ∙ c.in_ok-session.ensures.text (drop (length yielded + 1) items)
          ∙ ap (text_with c.args.name.now old.lines old.book.rows old.asked.items old.batches.items) (sym (from_place items (length yielded) c.in-Some.item c.in-Some.item turn.0 (sym turn.1)))
          ∙ c.loop-item.invariant.text;
      waits = c.in_ok-session.ensures.waits;
      wide = c.in_ok-session.ensures.wide ∙ c.loop-item.invariant.wide;
    }

pub returns : goal.returns
returns g c =
    let items : List Item = c.args.items.items in
    let s = c.loop-item.session in
    let from = c.into_iter-item-iterator.ensures.into_iter_gives in
    let end = YieldsList-end (YieldsList-from_vec items from.0 (from.1 ∙ c.args.items.ok.0)) c.loop-item.yielded c.loop-item.item-iterator c.loop-item.yielded_by c.next.result c.next.new.self c.in-None.is c.next.ensures.steps in
    let all : length items ≡ length c.loop-item.yielded = sym end.1 in
    IfOk-map c.into_text.result
    (λ text e. e c.args.name.now
    ∙ ap (text_with c.args.name.now s.lines s.book.rows s.asked.items s.batches.items) (sym (drop_all (length c.loop-item.yielded) items (omega arith)))
    ∙ c.loop-item.invariant.text)
    c.into_text.ensures
