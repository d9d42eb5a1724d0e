-- Batches that the feeder applies, one after another.
use Rattle.std.proofs.Common.{◌≡◌, ◌≢◌, List, [], ◌∷◌, ◌++◌, refl, sym, ap, ◌∙◌, subst}
use Rattle.std.proofs.lemmas.List.{append-nil}
use Rattle.rel_base.specs.declared.batch.Op.{Op}
use Rattle.rel_base.specs.RowState.{RowState}
use Rattle.rel_base.specs.Batches.{after, kept_or_after}
use Rattle.row_log.specs.declared.applying.Applying.{Applying}
use Rattle.row_log.specs.declared.applying.Applying.TheVariants as changes
use Rattle.cover_steps.specs.declared.step.Call.{Call}
use Rattle.cover_steps.specs.declared.step.Call.TheVariants.{Apply}
use Rattle.cover_steps.specs.Core.{Core}
use Rattle.cover_steps.specs.Steps as steps
use Rattle.cover_steps.specs.Sound.{Sound}
use Rattle.cover_core.specs.Replies.{reply_of_batch}
use Rattle.desk_lock.specs.declared.history.Entry.{Entry}
use Rattle.desk_lock.specs.History.{entry, GoesOn, Legal}
use Rattle.desk_lock.specs.Views.{InHome}
use Rattle.desk_lock.specs.Passes.{view}
use Rattle.desk_lock.proofs.Histories.{legal-last, none-narrower}
use Rattle.desk.specs.declared.turns.Reply.{Reply}
use Rattle.desk.specs.declared.turns.Reply.TheVariants.{Applied}
use Rattle.desk.specs.declared.desk.Desk.{Desk}
use Rattle.desk.specs.Turns.{booked, allowed}
use Rattle.desk.specs.Desks.{Place, History, opened_book, seen, TookTurn}
use Rattle.desk.proofs.Answering.{seen_is}
use Rattle.desk.proofs.Running.{rows_by_batches}
use Rattle.refine_pool.specs.Phases.{answer, answers, rows_after_all, AreThoseOf}
use Rattle.refine_pool.specs.Crews.{IsFed}
use Rattle.refine_pool.proofs.Passing.{goes_further}
use Rattle.refine_pool.proofs.Quiet.{others-rows}

-- ---- one batch more
pub rows-one_more : (r : RowState) (batches : List (List Op)) (ops : List Op) → rows_after_all r (batches ++ ops ∷ []) ≡ kept_or_after (rows_after_all r batches) (after (rows_after_all r batches) ops)
rows-one_more r [] ops = refl
rows-one_more r (b ∷ batches) ops = rows-one_more (kept_or_after r (after r b)) batches ops

pub answers-one_more : (r : RowState) (batches : List (List Op)) (ops : List Op) → answers r (batches ++ ops ∷ []) ≡ answers r batches ++ answer ops (after (rows_after_all r batches) ops) ∷ []
answers-one_more r [] ops = refl
answers-one_more r (b ∷ batches) ops = ap (λ (l : List Applying). answer b (after r b) ∷ l) (answers-one_more (kept_or_after r (after r b)) batches ops)

-- what a batch is answered is what its rows or its failure say, and then these are the rows
record Follows (s new : Core) (ops : List Op) (applying : Applying) : Type 0 where
  replied : applying ≡ answer ops (after s.rows ops)
  rows : new.rows ≡ kept_or_after s.rows (after s.rows ops)

follows : (s new : Core) (ops : List Op) (applying : Applying) → applying ≢ changes.NoMemory → steps.IsApplying s ops (reply_of_batch applying) new → Follows s new ops applying
follows s new ops (changes.Applied inserted deleted) some d = record {
  replied = (λ i. changes.Applied (d.inserts i) (d.deletes i)) ∙ ap (answer ops) (sym d.after);
  rows = ap (λ (c : Core). c.rows) d.state ∙ ap (kept_or_after s.rows) (sym d.after);
}
follows s new ops (changes.Refused at why) some d = record {
  replied = ap (answer ops) (sym d.0);
  rows = ap (λ (c : Core). c.rows) d.1 ∙ ap (kept_or_after s.rows) (sym d.0);
}
follows s new ops changes.NoMemory some d = absurd (some refl)

stays : (s new : Core) (ops : List Op) → steps.IsApplying s ops (reply_of_batch changes.NoMemory) new → new.rows ≡ s.rows
stays s new ops d = ap (λ (c : Core). c.rows) d

-- ---- the feeder's turns
pub fed_start : (desk : Desk) (p : Place) → seen p ≡ [] → IsFed desk p [] []
fed_start desk p none = record { upto = []; rows = refl; replies = refl; since = ([], none, tt) }

pub fed_goes : (desk : Desk) (p q : Place) (batches : List (List Op)) (replies : List Applying) → IsFed desk p batches replies → GoesOn (λ n. n ≡ 0) (seen p) (seen q) → IsFed desk q batches replies
fed_goes desk p q batches replies f g = record { upto = f.upto; rows = f.rows; replies = f.replies; since = goes_further (λ n. n ≡ 0) f.upto (seen p) (seen q) f.since g }

-- the state that a turn of the feeder begins with, whose rows are those after the batches so far
record Before (desk : Desk) (q : Place) (batches : List (List Op)) (ops : List Op) (applying : Applying) : Type 0 where
  from : Core
  to : Core
  legal : Legal booked allowed (opened_book desk) (seen q) to
  step : steps.IsApplying from ops (reply_of_batch applying) to
  rows : from.rows ≡ rows_after_all (opened_book desk).rows batches

before : (desk : Desk) (p q : Place) (batches : List (List Op)) (replies : List Applying) (ops : List Op) (applying : Applying) → Sound (opened_book desk) → InHome (view p) 0 → IsFed desk p batches replies → TookTurn desk p (Apply ops) (Applied applying ops tt) q → Before desk q batches ops applying
before desk p q batches replies ops applying sound home f t =
    let o : Core = opened_book desk in
    let e : Entry Call Reply = entry (view p).low (Apply ops) (Applied applying ops tt) in
    let past : History = seen p ++ t.0 in
    let is = seen_is (view p) (view q) o (Apply ops) (Applied applying ops tt) t in
    let last = legal-last booked allowed o past e t.1 (subst (λ (h : History). Legal booked allowed o h t.1) is t.4) in
    let on : GoesOn (λ n. n ≡ 0) f.upto past = goes_further (λ n. n ≡ 0) f.upto (seen p) past f.since (t.0, refl, none-narrower (InHome (view p)) (λ n. n ≡ 0) t.0 (λ n zero. subst (InHome (view p)) (sym zero) home) t.3) in
    record {
      from = last.0;
      to = t.1;
      legal = t.4;
      step = last.3.0;
      rows = (rows_by_batches o last.0 past sound last.1).rows ∙ others-rows o f.upto past last.0 on last.1 ∙ f.rows;
    }

pub fed_more : (desk : Desk) (p q : Place) (batches : List (List Op)) (replies : List Applying) (ops : List Op) (applying : Applying) → Sound (opened_book desk) → InHome (view p) 0 → IsFed desk p batches replies → TookTurn desk p (Apply ops) (Applied applying ops tt) q → applying ≢ changes.NoMemory → IsFed desk q (batches ++ ops ∷ []) (replies ++ applying ∷ [])
fed_more desk p q batches replies ops applying sound home f t some =
    let o : Core = opened_book desk in
    let b = before desk p q batches replies ops applying sound home f t in
    let h = follows b.from b.to ops applying some b.step in
    record {
      upto = seen q;
      rows = sym (rows_by_batches o b.to (seen q) sound b.legal).rows ∙ h.rows ∙ ap (λ (r : RowState). kept_or_after r (after r ops)) b.rows ∙ sym (rows-one_more o.rows batches ops);
      replies = (λ i. f.replies i ++ (h.replied ∙ ap (λ (r : RowState). answer ops (after r ops)) b.rows) i ∷ []) ∙ sym (answers-one_more o.rows batches ops);
      since = ([], sym (append-nil (seen q)), tt);
    }

pub fed_same : (desk : Desk) (p q : Place) (batches : List (List Op)) (replies : List Applying) (ops : List Op) → Sound (opened_book desk) → InHome (view p) 0 → IsFed desk p batches replies → TookTurn desk p (Apply ops) (Applied changes.NoMemory ops tt) q → IsFed desk q batches replies
fed_same desk p q batches replies ops sound home f t =
    let o : Core = opened_book desk in
    let b = before desk p q batches replies ops changes.NoMemory sound home f t in
    record {
      upto = seen q;
      rows = sym (rows_by_batches o b.to (seen q) sound b.legal).rows ∙ stays b.from b.to ops b.step ∙ b.rows;
      replies = f.replies;
      since = ([], sym (append-nil (seen q)), tt);
    }

-- ---- the end
pub fed_end : (desk : Desk) (p : Place) (batches : List (List Op)) (replies : List Applying) (book : Core) → Sound (opened_book desk) → IsFed desk p batches replies → Legal booked allowed (opened_book desk) (seen p) book → AreThoseOf (opened_book desk).rows batches book.rows replies
fed_end desk p batches replies book sound f l = record {
  rows = (rows_by_batches (opened_book desk) book (seen p) sound l).rows ∙ others-rows (opened_book desk) f.upto (seen p) book f.since l ∙ f.rows;
  replies = f.replies;
}
