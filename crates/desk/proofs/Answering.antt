-- What a turn at the desk answers.
use Rattle.std.proofs.Common.{◌≡◌, ℕ, ◌^◌, ◌<◌, List, [], ◌∷◌, ◌++◌, refl, sym, ap, ◌∙◌, subst, append_assoc, inl}
use Rattle.std.specs.List.{Contains}
use Rattle.std.proofs.lemmas.List.Elements.{Contains-append_right}
use Rattle.col_set.specs.Target.{IsColumnTarget}
use Rattle.col_set.proofs.Places.{Contains-listed}
use Rattle.rel_base.specs.JobParts.{JobParts}
use Rattle.rel_base.specs.declared.batch.Op.{Op}
use Rattle.cover_steps.specs.declared.step.Call.{Call}
use Rattle.cover_steps.specs.declared.step.Call.TheVariants as calls
use Rattle.cover_steps.specs.Core.{Core}
use Rattle.cover_steps.specs.Sound.{Sound}
use Rattle.candidate_cover.specs.declared.cand.Marking.{Marking}
use Rattle.row_log.specs.declared.applying.Applying.{Applying}
use Rattle.cover_core.specs.declared.answers.Draw.{Draw}
use Rattle.cover_core.specs.declared.answers.Draw.TheVariants as draws
use Rattle.cover_core.specs.declared.answers.Refutation.{Refutation}
use Rattle.cover_core.specs.declared.answers.Release.{Release}
use Rattle.cover_core.specs.declared.answers.Settling.{Settling}
use Rattle.cover_core.specs.Replies.{IfJob}
use Rattle.cover_core.proofs.Booking.{IsFitting-fits}
use Rattle.desk_lock.specs.declared.history.Entry.{Entry}
use Rattle.desk_lock.specs.declared.view.View.{View}
use Rattle.desk_lock.specs.History.{entry, GoesOn, Legal}
use Rattle.desk_lock.specs.Views.{Turned}
use Rattle.desk_lock.specs.Passes.{view}
use Rattle.desk_lock.proofs.Histories.{legal-last}
use Rattle.desk.specs.declared.turns.Reply.{Reply}
use Rattle.desk.specs.declared.turns.Reply.TheVariants as replies
use Rattle.desk.specs.declared.desk.Desk.{Desk}
use Rattle.desk.specs.Turns.{booked, allowed, jobs_in, drawn_later, IsTo}
use Rattle.desk.specs.Desks.{Place, opened_book, seen, WasDrawn, TookTurn}
use Rattle.desk.proofs.Sitting.{jobs_in-snoc, sits, fits_at}

-- what was seen after a turn: what was seen before it, what others did, and the call with its reply
pub seen_is : (v w : View Core Call Reply) (o : Core) (call : Call) (reply : Reply) (t : Turned booked allowed o v call reply w) → w.seen ≡ (v.seen ++ t.0) ++ entry v.low call reply ∷ []
seen_is v w o call reply t = ap (λ (u : View Core Call Reply). u.seen) t.2 ∙ sym (append_assoc v.seen t.0 (entry v.low call reply ∷ []))

-- the turn was a step
pub turned_step : (v w : View Core Call Reply) (o : Core) (call : Call) (reply : Reply) → Turned booked allowed o v call reply w → (x y : Core) × booked x call reply y
turned_step v w o call reply t =
    let e : Entry Call Reply = entry v.low call reply in
    let l = subst (λ (h : List (Entry Call Reply)). Legal booked allowed o h t.1) (seen_is v w o call reply t) t.4 in
    let r = legal-last booked allowed o (v.seen ++ t.0) e t.1 l in
    (r.0, t.1, r.3)

-- the reply is one to the call
pub turned_to : (v w : View Core Call Reply) (o : Core) (call : Call) (reply : Reply) → Turned booked allowed o v call reply w → IsTo call reply
turned_to v w o call reply t = (turned_step v w o call reply t).2.1

module _ (v w : View Core Call Reply) (o : Core) where
  -- what was handed in comes back
  pub marked_back : (job back : JobParts) (marking : Marking) → Turned booked allowed o v (calls.Mark job) (replies.Marked marking back) w → Turned booked allowed o v (calls.Mark job) (replies.Marked marking job) w
  marked_back job back marking t = subst (λ (b : JobParts). Turned booked allowed o v (calls.Mark job) (replies.Marked marking b) w) (turned_to v w o (calls.Mark job) (replies.Marked marking back) t) t

  pub released_back : (job back : JobParts) (given : Release) → Turned booked allowed o v (calls.Release job) (replies.Released given back) w → Turned booked allowed o v (calls.Release job) (replies.Released given job) w
  released_back job back given t = subst (λ (b : JobParts). Turned booked allowed o v (calls.Release job) (replies.Released given b) w) (turned_to v w o (calls.Release job) (replies.Released given back) t) t

  pub batch_back : (ops back : List Op) (applying : Applying) → Turned booked allowed o v (calls.Apply ops) (replies.Applied applying back tt) w → back ≡ ops
  batch_back ops back applying t = turned_to v w o (calls.Apply ops) (replies.Applied applying back tt) t

  pub applied_back : (ops back : List Op) (applying : Applying) → Turned booked allowed o v (calls.Apply ops) (replies.Applied applying back tt) w → Turned booked allowed o v (calls.Apply ops) (replies.Applied applying ops tt) w
  applied_back ops back applying t = subst (λ (b : List Op). Turned booked allowed o v (calls.Apply ops) (replies.Applied applying b tt) w) (batch_back ops back applying t) t

module _ (desk : Desk) (before after : Place) where
  -- what was drawn stays drawn
  pub still_drawn : (call : Call) (reply : Reply) (job : JobParts) → TookTurn desk before call reply after → WasDrawn desk before job → WasDrawn desk after job
  still_drawn call reply job t d = record {
    drawn = subst (λ (h : List (Entry Call Reply)). Contains (jobs_in h) job) (sym (ap (λ (u : View Core Call Reply). u.seen) t.2)) (drawn_later (seen before) (t.0 ++ entry (view before).low call reply ∷ []) job d.drawn);
    target = d.target;
    left = d.left;
    fitting = d.fitting;
  }

  pub drawn_on : (home : ℕ → Type 0) → GoesOn home (seen before) (seen after) → (job : JobParts) → WasDrawn desk before job → WasDrawn desk after job
  drawn_on home goes job d = record {
    drawn = subst (λ (h : List (Entry Call Reply)). Contains (jobs_in h) job) (sym goes.1) (drawn_later (seen before) goes.0 job d.drawn);
    target = d.target;
    left = d.left;
    fitting = d.fitting;
  }

  -- a job that a draw answers may come back at any time
  pub was_drawn : (draw : Draw) → Sound (opened_book desk) → TookTurn desk before calls.Draw (replies.Drawn draw) after → IfJob draw (WasDrawn desk after)
  was_drawn (draws.Job job) sound t =
      let o : Core = opened_book desk in
      let e : Entry Call Reply = entry (view before).low calls.Draw (replies.Drawn (draws.Job job)) in
      let past : List (Entry Call Reply) = seen before ++ t.0 in
      let is = seen_is (view before) (view after) o calls.Draw (replies.Drawn (draws.Job job)) t in
      let there : Contains (jobs_in (seen after)) job = subst (λ (h : List (Entry Call Reply)). Contains (jobs_in h) job) (sym is) (subst (λ (jobs : List JobParts). Contains jobs job) (sym (jobs_in-snoc past e)) (Contains-append_right (jobs_in past) (job ∷ []) job (Contains-listed job (job ∷ []) (inl refl)))) in
      let p = sits o sound (seen after) t.1 t.4 in
      let fits = fits_at t.1 (jobs_in (seen after)) job p.keeps there in
      record {
        drawn = there;
        target = subst (λ (n : ℕ). IsColumnTarget n job.target) p.wide fits.target;
        left = subst (λ (n : ℕ). job.left < 2 ^ n) p.wide fits.left;
        fitting = IsFitting-fits t.1.rows job fits;
      }
  was_drawn (draws.Busy t x) sound h = tt
  was_drawn draws.Settled sound h = tt

-- which replies there are to each call
pub draws_only : (reply : Reply) → IsTo calls.Draw reply → ((draw : Draw) → reply ≡ replies.Drawn draw → ⊥) → (reply ≡ replies.NoMemory → ⊥) → ⊥
draws_only (replies.Drawn draw) h f g = f draw refl
draws_only replies.NoMemory h f g = g refl
draws_only _ h f g = absurd h

pub refutes_only : (i j : ℕ) (reply : Reply) → IsTo (calls.Refute i j) reply → ((refutation : Refutation) (outdated : Unit {0}) → reply ≡ replies.Refuted refutation outdated → ⊥) → (reply ≡ replies.NoMemory → ⊥) → ⊥
refutes_only i j (replies.Refuted refutation outdated) h f g = f refutation outdated refl
refutes_only i j replies.NoMemory h f g = g refl
refutes_only i j _ h f g = absurd h

pub marks_only : (job : JobParts) (reply : Reply) → IsTo (calls.Mark job) reply → ((marking : Marking) (back : JobParts) → reply ≡ replies.Marked marking back → ⊥) → ⊥
marks_only job (replies.Marked marking back) h f = f marking back refl
marks_only job _ h f = absurd h

pub releases_only : (job : JobParts) (reply : Reply) → IsTo (calls.Release job) reply → ((release : Release) (back : JobParts) → reply ≡ replies.Released release back → ⊥) → ⊥
releases_only job (replies.Released release back) h f = f release back refl
releases_only job _ h f = absurd h

pub applies_only : (ops : List Op) (reply : Reply) → IsTo (calls.Apply ops) reply → ((applying : Applying) (back : List Op) (outdated : Unit {0}) → reply ≡ replies.Applied applying back outdated → ⊥) → ⊥
applies_only ops (replies.Applied applying back outdated) h f = f applying back outdated refl
applies_only ops _ h f = absurd h

pub settles_only : (reply : Reply) → IsTo calls.Settle reply → ((settling : Settling) → reply ≡ replies.Settled settling → ⊥) → (reply ≡ replies.NoMemory → ⊥) → ⊥
settles_only (replies.Settled settling) h f g = f settling refl
settles_only replies.NoMemory h f g = g refl
settles_only _ h f g = absurd h
