-- A legal history at the desk is a list of steps of the shared cover.
use Rattle.std.proofs.Common.{◌≡◌, ℕ, None, List, [], ◌∷◌, ◌++◌, refl, sym, subst}
use Rattle.std.specs.List.{Contains}
use Rattle.std.proofs.lemmas.List.{map-append}
use Rattle.rel_base.specs.JobParts.{JobParts}
use Rattle.rel_base.specs.Covers.{CoverLists, covers}
use Rattle.negative_cover.specs.declared.negative_cover.Witness.{Witness}
use Rattle.cover_steps.specs.declared.step.Call.{Call}
use Rattle.cover_steps.specs.declared.step.Call.TheVariants as calls
use Rattle.cover_steps.specs.Core.{Core, first_unfinished, witness_of}
use Rattle.cover_steps.specs.Sound.{Sound, Fits}
use Rattle.cover_steps.specs.Laws.{ready, booking, Stands, JobsOfTheSameRows, RowsAreAfter, WitnessesStay}
use Rattle.cover_steps.specs.Histories.{Runs, rows_after, IsQuiet, Entry as Turn}
use Rattle.cover_steps.proofs.Whole.{ready-exact}
use Rattle.cover_steps.proofs.Going.{rows_are_after, quiet_keeps, witnesses_stay}
use Rattle.cover_steps.proofs.Same.{jobs_alike}
use Rattle.cover_core.specs.declared.answers.Draw.{Draw}
use Rattle.cover_core.specs.declared.answers.Draw.TheVariants as draws
use Rattle.cover_core.specs.declared.answers.Settling.{Settling}
use Rattle.cover_core.specs.declared.answers.Settling.TheVariants as settlings
use Rattle.cover_core.specs.declared.answers.Refutation.TheVariants as refutations
use Rattle.cover_core.specs.Replies.{IfJob, IfReady}
use Rattle.desk_lock.specs.declared.history.Entry.{Entry}
use Rattle.desk_lock.specs.History.{entry, Begins, LegalFrom, Legal}
use Rattle.desk_lock.specs.Passes.{view, IsEnd}
use Rattle.desk_lock.proofs.Histories.{legal-begins}
use Rattle.desk.specs.declared.turns.Reply.{Reply}
use Rattle.desk.specs.declared.turns.Reply.TheVariants as replies
use Rattle.desk.specs.declared.desk.Desk.{Desk}
use Rattle.desk.specs.Turns.{answer, booked, allowed, jobs_in, turn_of, turns_of, drawn_later, IsTo}
use Rattle.desk.specs.Desks.{Place, History, opened_book, seen, TookTurn, TellsRows, AreExact, LeadsTo}
use Rattle.desk.specs.Laws.{IsRun, WitnessesStand}
use Rattle.desk.proofs.Sitting.{Sits, jobs_in-snoc, may_of, sits_first, sits_on, sits, fits_at}
use Rattle.desk.proofs.Answering.{seen_is, still_drawn, was_drawn}

pub runs_from : (opened : Core) (past : History) (x : Core) (es : History) (y : Core) → Sits opened past x → LegalFrom booked allowed opened past x es y → Runs (jobs_in past) x (turns_of es) y
runs_from opened past x [] y p l = sym l
runs_from opened past x (e ∷ es) y p l = (
  l.1.0,
  may_of opened x e.number past e.call p l.0.1,
  l.1.1.0,
  subst (λ (jobs : List JobParts). Runs jobs l.1.0 (turns_of es) y) (jobs_in-snoc past e) (runs_from opened (past ++ e ∷ []) l.1.0 es y (sits_on opened x l.1.0 past e p l.0 l.1.1) l.1.2),
)

pub runs : (opened : Core) → Sound opened → (past : History) (x : Core) → Legal booked allowed opened past x → Runs [] opened (turns_of past) x
runs opened sound past x l = runs_from opened [] opened past x (sits_first opened sound) l

pub turns_of-append : (es fs : History) → turns_of (es ++ fs) ≡ turns_of es ++ turns_of fs
turns_of-append es fs = map-append turn_of es fs

-- a legal history in two parts is a list of steps
runs_parts : (opened : Core) → Sound opened → (before later : History) (e : Entry Call Reply) (y : Core) → Legal booked allowed opened (before ++ e ∷ later) y → Runs [] opened (turns_of before ++ turn_of e ∷ turns_of later) y
runs_parts opened sound before later e y l = subst (λ (ts : List Turn). Runs [] opened ts y) (turns_of-append before (e ∷ later)) (runs opened sound (before ++ e ∷ later) y l)

-- an end at the lock is one at the desk
pub leads_to : (desk : Desk) (history : History) (book : Core) → Sound (opened_book desk) → IsEnd booked allowed desk.lock history book → LeadsTo desk history book
leads_to desk history book sound end = record { legal = end.legal; numbered = end.numbered; runs = runs (opened_book desk) sound history book end.legal }

pub ends_sound : (desk : Desk) (history : History) (book : Core) → Sound (opened_book desk) → IsEnd booked allowed desk.lock history book → Sound book
ends_sound desk history book sound end = (sits (opened_book desk) sound history book end.legal).keeps.sound

-- the covers that a settle answers
pub are_exact : (desk : Desk) (before after : Place) (settling : Settling) → Sound (opened_book desk) → TookTurn desk before calls.Settle (replies.Settled settling) after → IfReady settling (AreExact desk after)
are_exact desk before after (settlings.Ready found) sound t =
    let o : Core = opened_book desk in
    let e : Entry Call Reply = entry (view before).low calls.Settle (replies.Settled (settlings.Ready found)) in
    let past : History = seen before ++ t.0 in
    let is = seen_is (view before) (view after) o calls.Settle (replies.Settled (settlings.Ready found)) t in
    let l = subst (λ (h : History). Legal booked allowed o h t.1) is t.4 in
    record {
      before = past;
      last = e;
      parts = is;
      exact = ready-exact [] o t.1 (turns_of past) [] found (sits_first o sound).keeps (runs_parts o sound past [] e t.1 l);
    }
are_exact desk before after (settlings.NotYet t x number) sound h = tt

-- what a job tells of the rows, beside those that were drawn before
pub tells_rows : (desk : Desk) (before after : Place) (draw : Draw) → Sound (opened_book desk) → TookTurn desk before calls.Draw (replies.Drawn draw) after → IfJob draw (TellsRows desk before)
tells_rows desk before after (draws.Job job) sound t =
    let o : Core = opened_book desk in
    let tells : JobsOfTheSameRows [] o t.1 (turns_of (seen after)) = jobs_alike [] o t.1 (turns_of (seen after)) (sits_first o sound).keeps (runs o sound (seen after) t.1 t.4) in
    let here : Contains (jobs_in (seen after)) job = (was_drawn desk before after (draws.Job job) sound t).drawn in
    record {
      alike = λ other drawn to count. tells.alike other job (still_drawn desk before after calls.Draw (replies.Drawn (draws.Job job)) other t drawn).drawn here to count;
      opened = λ to count. tells.of_beginning job here to count;
    }
tells_rows desk before after (draws.Busy t x) sound h = tt
tells_rows desk before after draws.Settled sound h = tt

-- ---- the laws
pub is_run : (opened x : Core) (history : History) → Sound opened → Legal booked allowed opened history x → IsRun opened x history
is_run opened x history sound l = record { runs = runs opened sound history x l; keeps = (sits opened sound history x l).keeps }

pub drawn_fit : (opened x : Core) (seen history : History) (job : JobParts) → Sound opened → Legal booked allowed opened history x → Begins seen history → Contains (jobs_in seen) job → Fits x.rows job
drawn_fit opened x seen history job sound l begins there = fits_at x (jobs_in history) job (sits opened sound history x l).keeps (subst (λ (h : History). Contains (jobs_in h) job) (sym begins.1) (drawn_later seen begins.0 job there))

pub same_rows : (opened x : Core) (history : History) → Sound opened → Legal booked allowed opened history x → JobsOfTheSameRows [] opened x (turns_of history)
same_rows opened x history sound l = jobs_alike [] opened x (turns_of history) (sits_first opened sound).keeps (runs opened sound history x l)

pub rows_by_batches : (opened x : Core) (history : History) → Sound opened → Legal booked allowed opened history x → RowsAreAfter opened x (turns_of history)
rows_by_batches opened x history sound l = rows_are_after [] opened x (turns_of history) (sits_first opened sound).keeps (runs opened sound history x l)

pub quiet_turns_keep : (opened x y : Core) (past quiet : History) → Sound opened → Legal booked allowed opened past x → LegalFrom booked allowed opened past x quiet y → IsQuiet (turns_of quiet) → first_unfinished x ≡ None → first_unfinished y ≡ None
quiet_turns_keep opened x y past quiet sound l m q none =
    let p = sits opened sound past x l in
    quiet_keeps (jobs_in past) x y (turns_of quiet) p.keeps (runs_from opened past x quiet y p m) q none

pub witnesses_stand : (opened : Core) → Sound opened → WitnessesStand opened
witnesses_stand opened sound = record { there = there; booked = booked_stand }
  where
    there : (x y : Core) (past more : History) (w : Witness) → Legal booked allowed opened past x → LegalFrom booked allowed opened past x more y → Contains x.witnesses w → Stands y.rows w → Contains y.witnesses w
    there x y past more w l m listed stands =
        let p = sits opened sound past x l in
        let stay : WitnessesStay (jobs_in past) x y = witnesses_stay (jobs_in past) x y p.keeps in
        stay.there (turns_of more) w (runs_from opened past x more y p m) listed stands

    booked_stand : (y : Core) (before later : History) (e : Entry Call Reply) (i j : ℕ) → Legal booked allowed opened (before ++ e ∷ later) y → e.call ≡ calls.Refute i j → e.reply ≡ replies.Refuted refutations.Booked tt → Stands y.rows (witness_of (rows_after opened.rows (turns_of before)) i j) → Contains y.witnesses (witness_of (rows_after opened.rows (turns_of before)) i j)
    booked_stand y before later e i j l called replied stands =
        let stay : WitnessesStay [] opened y = witnesses_stay [] opened y (sits_first opened sound).keeps in
        let is : turn_of e ≡ booking i j = λ k. record { call = called k; reply = answer (replied k) } in
        stay.booked (turns_of before) (turns_of later) i j (subst (λ (u : Turn). Runs [] opened (turns_of before ++ u ∷ turns_of later) y) is (runs_parts opened sound before later e y l)) stands

-- who is answered the covers asked for them
settles : (call : Call) (settling : Settling) → IsTo call (replies.Settled settling) → call ≡ calls.Settle
settles calls.Settle settling h = refl
settles _ settling h = absurd h

pub ready_exact : (opened y : Core) (before later : History) (e : Entry Call Reply) (found : CoverLists) → Sound opened → Legal booked allowed opened (before ++ e ∷ later) y → e.reply ≡ replies.Settled (settlings.Ready found) → found ≡ covers (rows_after opened.rows (turns_of before))
ready_exact opened y before later e found sound l replied =
    let parts = legal-begins booked allowed opened before (e ∷ later) y l in
    let to : IsTo e.call (replies.Settled (settlings.Ready found)) = subst (IsTo e.call) replied parts.2.1.1.1 in
    let called : e.call ≡ calls.Settle = settles e.call (settlings.Ready found) to in
    let is : turn_of e ≡ ready found = λ k. record { call = called k; reply = answer (replied k) } in
    ready-exact [] opened y (turns_of before) (turns_of later) found (sits_first opened sound).keeps
    (subst (λ (u : Turn). Runs [] opened (turns_of before ++ u ∷ turns_of later) y) is (runs_parts opened sound before later e y l))
