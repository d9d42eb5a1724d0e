-- Whole lists of steps.
use Rattle.std.proofs.Common.{inl, inr, ◌≡◌, ◌+◌, ◌≤◌, false, refl, sym, ap, ◌∙◌, subst, arith, List, [], ◌∷◌, ◌++◌, length, append_assoc}
use Rattle.std.proofs.lemmas.List.Sums.{sum_by-append}
use Rattle.rel_base.specs.JobParts.{JobParts}
use Rattle.rel_base.specs.RowState.{RowState, IsRowState}
use Rattle.rel_base.specs.Validity.{agree_sets, HoldsBelow}
use Rattle.rel_base.specs.Covers.{CoverLists, covers}
use Rattle.rel_base.proofs.States.{All-from, All-listed}
use Rattle.col_set.specs.Lists.{Listed}
use Rattle.cover_steps.specs.declared.step.Reply.{Reply}
use Rattle.cover_steps.specs.declared.step.Reply.TheVariants.{Marked, Dropped}
use Rattle.col_set.proofs.Places.{Listed-contained}
use Rattle.cover_steps.specs.Core.{Core, opened_core}
use Rattle.cover_steps.specs.Sound.{Fits, SoundWith}
use Rattle.cover_steps.specs.Histories.{Entry, Runs, drawn, all_drawn, rows_after, booked_count, is_accepted, IsQuiet}
use Rattle.cover_steps.specs.Laws.{ready, different, marking, releasing, IsRight, LateJobsAreRight}
use Rattle.cover_steps.proofs.Fitting.{HoldsBelow-fits}
use Rattle.cover_steps.proofs.Keeping.{Sound-opened, step_keeps}
use Rattle.cover_steps.proofs.Exact.{listed_covers-exact}
use Rattle.cover_steps.proofs.Counting.{Changes, bookings, step_changes, step_rows, witnesses_few}

pub opening-sound : (r : RowState) → IsRowState r → SoundWith (opened_core r) []
opening-sound r is = record { sound = Sound-opened r is; fits = All-from (Fits r) [] (λ job h. absurd h) }

pub runs_keep : (jobs : List JobParts) (s new : Core) (es : List Entry) → SoundWith s jobs → Runs jobs s es new → SoundWith new (jobs ++ all_drawn es)
runs_keep jobs s new [] h e = subst (λ (m : Core). SoundWith m (jobs ++ [])) (sym e) (record { sound = h.sound; fits = All-from (Fits s.rows) (jobs ++ []) (λ job g. All-listed (Fits s.rows) job jobs h.fits (by job jobs g)) })
  where
    by : (job : JobParts) (jobs : List JobParts) → Listed job (jobs ++ []) → Listed job jobs
    by job [] g = g
    by job (k ∷ jobs) (inl i) = inl i
    by job (k ∷ jobs) (inr g) = inr (by job jobs g)
runs_keep jobs s new (e ∷ es) h r =
    subst (SoundWith new) (append_assoc jobs (drawn e.reply) (all_drawn es)) (runs_keep (jobs ++ drawn e.reply) r.0 new es (step_keeps jobs s r.0 e.call e.reply h r.1 r.2) r.3)

pub ready-exact : (jobs : List JobParts) (s new : Core) (before later : List Entry) (c : CoverLists) → SoundWith s jobs → Runs jobs s (before ++ ready c ∷ later) new → c ≡ covers (rows_after s.rows before)
ready-exact jobs s new [] later c h r = r.2.1 ∙ listed_covers-exact s h.sound r.2.0
ready-exact jobs s new (e ∷ es) later c h r =
    ready-exact (jobs ++ drawn e.reply) r.0 new es later c (step_keeps jobs s r.0 e.call e.reply h r.1 r.2) r.3
    ∙ ap (λ (q : RowState). covers (rows_after q es)) (step_rows s r.0 e.call e.reply r.2)

quiet_counts : (jobs : List JobParts) (s new : Core) (es : List Entry) → Runs jobs s es new → IsQuiet es → Changes s new s.rows (booked_count es)
quiet_counts jobs s new [] e q = record { rows = ap (λ (m : Core). m.rows) e; witnesses = let l : length new.witnesses ≡ length s.witnesses = ap (λ (m : Core). length m.witnesses) e in omega arith }
quiet_counts jobs s new (e ∷ es) r q =
    let a = step_changes s r.0 e.call e.reply (All-listed (λ (e : Entry). is_accepted e.reply ≡ false) e (e ∷ es) q (inl refl)) r.2 in
    let b = quiet_counts (jobs ++ drawn e.reply) r.0 new es r.3 (All-from (λ (e : Entry). is_accepted e.reply ≡ false) es (λ d h. All-listed (λ (e : Entry). is_accepted e.reply ≡ false) d (e ∷ es) q (inr h))) in
    record { rows = b.rows ∙ a.rows; witnesses = let m = a.witnesses in let n = b.witnesses in let k : booked_count (e ∷ es) ≡ 0 + bookings e.reply + booked_count es = sum_by-append (λ (x : Entry). bookings x.reply) (e ∷ []) es in omega arith }

pub booked-few : (jobs : List JobParts) (s new : Core) (before quiet : List Entry) → SoundWith s jobs → Runs jobs s (before ++ quiet) new → IsQuiet quiet → booked_count quiet ≤ length (different (agree_sets (rows_after s.rows before)))
booked-few jobs s new [] quiet h r q =
    let c = quiet_counts jobs s new quiet r q in
    let few = witnesses_few new (runs_keep jobs s new quiet h r).sound in
    let e : length (different (agree_sets new.rows)) ≡ length (different (agree_sets s.rows)) = ap (λ (r : RowState). length (different (agree_sets r))) c.rows in
    let m = c.witnesses in omega arith
booked-few jobs s new (e ∷ es) quiet h r q =
    let l = booked-few (jobs ++ drawn e.reply) r.0 new es quiet (step_keeps jobs s r.0 e.call e.reply h r.1 r.2) r.3 q in
    subst (λ (p : RowState). booked_count quiet ≤ length (different (agree_sets (rows_after p es)))) (step_rows s r.0 e.call e.reply r.2) l

-- ---- jobs that come back late
marked-holds : (jobs : List JobParts) (s new : Core) (before later : List Entry) (job : JobParts) (reply : Reply) → SoundWith s jobs → Runs jobs s (before ++ marking job reply ∷ later) new → HoldsBelow job.to (rows_after s.rows before) job.left job.target
marked-holds jobs s new [] later job reply h r = HoldsBelow-fits s.rows h.sound.rows job (All-listed (Fits s.rows) job jobs h.fits (Listed-contained job jobs r.1.0)) r.1.1
marked-holds jobs s new (e ∷ es) later job reply h r =
    subst (λ (q : RowState). HoldsBelow job.to (rows_after q es) job.left job.target) (step_rows s r.0 e.call e.reply r.2)
    (marked-holds (jobs ++ drawn e.reply) r.0 new es later job reply (step_keeps jobs s r.0 e.call e.reply h r.1 r.2) r.3)

right : (jobs : List JobParts) (s new : Core) (before later : List Entry) (job : JobParts) (reply : Reply) → SoundWith s jobs → Runs jobs s (before ++ marking job reply ∷ later) new → IsRight s new before job
right jobs s new before later job reply h r = record { holds = marked-holds jobs s new before later job reply h r; sound = (runs_keep jobs s new (before ++ marking job reply ∷ later) h r).sound }

pub late-jobs : (jobs : List JobParts) (s new : Core) → SoundWith s jobs → LateJobsAreRight jobs s new
late-jobs jobs s new h = record {
  late = λ before later job reply r. right jobs s new before later job reply h r;
  twice = λ before between later job first second r. right jobs s new (before ++ marking job first ∷ between) later job second h r;
  released = λ before between later job first second r. right jobs s new (before ++ releasing job first ∷ between) later job second h r;
  came_back = λ before between later job r. right jobs s new (before ++ marking job Dropped ∷ between) later job Marked h r;
}
