-- After each legal history the book is sound, and each job fits that was drawn.
use Rattle.std.proofs.Common.{◌≡◌, ℕ, ◌^◌, ◌<◌, List, [], ◌∷◌, ◌++◌, length, refl, sym, ap, ◌∙◌, subst}
use Rattle.std.specs.List.{All, Contains}
use Rattle.std.proofs.lemmas.List.{append-nil}
use Rattle.col_set.specs.Target.{IsColumnTarget}
use Rattle.col_set.proofs.Places.{Listed-contained}
use Rattle.rel_base.specs.declared.batch.Op.{Op}
use Rattle.rel_base.specs.JobParts.{JobParts}
use Rattle.rel_base.specs.RowState.{IsRowState, width}
use Rattle.rel_base.specs.Batches.{IsAsWide}
use Rattle.rel_base.proofs.States.{All-from, All-listed}
use Rattle.cover_steps.specs.declared.step.Call.{Call}
use Rattle.cover_steps.specs.declared.step.Call.TheVariants.{Draw, Refute, Mark, Release, Apply, Settle}
use Rattle.cover_steps.specs.declared.step.Reply.{Reply as Answer}
use Rattle.cover_steps.specs.Core.{Core}
use Rattle.cover_steps.specs.Steps.{Step}
use Rattle.cover_steps.specs.Sound.{Sound, SoundWith, Fits}
use Rattle.cover_steps.specs.Histories.{May, drawn}
use Rattle.cover_steps.proofs.Keeping.{step_keeps}
use Rattle.cover_steps.proofs.Going.{step_follows}
use Rattle.desk_lock.specs.declared.history.Entry.{Entry}
use Rattle.desk_lock.specs.History.{Legal, MayTurn}
use Rattle.desk_lock.proofs.Histories.{legal-stays}
use Rattle.desk.specs.declared.turns.Reply.{Reply}
use Rattle.desk.specs.Turns.{answer, booked, jobs_in, jobs_in-append, Suits, allowed}

pub jobs_in-snoc : (past : List (Entry Call Reply)) (e : Entry Call Reply) → jobs_in (past ++ e ∷ []) ≡ jobs_in past ++ drawn (answer e.reply)
jobs_in-snoc past e = jobs_in-append past (e ∷ []) ∙ ap (λ (l : List JobParts). jobs_in past ++ l) (append-nil (drawn (answer e.reply)))

pub step_width : (jobs : List JobParts) (s new : Core) (call : Call) (reply : Answer) → IsRowState s.rows → May jobs s.rows call → Step s call reply new → width new.rows ≡ width s.rows
step_width jobs s new call reply is may d = ap length (step_follows jobs s new call reply is may d).names

-- after these turns the book is sound, the jobs fit that were drawn, and the width is that of the opened book
pub record Sits (opened : Core) (past : List (Entry Call Reply)) (x : Core) : Type 0 where
  pub keeps : SoundWith x (jobs_in past)
  pub wide : width x.rows ≡ width opened.rows

pub may_of : (opened x : Core) (number : ℕ) (past : List (Entry Call Reply)) (call : Call) → Sits opened past x → Suits opened number past call → May (jobs_in past) x.rows call
may_of opened x number past Draw p m = tt
may_of opened x number past (Refute i j) p m = m
may_of opened x number past (Mark job) p m = m
may_of opened x number past (Release job) p m = subst (λ (n : ℕ). IsColumnTarget n job.target × (job.left < 2 ^ n)) (sym p.wide) m
may_of opened x number past (Apply ops) p m = subst (λ (n : ℕ). All (IsAsWide n) ops) (sym p.wide) m.1
may_of opened x number past Settle p m = tt

pub sits_first : (opened : Core) → Sound opened → Sits opened [] opened
sits_first opened sound = record { keeps = record { sound = sound; fits = All-from (Fits opened.rows) [] (λ j h. absurd h) }; wide = refl }

pub sits_on : (opened x y : Core) (past : List (Entry Call Reply)) (e : Entry Call Reply) → Sits opened past x → allowed opened e.number past e.call → booked x e.call e.reply y → Sits opened (past ++ e ∷ []) y
sits_on opened x y past e p m s = let may = may_of opened x e.number past e.call p m.1 in record {
  keeps = subst (SoundWith y) (sym (jobs_in-snoc past e)) (step_keeps (jobs_in past) x y e.call (answer e.reply) p.keeps may s.0);
  wide = step_width (jobs_in past) x y e.call (answer e.reply) p.keeps.sound.rows may s.0 ∙ p.wide;
}

pub sits : (opened : Core) → Sound opened → (past : List (Entry Call Reply)) (x : Core) → Legal booked allowed opened past x → Sits opened past x
sits opened sound past x l = legal-stays booked allowed (Sits opened) opened (sits_first opened sound) (λ past x e y p m s. sits_on opened x y past e p m s) past x l

-- what a call at the desk needs of the book
pub may_turn : (x : Core) (call : Call) → MayTurn booked allowed x call → (jobs : List JobParts) × SoundWith x jobs × May jobs x.rows call
may_turn x call m = let p = sits m.0 m.4.0 m.2 x m.3 in (jobs_in m.2, p.keeps, may_of m.0 x m.1 m.2 call p m.4.1)

pub fits_at : (x : Core) (jobs : List JobParts) (job : JobParts) → SoundWith x jobs → Contains jobs job → Fits x.rows job
fits_at x jobs job keeps there = All-listed (Fits x.rows) job jobs keeps.fits (Listed-contained job jobs there)

pub may_mark : (x : Core) (job : JobParts) → MayTurn booked allowed x (Mark job) → Fits x.rows job
may_mark x job m = let p = sits m.0 m.4.0 m.2 x m.3 in fits_at x (jobs_in m.2) job p.keeps m.4.1.0

pub may_release : (x : Core) (job : JobParts) → MayTurn booked allowed x (Release job) → IsColumnTarget (width x.rows) job.target × (job.left < 2 ^ width x.rows)
may_release x job m = (may_turn x (Release job) m).2

pub may_apply : (x : Core) (ops : List Op) → MayTurn booked allowed x (Apply ops) → All (IsAsWide (width x.rows)) ops
may_apply x ops m = (may_turn x (Apply ops) m).2
