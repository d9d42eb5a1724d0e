-- What the scripts of the tests keep.
use Rattle.std.proofs.Common.{◌≡◌, ℕ, List, [], ◌∷◌, ◌++◌, sym, ap, ◌∙◌, subst, ⊎_elim}
use Rattle.std.specs.List.{All}
use Rattle.col_set.specs.Lists.{Listed-append_cases}
use Rattle.rel_base.specs.JobParts.{JobParts}
use Rattle.rel_base.proofs.States.{All-from, All-listed}
use Rattle.cover_steps.specs.declared.step.Call.{Call}
use Rattle.desk_lock.specs.Views.{kept_of}
use Rattle.desk_lock.specs.Passes.{view}
use Rattle.desk.specs.declared.desk.Desk.{Desk}
use Rattle.desk.specs.declared.turns.Reply.{Reply}
use Rattle.desk.specs.Desks.{Place, IsAt, TookTurn, WasDrawn}
use Rattle.desk_tests.specs.Tests.{AreReady}

module _ (desk : Desk) where
  all_still : (before after : Place) (jobs : List JobParts) → ((job : JobParts) → WasDrawn desk before job → WasDrawn desk after job) → All (WasDrawn desk before) jobs → All (WasDrawn desk after) jobs
  all_still before after jobs f all = All-from (WasDrawn desk after) jobs (λ job h. f job (All-listed (WasDrawn desk before) job jobs all h))

  -- the worker made a call
  pub ready_turn : (feeder before after : Place) (left : ℕ) (jobs : List JobParts) → AreReady desk feeder before left jobs → IsAt desk after → ((job : JobParts) → WasDrawn desk before job → WasDrawn desk after job) → AreReady desk feeder after left jobs
  ready_turn feeder before after left jobs r is f = record { feeder = r.feeder; worker = is; left = r.left; wide = r.wide; drawn = all_still before after jobs f r.drawn }

  -- and drew a job
  pub ready_push : (feeder worker : Place) (left : ℕ) (jobs : List JobParts) (job : JobParts) → AreReady desk feeder worker left jobs → WasDrawn desk worker job → AreReady desk feeder worker left (jobs ++ job ∷ [])
  ready_push feeder worker left jobs job r d = record {
    feeder = r.feeder;
    worker = r.worker;
    left = r.left;
    wide = r.wide;
    drawn = All-from (WasDrawn desk worker) (jobs ++ job ∷ []) (λ other h. ⊎_elim
        (λ g. All-listed (WasDrawn desk worker) other jobs r.drawn g)
        (λ g. ⊎_elim (λ (e : other ≡ job). subst (WasDrawn desk worker) (sym e) d) (λ none. absurd none) g)
        (Listed-append_cases other jobs (job ∷ []) h));
  }

  -- the feeder made a call
  pub ready_fed : (before after worker : Place) (left : ℕ) (jobs : List JobParts) (call : Call) (reply : Reply) → AreReady desk before worker left jobs → IsAt desk after → TookTurn desk before call reply after → AreReady desk after worker left jobs
  ready_fed before after worker left jobs call reply r is t = record { feeder = is; worker = r.worker; left = ap (λ v. v.high) t.2 ∙ r.left; wide = r.wide; drawn = r.drawn }

  -- the worker joined a pass that the feeder hired
  pub ready_met : (feeder hirer before after : Place) (left at : ℕ) (jobs : List JobParts) → AreReady desk feeder before left jobs → IsAt desk hirer → view hirer ≡ kept_of at (view feeder) → IsAt desk after → ((job : JobParts) → WasDrawn desk before job → WasDrawn desk after job) → AreReady desk hirer after at jobs
  ready_met feeder hirer before after left at jobs r hired kept is f = record { feeder = hired; worker = is; left = ap (λ v. v.high) kept; wide = r.wide; drawn = all_still before after jobs f r.drawn }
