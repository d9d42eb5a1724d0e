-- What a worker keeps, and what it books.
use Rattle.std.proofs.Common.{◌≡◌, ◌≢◌, ◌⊎◌, ◌<◌, ℕ, List, Option, Some, None, Bor, ◌∙◌, sym, subst, arith, ⊎_elim}
use Rattle.std.specs.Prelude.{IfSome}
use Rattle.std.proofs.lemmas.List.Elements.{All-take}
use Rattle.col_set.specs.Target.{IsColumnTarget}
use Rattle.col_set.proofs.Places.{Contains-listed}
use Rattle.rel_base.specs.CodeTable.{CodeTable}
use Rattle.rel_base.specs.JobParts.{JobParts}
use Rattle.rel_base.specs.RowState.{RowState}
use Rattle.rel_base.proofs.Shown.{holds_in-shown}
use Rattle.rel_base.proofs.States.{All-from, live_climbs}
use Rattle.rel_base.proofs.Valid.{holds-true}
use Rattle.sampler.specs.Window.{IsWindow}
use Rattle.desk.specs.declared.desk.Desk.{Desk}
use Rattle.cover_steps.specs.Sound.{Sound}
use Rattle.cover_core.specs.Told.{IsTrueOf}
use Rattle.cover_core.specs.declared.known.Known.{Known}
use Rattle.desk.specs.Desks.{Place, WasDrawn, TellsRows, opened_book}
use Rattle.refine_pool.specs.declared.bench.Bench.{Bench}
use Rattle.refine_pool.specs.Crews.{WentOn}
use Rattle.refine_pool.specs.Benches.{HasJob}
use Rattle.refine_pool.specs.Work.{AreDifferent, IsRightOf, Serves}
use Rattle.refine_pool.proofs.Passing.{went_drawn}

pub window-different : (s : CodeTable) (column distance : ℕ) (pairs : List (ℕ × ℕ)) → IsWindow s column distance pairs → (n : ℕ) → AreDifferent (Rattle.std.specs.Prelude.take n pairs)
window-different s column distance pairs w n =
    let P : (ℕ × ℕ) → Type 0 = λ pair. pair.0 ≢ pair.1 in
    All-take P n pairs (All-from P pairs (λ pair h. (let before : pair.0 < pair.1 = ((w.each pair.0 pair.1).0 (Contains-listed pair pairs h)).before in λ same. absurd (omega (arith, same)))))

-- the bench that is kept serves a job that is drawn
pub bench_serves : (desk : Desk) (p : Place) (job : JobParts) (bench : Option Bench) → IfSome bench (λ b. WasDrawn desk p b.job) → TellsRows desk p job → IfSome bench (λ b. Serves b.job job)
bench_serves desk p job None d t = tt
bench_serves desk p job (Some b) d t = t.alike b.job d

-- what it was made for was drawn
pub bench_drawn : (desk : Desk) (p q : Place) (job : JobParts) (old new : Option Bench) → WasDrawn desk p job → IfSome old (λ b. WasDrawn desk p b.job) → IfSome new (λ b. (b.job ≡ job) ⊎ HasJob old b.job) → WentOn p q → IfSome new (λ b. WasDrawn desk q b.job)
bench_drawn desk p q job old None d kept h on = tt
bench_drawn desk p q job None (Some b) d kept h on = ⊎_elim (λ is. went_drawn desk p q b.job on (subst (WasDrawn desk p) (sym is) d)) (λ none. absurd none) h
bench_drawn desk p q job (Some k) (Some b) d kept h on = ⊎_elim (λ is. went_drawn desk p q b.job on (subst (WasDrawn desk p) (sym is) d)) (λ is. went_drawn desk p q b.job on (subst (WasDrawn desk p) (sym is) kept)) h

pub bench_stays : (desk : Desk) (p q : Place) (old new : Option Bench) → IfSome old (λ b. WasDrawn desk p b.job) → new ≡ old → WentOn p q → IfSome new (λ b. WasDrawn desk q b.job)
bench_stays desk p q old new kept is on = subst (λ (o : Option Bench). IfSome o (λ b. WasDrawn desk q b.job)) (sym is) (go old kept)
  where
    go : (o : Option Bench) → IfSome o (λ b. WasDrawn desk p b.job) → IfSome o (λ b. WasDrawn desk q b.job)
    go None h = tt
    go (Some b) h = went_drawn desk p q b.job on h

-- what is known is right of a job that is drawn
known_right : (desk : Desk) (p q : Place) (job : JobParts) (known : Known) → Sound (opened_book desk) → TellsRows desk p job → WasDrawn desk q job → IsTrueOf (opened_book desk).rows known → IsRightOf known job
known_right desk p q job known sound tells drawn told = record {
  target = subst (λ (n : ℕ). IsColumnTarget n job.target) (sym told.wide) drawn.target;
  holds = λ a.
      let r : RowState = (opened_book desk).rows in
      holds_in-shown job.snapshot r sound.rows (tells.opened (a.next ∙ told.next) (a.live ∙ told.live)) job.left job.target
      ∙ holds-true r job.left job.target (live_climbs r sound.rows) (told.holds job.target job.left drawn.target a.tells);
}

pub all_known_right : (desk : Desk) (p q : Place) (job : JobParts) (known : Option (Bor Known)) → Sound (opened_book desk) → TellsRows desk p job → WasDrawn desk q job → IfSome known (λ k. IsTrueOf (opened_book desk).rows k.now) → IfSome known (λ k. IsRightOf k.now job)
all_known_right desk p q job None sound tells drawn told = tt
all_known_right desk p q job (Some k) sound tells drawn told = known_right desk p q job k.now sound tells drawn told
