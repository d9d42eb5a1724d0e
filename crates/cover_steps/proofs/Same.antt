-- Jobs that were drawn from the same rows.
use Rattle.std.proofs.Common.{inl, inr, ◌≡◌, ◌≢◌, ◌⊎◌, ℕ, ◌+◌, ◌-◌, eqb, sym, ap, ◌∙◌, subst, arith, List, [], ◌∷◌, ◌++◌, length, get_or}
use Rattle.std.specs.List.{list_any}
use Rattle.std.proofs.lemmas.Bool.{true≢false, eqb-true, eq-eqb, cases_Bool}
use Rattle.std.proofs.lemmas.List.{ext_get_or}
use Rattle.std.proofs.lemmas.Cmp.{nat_cmp_total}
use Rattle.col_set.specs.Lists.{Listed, Listed-append_cases, list_any_at, list_any_which}
use Rattle.col_set.proofs.Places.{Climbs, Contains-listed, Listed-contained, same_rising}
use Rattle.rel_base.specs.declared.batch.Op.{Op}
use Rattle.rel_base.specs.JobParts.{JobParts}
use Rattle.rel_base.specs.RowState.{RowState, IsRowState, next}
use Rattle.rel_base.specs.Shows.{Shows}
use Rattle.rel_base.specs.Alike.{Alike}
use Rattle.rel_base.specs.Laws.{Follows}
use Rattle.rel_base.proofs.States.{Rises-Climbs, live_climbs, live_numbered}
use Rattle.rel_base.proofs.Changes.{Follows-refl, Follows-trans}
use Rattle.rel_base.proofs.Shown.{live_numbers-shown}
use Rattle.rel_base.proofs.Alike.{alike-shown, alike-turned}
use Rattle.cover_steps.specs.declared.step.Call.{Call}
use Rattle.cover_steps.specs.declared.step.Call.TheVariants.{Draw, Refute, Mark, Release, Apply, Settle}
use Rattle.cover_steps.specs.declared.step.Reply.{Reply}
use Rattle.cover_steps.specs.declared.step.Reply.TheVariants.{Job}
use Rattle.cover_steps.specs.Core.{Core}
use Rattle.cover_steps.specs.Steps.{IsDrawing, IsRefuting, IsMarking, IsReleasing, IsApplying, IsSettling, Step}
use Rattle.cover_steps.specs.Sound.{SoundWith}
use Rattle.cover_steps.specs.Histories.{Entry, Runs, drawn, all_drawn}
use Rattle.cover_steps.specs.Laws.{live_count, JobsOfTheSameRows}
use Rattle.cover_steps.proofs.Lists.{Pairwise}
use Rattle.cover_steps.proofs.Keeping.{step_keeps}
use Rattle.cover_steps.proofs.Counting.{no_longer}
use Rattle.cover_steps.proofs.Whole.{runs_keep}
use Rattle.cover_steps.proofs.Going.{runs_follow, step_follows}

-- ---- rows of which as many are live
climbing-apart : (xs : List ℕ) → Climbs xs → Pairwise (λ a b. a ≢ b) xs
climbing-apart [] c = tt
climbing-apart (x ∷ xs) c = ((λ y h e. let l = c.0 y h in absurd (omega arith)), climbing-apart xs c.1)

-- of two ascending lists of one length, of which one has the other's elements, the other has its
all_there : (xs ys : List ℕ) → Climbs xs → ((x : ℕ) → Listed x xs → Listed x ys) → length xs ≡ length ys → (y : ℕ) → Listed y ys → Listed y xs
all_there xs ys c f e y h = elim (cases_Bool (list_any (eqb y) xs)) as (λ _. Listed y xs) [
  | inl found ↦ (let w = list_any_which (eqb y) xs found in subst (λ (k : ℕ). Listed k xs) (sym (eqb-true y w.0 w.2)) w.1)
  | inr missing ↦ absurd (let l = no_longer (y ∷ xs) ys ((λ x g d. true≢false (sym (list_any_at (eqb y) x xs g (eq-eqb y x d)) ∙ missing)), climbing-apart xs c) (λ x g. among x g) in omega arith)
]
  where
    among : (x : ℕ) → Listed x (y ∷ xs) → Listed x ys
    among x (inl i) = subst (λ (k : ℕ). Listed k ys) (sym i) h
    among x (inr g) = f x g

pub same_state : (r s : RowState) → IsRowState r → IsRowState s → Follows r s → next s ≡ next r → length s.live ≡ length r.live → s ≡ r
same_state r s is also f n l = λ i. record { names = f.names i; nulls = f.nulls i; limit = f.limit i; given = given i; live = live i }
  where
    given : s.given ≡ r.given
    given = ext_get_or [] s.given r.given (omega arith) (λ k b. let e : k + 1 - 1 ≡ k = omega arith in subst (λ (j : ℕ). get_or s.given j [] ≡ get_or r.given j []) e (f.rows (k + 1) (omega arith) (omega arith)))

    was : (x : ℕ) → Listed x s.live → Listed x r.live
    was x h = Listed-contained x r.live (f.live x (let b = live_numbered s x also h in omega arith) (Contains-listed x s.live h))

    live : s.live ≡ r.live
    live = same_rising nat_cmp_total s.live r.live (Rises-Climbs s.live (live_climbs s also)) (Rises-Climbs r.live (live_climbs r is)) was (all_there s.live r.live (live_climbs s also) was l)

-- ---- jobs
-- the rows that a job was drawn from
pub record Source (s new : Core) (job : JobParts) : Type 0 where
  pub rows : RowState
  pub is : IsRowState rows
  pub shows : Shows job.snapshot rows
  pub to : job.to ≡ next rows
  pub after : Follows s.rows rows
  pub before : Follows rows new.rows

live-counted : (job : JobParts) (r : RowState) → IsRowState r → Shows job.snapshot r → live_count job.snapshot ≡ length r.live
live-counted job r is shows = ap length (live_numbers-shown job.snapshot r is shows)

-- a draw's job shows the rows
module _ (s new : Core) (job : JobParts) where
  drawing_shows : (reply : Reply) → IsDrawing s reply new → Listed job (drawn reply) → Shows job.snapshot s.rows × (job.to ≡ next s.rows)
  drawing_shows (Job other) d (inl e) = (subst (λ (j : JobParts). Shows j.snapshot s.rows) (sym e) d.shows, ap (λ (j : JobParts). j.to) e ∙ d.to)
  drawing_shows (Job other) d (inr h) = absurd h
  drawing_shows _ d h = absurd h

  refuting_none : (i j : ℕ) (reply : Reply) → IsRefuting s i j reply new → Listed job (drawn reply) → ⊥
  refuting_none i j (Job other) d h = d
  refuting_none i j _ d h = h

  marking_none : (k : JobParts) (reply : Reply) → IsMarking s k reply new → Listed job (drawn reply) → ⊥
  marking_none k (Job other) d h = d
  marking_none k _ d h = h

  releasing_none : (k : JobParts) (reply : Reply) → IsReleasing s k reply new → Listed job (drawn reply) → ⊥
  releasing_none k (Job other) d h = d
  releasing_none k _ d h = h

  applying_none : (ops : List Op) (reply : Reply) → IsApplying s ops reply new → Listed job (drawn reply) → ⊥
  applying_none ops (Job other) d h = d
  applying_none ops _ d h = h

  settling_none : (reply : Reply) → IsSettling s reply new → Listed job (drawn reply) → ⊥
  settling_none (Job other) d h = d
  settling_none _ d h = h

  step_shows : (call : Call) (reply : Reply) → Step s call reply new → Listed job (drawn reply) → Shows job.snapshot s.rows × (job.to ≡ next s.rows)
  step_shows Draw reply d h = drawing_shows reply d h
  step_shows (Refute i j) reply d h = absurd (refuting_none i j reply d h)
  step_shows (Mark k) reply d h = absurd (marking_none k reply d h)
  step_shows (Release k) reply d h = absurd (releasing_none k reply d h)
  step_shows (Apply ops) reply d h = absurd (applying_none ops reply d h)
  step_shows Settle reply d h = absurd (settling_none reply d h)

source-now : (jobs : List JobParts) (s new : Core) (es : List Entry) (job : JobParts) → SoundWith s jobs → Runs jobs s es new → Shows job.snapshot s.rows → job.to ≡ next s.rows → Source s new job
source-now jobs s new es job h r shows to = record { rows = s.rows; is = h.sound.rows; shows = shows; to = to; after = Follows-refl s.rows; before = runs_follow jobs s new es h r }

source-later : (s mid new : Core) (job : JobParts) → Follows s.rows mid.rows → Source mid new job → Source s new job
source-later s mid new job f w = record { rows = w.rows; is = w.is; shows = w.shows; to = w.to; after = Follows-trans s.rows mid.rows w.rows f w.after; before = w.before }

source : (jobs : List JobParts) (s new : Core) (es : List Entry) (job : JobParts) → SoundWith s jobs → Runs jobs s es new → Listed job (all_drawn es) → Source s new job
source jobs s new [] job h r l = absurd l
source jobs s new (e ∷ es) job h r l = by (Listed-append_cases job (drawn e.reply) (all_drawn es) l) (λ g. source (jobs ++ drawn e.reply) r.0 new es job (step_keeps jobs s r.0 e.call e.reply h r.1 r.2) r.3 g)
  where
    by : Listed job (drawn e.reply) ⊎ Listed job (all_drawn es) → (Listed job (all_drawn es) → Source r.0 new job) → Source s new job
    by (inl g) rest = let w = step_shows s r.0 job e.call e.reply r.2 g in source-now jobs s new (e ∷ es) job h r w.0 w.1
    by (inr g) rest = source-later s r.0 new job (step_follows jobs s r.0 e.call e.reply h.sound.rows r.1 r.2) (rest g)

-- two jobs, of which one was drawn from rows that those of the other may come after
alike-sources : (first second : JobParts) (q r : RowState) → IsRowState q → IsRowState r → Shows first.snapshot q → Shows second.snapshot r → Follows q r → first.to ≡ next q → second.to ≡ next r → first.to ≡ second.to → live_count first.snapshot ≡ live_count second.snapshot → Alike first.snapshot second.snapshot
alike-sources first second q r is also shows tells f a b e l =
    let same : r ≡ q = same_state q r is also f (sym b ∙ sym e ∙ a) (sym (live-counted second r also tells) ∙ sym l ∙ live-counted first q is shows) in
    alike-shown first.snapshot second.snapshot q is shows (subst (Shows second.snapshot) same tells)

alike-drawn : (jobs : List JobParts) (s new : Core) (es : List Entry) (first second : JobParts) → SoundWith s jobs → Runs jobs s es new → Listed first (all_drawn es) → Listed second (all_drawn es) → first.to ≡ second.to → live_count first.snapshot ≡ live_count second.snapshot → Alike first.snapshot second.snapshot
alike-drawn jobs s new [] first second h r l m e n = absurd l
alike-drawn jobs s new (x ∷ es) first second h r l m e n =
    by (Listed-append_cases first (drawn x.reply) (all_drawn es) l) (Listed-append_cases second (drawn x.reply) (all_drawn es) m) (λ a b. alike-drawn (jobs ++ drawn x.reply) r.0 new es first second keeps r.3 a b e n)
  where
    keeps : SoundWith r.0 (jobs ++ drawn x.reply)
    keeps = step_keeps jobs s r.0 x.call x.reply h r.1 r.2

    later : (job : JobParts) → Listed job (all_drawn es) → Source s new job
    later job g = source-later s r.0 new job (step_follows jobs s r.0 x.call x.reply h.sound.rows r.1 r.2) (source (jobs ++ drawn x.reply) r.0 new es job keeps r.3 g)

    here : (job : JobParts) → Listed job (drawn x.reply) → Shows job.snapshot s.rows × (job.to ≡ next s.rows)
    here job g = step_shows s r.0 job x.call x.reply r.2 g

    by : Listed first (drawn x.reply) ⊎ Listed first (all_drawn es) → Listed second (drawn x.reply) ⊎ Listed second (all_drawn es) → (Listed first (all_drawn es) → Listed second (all_drawn es) → Alike first.snapshot second.snapshot) → Alike first.snapshot second.snapshot
    by (inl a) (inl b) rest = alike-shown first.snapshot second.snapshot s.rows h.sound.rows (here first a).0 (here second b).0
    by (inl a) (inr b) rest = let v = here first a in let w = later second b in alike-sources first second s.rows w.rows h.sound.rows w.is v.0 w.shows w.after v.1 w.to e n
    by (inr a) (inl b) rest = let v = here second b in let w = later first a in alike-turned second.snapshot first.snapshot (alike-sources second first s.rows w.rows h.sound.rows w.is v.0 w.shows w.after v.1 w.to (sym e) (sym n))
    by (inr a) (inr b) rest = rest a b

pub jobs_alike : (jobs : List JobParts) (s new : Core) (es : List Entry) → SoundWith s jobs → Runs jobs s es new → JobsOfTheSameRows jobs s new es
jobs_alike jobs s new es h r = record {
  alike = λ first second l m e n. alike-drawn jobs s new es first second h r (Listed-contained first (all_drawn es) l) (Listed-contained second (all_drawn es) m) e n;
  of_beginning = λ job l e n.
      let w = source jobs s new es job h r (Listed-contained job (all_drawn es) l) in
      let same : w.rows ≡ s.rows = same_state s.rows w.rows h.sound.rows w.is w.after (sym w.to ∙ e) (sym (live-counted job w.rows w.is w.shows) ∙ n) in
      subst (Shows job.snapshot) same w.shows;
  of_end = λ job l e n.
      let w = source jobs s new es job h r (Listed-contained job (all_drawn es) l) in
      let also : IsRowState new.rows = (runs_keep jobs s new es h r).sound.rows in
      let same : new.rows ≡ w.rows = same_state w.rows new.rows w.is also w.before (sym e ∙ w.to) (sym n ∙ live-counted job w.rows w.is w.shows) in
      subst (Shows job.snapshot) (sym same) w.shows;
}
