-- How many witnesses are booked while the rows stay.
use Rattle.std.proofs.Common.{inl, inr, ◌≡◌, ◌≢◌, ◌⊎◌, ℕ, suc, ◌+◌, ◌≤◌, eqb, Bool, true, false, cond, not, refl, sym, ap, ◌∙◌, subst, arith, List, [], ◌∷◌, ◌++◌, length, map}
use Rattle.std.specs.List.{filter}
use Rattle.std.proofs.lemmas.Bool.{true≢false, eq-eqb, ne_eqb, cases_eq}
use Rattle.std.proofs.lemmas.List.{length-append}
use Rattle.col_set.specs.Lists.{Listed, Listed-filter, Listed-map_which}
use Rattle.rel_base.specs.declared.batch.Op.{Op}
use Rattle.rel_base.specs.JobParts.{JobParts}
use Rattle.rel_base.specs.RowState.{RowState}
use Rattle.rel_base.specs.Validity.{agree_sets}
use Rattle.rel_base.specs.Batches.{kept_or_after}
use Rattle.negative_cover.specs.declared.negative_cover.Witness.{Witness}
use Rattle.cover_steps.specs.declared.step.Call.{Call}
use Rattle.cover_steps.specs.declared.step.Call.TheVariants.{Draw, Refute, Mark, Release, Apply, Settle}
use Rattle.cover_steps.specs.declared.step.Reply.{Reply}
use Rattle.cover_steps.specs.declared.step.Reply.TheVariants.{Job, Busy, Settled, Gone, Known, Booked, Marked, Dropped, Released, Applied, Refused, Ready, NotYet, NoMemory}
use Rattle.cover_steps.specs.Core.{Core, witness_of}
use Rattle.negative_cover.specs.Witnesses.{sets_of}
use Rattle.cover_steps.specs.Steps.{IsDrawing, IsRefuting, IsMarking, IsReleasing, IsApplying, IsSettling, Step}
use Rattle.cover_steps.specs.Sound.{Sound}
use Rattle.cover_steps.specs.Histories.{rows_after_call, is_accepted, is_booked}
use Rattle.cover_steps.specs.Laws.{different}
use Rattle.cover_steps.proofs.Lists.{Pairwise, Pairwise-AllPairs}
use Rattle.cover_steps.proofs.Exact.{agree-listed}

-- ---- different elements of a list
dropped_one : (x : ℕ) (zs : List ℕ) → Listed x zs → length (filter (λ v. not (eqb x v)) zs) + 1 ≤ length zs
dropped_one x [] h = absurd h
dropped_one x (z ∷ zs) h = by (eqb x z) refl (split h) (λ g. dropped_one x zs g) (fewer zs)
  where
    fewer : (zs : List ℕ) → length (filter (λ v. not (eqb x v)) zs) ≤ length zs
    fewer [] = omega arith
    fewer (z ∷ zs) = at (eqb x z) (fewer zs)
      where
        at : (b : Bool) → length (filter (λ v. not (eqb x v)) zs) ≤ length zs → length (cond (not b) (z ∷ filter (λ v. not (eqb x v)) zs) (filter (λ v. not (eqb x v)) zs)) ≤ length (z ∷ zs)
        at true l = omega arith
        at false l = omega arith

    split : Listed x (z ∷ zs) → (eqb x z ≡ true) ⊎ Listed x zs
    split (inl e) = inl (eq-eqb x z e)
    split (inr g) = inr g

    by : (b : Bool) → eqb x z ≡ b → (eqb x z ≡ true) ⊎ Listed x zs → (Listed x zs → length (filter (λ v. not (eqb x v)) zs) + 1 ≤ length zs)
        → length (filter (λ v. not (eqb x v)) zs) ≤ length zs
        → length (cond (not b) (z ∷ filter (λ v. not (eqb x v)) zs) (filter (λ v. not (eqb x v)) zs)) + 1 ≤ length (z ∷ zs)
    by true e h rest l = omega arith
    by false e (inl g) rest l = absurd (true≢false (sym g ∙ e))
    by false e (inr g) rest l = let m = rest g in omega arith

-- a list of different elements of another is no longer
pub no_longer : (xs zs : List ℕ) → Pairwise (λ a b. a ≢ b) xs → ((x : ℕ) → Listed x xs → Listed x zs) → length xs ≤ length zs
no_longer [] zs p f = omega arith
no_longer (x ∷ xs) zs p f =
    let l = no_longer xs (filter (λ v. not (eqb x v)) zs) p.1 (λ y h. Listed-filter (λ v. not (eqb x v)) y zs (f y (inr h)) (ap not (ne_eqb x y (p.0 y h)))) in
    let m = dropped_one x zs (f x (inl refl)) in omega arith

pub Listed-different : (x : ℕ) (ws : List ℕ) → Listed x ws → Listed x (different ws)
unfolding different
Listed-different x [] h = absurd h
Listed-different x (w ∷ ws) (inl e) = inl e
Listed-different x (w ∷ ws) (inr h) = by (cases_eq w x) (Listed-different x ws h)
  where
    by : (w ≡ x) ⊎ (w ≢ x) → Listed x (different ws) → Listed x (w ∷ filter (λ v. not (eqb w v)) (different ws))
    by (inl e) g = inl (sym e)
    by (inr ne) g = inr (Listed-filter (λ v. not (eqb w v)) x (different ws) g (ap not (ne_eqb w x ne)))

Pairwise-map : {X : Type 0} (f : X → ℕ) (xs : List X) → Pairwise (λ v w. f v ≢ f w) xs → Pairwise (λ a b. a ≢ b) (map f xs)
Pairwise-map f [] p = tt
Pairwise-map {X} f (x ∷ xs) p = ((λ y h. let w = Listed-map_which f y xs h in subst (λ (z : ℕ). f x ≢ z) (sym w.2) (p.0 w.0 w.1)), Pairwise-map f xs p.1)

length-map_sets : (ws : List Witness) → length (sets_of ws) ≡ length ws
length-map_sets [] = refl
length-map_sets (w ∷ ws) = ap (λ (k : ℕ). suc k) (length-map_sets ws)

-- a sound state has no more witnesses than there are different agree sets of pairs of live rows
pub witnesses_few : (s : Core) → Sound s → length s.witnesses ≤ length (different (agree_sets s.rows))
witnesses_few s sound =
    let l = no_longer (sets_of s.witnesses) (different (agree_sets s.rows)) (Pairwise-map (λ (w : Witness). w.agree) s.witnesses (Pairwise-AllPairs (λ v w. v.agree ≢ w.agree) s.witnesses sound.once))
    (λ x h. Listed-different x (agree_sets s.rows) (agree-listed s sound x h)) in
    let e = length-map_sets s.witnesses in omega arith

-- ---- what a step does to the rows, and to the number of witnesses
-- one where a witness was booked
abbrev pub bookings : Reply → ℕ
bookings reply = cond (is_booked reply) 1 0

-- the rows are these, and so many more witnesses were booked
pub record Changes (s new : Core) (r : RowState) (more : ℕ) : Type 0 where
  pub rows : new.rows ≡ r
  pub witnesses : length new.witnesses ≡ length s.witnesses + more

-- the rows and witnesses of a state that differs in candidates alone
marks_alone : (s m new : Core) → new ≡ m → m.rows ≡ s.rows → m.witnesses ≡ s.witnesses → Changes s new s.rows 0
marks_alone s m new e rows ws = record {
  rows = ap (λ (m : Core). m.rows) e ∙ rows;
  witnesses = let l : length new.witnesses ≡ length s.witnesses = ap (λ (m : Core). length m.witnesses) e ∙ ap length ws in omega arith;
}

same : (s new : Core) → new ≡ s → Changes s new s.rows 0
same s new e = marks_alone s s new e refl refl

drawing_changes : (s new : Core) (reply : Reply) → IsDrawing s reply new → Changes s new s.rows 0
drawing_changes s new (Job job) d = marks_alone s _ new d.after refl refl
drawing_changes s new (Busy t x) d = same s new d.1
drawing_changes s new Settled d = same s new d.1
drawing_changes s new NoMemory d = same s new d
drawing_changes s new _ d = absurd d

marking_changes : (s new : Core) (job : JobParts) (reply : Reply) → IsMarking s job reply new → Changes s new s.rows 0
marking_changes s new job Marked d = marks_alone s _ new d.1 refl refl
marking_changes s new job Dropped d = same s new d.1
marking_changes s new job _ d = absurd d

releasing_changes : (s new : Core) (job : JobParts) (reply : Reply) → IsReleasing s job reply new → Changes s new s.rows 0
releasing_changes s new job Released d = marks_alone s _ new d.1 refl refl
releasing_changes s new job Dropped d = same s new d.1
releasing_changes s new job _ d = absurd d

settling_changes : (s new : Core) (reply : Reply) → IsSettling s reply new → Changes s new s.rows 0
settling_changes s new (Ready covers) d = same s new d.2
settling_changes s new (NotYet t x number) d = same s new d.1
settling_changes s new NoMemory d = same s new d
settling_changes s new _ d = absurd d

refuting_changes : (s new : Core) (i j : ℕ) (reply : Reply) → IsRefuting s i j reply new → Changes s new s.rows (bookings reply)
refuting_changes s new i j (Gone row) d = same s new d.1
refuting_changes s new i j Known d = same s new d.2
refuting_changes s new i j Booked d = record {
  rows = ap (λ (m : Core). m.rows) d.2;
  witnesses = let l : length new.witnesses ≡ length (s.witnesses ++ witness_of s.rows i j ∷ []) = ap (λ (m : Core). length m.witnesses) d.2 in let e = length-append s.witnesses (witness_of s.rows i j ∷ []) in omega arith;
}
refuting_changes s new i j NoMemory d = same s new d
refuting_changes s new i j _ d = absurd d

-- the rows after a batch
pub applying_rows : (s new : Core) (ops : List Op) (reply : Reply) → IsApplying s ops reply new → new.rows ≡ rows_after_call s.rows (Apply ops) reply
applying_rows s new ops (Applied inserted deleted) d = ap (λ (m : Core). m.rows) d.state ∙ ap (kept_or_after s.rows) (sym d.after)
applying_rows s new ops (Refused at why) d = ap (λ (m : Core). m.rows) d.1
applying_rows s new ops NoMemory d = ap (λ (m : Core). m.rows) d
applying_rows s new ops _ d = absurd d

applying_changes : (s new : Core) (ops : List Op) (reply : Reply) → is_accepted reply ≡ false → IsApplying s ops reply new → Changes s new s.rows 0
applying_changes s new ops (Applied inserted deleted) quiet d = absurd (true≢false quiet)
applying_changes s new ops (Refused at why) quiet d = same s new d.1
applying_changes s new ops NoMemory quiet d = same s new d
applying_changes s new ops _ quiet d = absurd d

-- a reply that no refutation has is not that a witness was booked
module _ (s new : Core) where
  drawing_none : (reply : Reply) → IsDrawing s reply new → bookings reply ≡ 0
  drawing_none Booked d = absurd d
  drawing_none _ d = refl

  marking_none : (job : JobParts) (reply : Reply) → IsMarking s job reply new → bookings reply ≡ 0
  marking_none job Booked d = absurd d
  marking_none job _ d = refl

  releasing_none : (job : JobParts) (reply : Reply) → IsReleasing s job reply new → bookings reply ≡ 0
  releasing_none job Booked d = absurd d
  releasing_none job _ d = refl

  applying_none : (ops : List Op) (reply : Reply) → IsApplying s ops reply new → bookings reply ≡ 0
  applying_none ops Booked d = absurd d
  applying_none ops _ d = refl

  settling_none : (reply : Reply) → IsSettling s reply new → bookings reply ≡ 0
  settling_none Booked d = absurd d
  settling_none _ d = refl

counted : (s new : Core) (n : ℕ) → n ≡ 0 → Changes s new s.rows 0 → Changes s new s.rows n
counted s new n e c = subst (Changes s new s.rows) (sym e) c

pub step_changes : (s new : Core) (call : Call) (reply : Reply) → is_accepted reply ≡ false → Step s call reply new → Changes s new s.rows (bookings reply)
step_changes s new Draw reply quiet d = counted s new _ (drawing_none s new reply d) (drawing_changes s new reply d)
step_changes s new (Refute i j) reply quiet d = refuting_changes s new i j reply d
step_changes s new (Mark job) reply quiet d = counted s new _ (marking_none s new job reply d) (marking_changes s new job reply d)
step_changes s new (Release job) reply quiet d = counted s new _ (releasing_none s new job reply d) (releasing_changes s new job reply d)
step_changes s new (Apply ops) reply quiet d = counted s new _ (applying_none s new ops reply d) (applying_changes s new ops reply quiet d)
step_changes s new Settle reply quiet d = counted s new _ (settling_none s new reply d) (settling_changes s new reply d)

-- only an accepted batch changes the rows
kept_rows : (r : RowState) (call : Call) (reply : Reply) → is_accepted reply ≡ false → rows_after_call r call reply ≡ r
kept_rows r (Apply ops) (Applied inserted deleted) quiet = absurd (true≢false quiet)
kept_rows r (Apply ops) _ quiet = refl
kept_rows r _ reply quiet = refl

pub step_rows : (s new : Core) (call : Call) (reply : Reply) → Step s call reply new → new.rows ≡ rows_after_call s.rows call reply
step_rows s new (Apply ops) reply d = applying_rows s new ops reply d
step_rows s new Draw reply d = (drawing_changes s new reply d).rows
step_rows s new (Refute i j) reply d = (refuting_changes s new i j reply d).rows
step_rows s new (Mark job) reply d = (marking_changes s new job reply d).rows
step_rows s new (Release job) reply d = (releasing_changes s new job reply d).rows
step_rows s new Settle reply d = (settling_changes s new reply d).rows
