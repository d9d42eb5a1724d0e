-- One turn of `finish`: the first unfinished candidate is validated, and its verdict is booked.
use Rattle.std.proofs.Common.{inl, inr, ◌≡◌, ℕ, ◌<◌, Bool, true, false, not, refl, sym, ap, ◌∙◌, subst, List, [], ◌∷◌, ◌++◌, length, length-append, Option, Some, None, Result, Ok, Err, IfOk, IsTrue, ◌↔◌}
use Rattle.std.specs.Prelude.{OnErr}
use Rattle.std.specs.Option.{is_some, option_map}
use Rattle.std.proofs.lemmas.Bool.{true≢false, false≢true, eq-eqb}
use Rattle.std.proofs.lemmas.List.{append_assoc, append-nil}
use Rattle.col_set.specs.declared.target.Target.{Target}
use Rattle.col_set.specs.Lists.{list_any_at}
use Rattle.rel_base.specs.CodeTable.{CodeTable}
use Rattle.rel_base.specs.JobParts.{JobParts}
use Rattle.rel_base.specs.RowState.{RowState, next}
use Rattle.rel_base.specs.Validity.{agree_of}
use Rattle.negative_cover.specs.declared.negative_cover.Witness.{Witness}
use Rattle.candidate_cover.specs.declared.cand.Cand.{Cand}
use Rattle.candidate_cover.specs.declared.cand.Marking.{Marking}
use Rattle.candidate_cover.specs.declared.cand.Marking.TheVariants.{Marked, Dropped}
use Rattle.candidate_cover.specs.Cands.{is_listed}
use Rattle.cover_steps.specs.Core.{Core, cands, first_unfinished, refutes_some, witness_of}
use Rattle.cover_steps.specs.Steps as steps
use Rattle.cover_steps.specs.Sound.{Sound, Fits}
use Rattle.cover_steps.proofs.Found.{IsEntry}
use Rattle.validator.specs.Verdicts.{IsViolation, IsFitting}
use Rattle.cover_core.specs.Kept.{IsBook}
use Rattle.cover_core.specs.Replies.{reply_of_mark, reply_of_refutation}
use Rattle.cover_core.specs.Work.{Extends, work}
use Rattle.cover_core.specs.declared.cursor.Unfinished.{Unfinished}
use Rattle.cover_core.specs.Past.{IsFirst, place}
use Rattle.cover_core.specs.declared.answers.Refutation.{Refutation}
use Rattle.cover_core.specs.declared.answers.Refutation.TheVariants.{Gone, Known, Booked}
use Rattle.cover_core.proofs.Booking.{job_of, unfinished-entry, Fits-entry, IsFitting-entry, violation-live, violation-refutes, work-marked}
use Rattle.cover_core.proofs.Measure.{work-booked}
use Rattle.cover_core.proofs.Whole.{IsJobOf}

-- what a call of a turn leaves: the same rows, the witnesses that there were, and less to do
pub record Advances (old new : Core) : Type 0 where
  pub rows : new.rows ≡ old.rows
  pub witnesses : Extends old.witnesses new.witnesses
  pub less : work new < work old

-- what the turns so far left
pub record IsTurned (old new : Core) : Type 0 where
  pub rows : new.rows ≡ old.rows
  pub witnesses : Extends old.witnesses new.witnesses

pub IsTurned-none : (s : Core) → IsTurned s s
IsTurned-none s = record { rows = refl; witnesses = ([], sym (append-nil s.witnesses)) }

pub IsTurned-same : (old new : Core) → new.rows ≡ old.rows → new.witnesses ≡ old.witnesses → IsTurned old new
IsTurned-same old new rows same = record { rows = rows; witnesses = ([], same ∙ sym (append-nil old.witnesses)) }

pub IsTurned-more : (old mid new : Core) → IsTurned old mid → new.rows ≡ mid.rows → Extends mid.witnesses new.witnesses → IsTurned old new
IsTurned-more old mid new so rows more = record {
  rows = rows ∙ so.rows;
  witnesses = (so.witnesses.0 ++ more.0, more.1 ∙ ap (λ (ws : List Witness). ws ++ more.0) so.witnesses.1 ∙ append_assoc old.witnesses so.witnesses.0 more.0);
}

pub IsTurned-fits : (old new : Core) → IsTurned old new → (job : JobParts) → Fits old.rows job → Fits new.rows job
IsTurned-fits old new so job fits = subst (λ (r : RowState). Fits r job) (sym so.rows) fits

-- ---- what is found
pub settled-is : (s : Core) (found : Option (Target × Cand)) (b : Bool) → first_unfinished s ≡ found → is_some found ≡ not b → IsTrue b ↔ (first_unfinished s ≡ None)
settled-is s None true e i = ((λ _. e), (λ _. refl))
settled-is s None false e i = absurd (false≢true i)
settled-is s (Some x) true e i = absurd (true≢false i)
settled-is s (Some x) false e i = ((λ h. absurd (false≢true h)), (λ h. absurd (true≢false (ap is_some (sym e ∙ h)))))

pub settled-first : (s : Core) (first : Option Unfinished) (b : Bool) → IsFirst s first → is_some first ≡ not b → IsTrue b ↔ (first_unfinished s ≡ None)
settled-first s first b is i = settled-is s (first_unfinished s) b refl (sym (some-map (first_unfinished s)) ∙ ap is_some (sym is) ∙ i)
  where
    some-map : (o : Option (Target × Cand)) → is_some (option_map place o) ≡ is_some o
    some-map None = refl
    some-map (Some e) = refl

pub on-err : {X E : Type 0} (r : Result X E) (P : Type 0) → P → OnErr r P
on-err (Ok x) P h = tt
on-err (Err e) P h = h

pub both-ok : {X E : Type 0} (r : Result X E) (P Q R : X → Type 0) → IfOk r P → IfOk r Q → ((x : X) → P x → Q x → R x) → IfOk r R
both-ok (Ok x) P Q R p q f = f x p q
both-ok (Err e) P Q R p q f = p

module _ (s now : Core) (table : CodeTable) (book : IsBook s table) (view : s ≡ now) (t : Target) (c : Cand) (first : first_unfinished now ≡ Some (t, c)) (n : ℕ) (e : n ≡ next s.rows) (job : JobParts) (is : IsJobOf job t c n table) where
  own : first_unfinished s ≡ Some (t, c)
  own = ap first_unfinished view ∙ first

  same : job ≡ job_of s t c table
  same = λ k. record { target = is.target k; left = is.left k; from = is.from k; to = (is.to ∙ e) k; snapshot = is.shared k }

  entry : IsEntry s t c
  entry = (unfinished-entry s t c own).0

  pub turn-fitting : IsFitting job
  turn-fitting = subst IsFitting (sym same) (IsFitting-entry s book.sound t c entry table book.table book.shows)

  pub turn-fits : Fits s.rows job
  turn-fits = subst (Fits s.rows) (sym same) (Fits-entry s book.sound t c entry table book.table book.shows)

  -- ---- a mark
  listed : is_listed (cands s t) c.left ≡ true
  listed = list_any_at _ c (cands s t) entry.listed (eq-eqb c.left c.left refl)

  marked-so : (answer : Marking) (new : Core) → steps.IsMarking s (job_of s t c table) (reply_of_mark answer) new → Advances s new
  marked-so Marked new step = record {
    rows = ap (λ (m : Core). m.rows) step.1;
    witnesses = ([], ap (λ (m : Core). m.witnesses) step.1 ∙ sym (append-nil s.witnesses));
    less = subst (λ (m : Core). work m < work s) (sym step.1) (work-marked s book.sound t c entry table book.table book.shows (unfinished-entry s t c own).1);
  }
  marked-so Dropped new step = absurd (true≢false (sym listed ∙ step.0))

  pub turn-marked : (answer : Marking) (new : Core) → steps.IsMarking s job (reply_of_mark answer) new → Advances now new
  turn-marked answer new step = subst (λ (m : Core). Advances m new) view (marked-so answer new (subst (λ (j : JobParts). steps.IsMarking s j (reply_of_mark answer) new) same step))

  -- ---- a refutation
  module _ (i j : ℕ) (violation : IsViolation job.snapshot job.left job.target i j) where
    here : IsViolation table c.left t i j
    here = subst (λ (k : JobParts). IsViolation k.snapshot k.left k.target i j) same violation

    live : steps.AreLive s.rows i j
    live = violation-live s book.sound t c entry table book.table book.shows i j here

    refutes : refutes_some s (agree_of s.rows i j) ≡ true
    refutes = violation-refutes s book.sound t c entry table book.table book.shows i j here

    booked-so : (answer : Refutation) (new : Core) → Sound new → steps.IsRefuting s i j (reply_of_refutation answer) new → Advances s new
    booked-so (Gone row) new sound (inl gone, stays) = absurd (true≢false (sym live.first ∙ gone.0))
    booked-so (Gone row) new sound (inr gone, stays) = absurd (true≢false (sym live.second ∙ gone.1))
    booked-so Known new sound step = absurd (true≢false (sym refutes ∙ step.1))
    booked-so Booked new sound step = record {
      rows = ap (λ (m : Core). m.rows) step.2;
      witnesses = (witness_of s.rows i j ∷ [], ap (λ (m : Core). m.witnesses) step.2);
      less = work-booked s new sound (ap (λ (m : Core). m.rows) step.2) (ap (λ (m : Core). length m.witnesses) step.2 ∙ length-append s.witnesses (witness_of s.rows i j ∷ []));
    }

    pub turn-booked : (answer : Refutation) (new : Core) → Sound new → steps.IsRefuting s i j (reply_of_refutation answer) new → Advances now new
    turn-booked answer new sound step = subst (λ (m : Core). Advances m new) view (booked-so answer new sound step)
