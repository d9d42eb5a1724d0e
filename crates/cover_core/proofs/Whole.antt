-- All that a call ensures, from what its parts ensure.
use Rattle.std.proofs.Common.{◌≡◌, ◌≢◌, ℕ, Bool, true, false, cond, sym, ap, ◌∙◌, subst, List, [], ◌∷◌, ◌++◌, length, Option, Some, None, Ok}
use Rattle.std.specs.List.{All, find, list_any}
use Rattle.col_set.specs.declared.target.Target.{Target}
use Rattle.col_set.specs.Target.{IsColumnTarget}
use Rattle.rel_base.specs.declared.batch.Op.{Op}
use Rattle.rel_base.specs.CodeTable.{CodeTable, IsCodeTable}
use Rattle.rel_base.specs.JobParts.{JobParts}
use Rattle.rel_base.specs.RowState.{RowState, width, next}
use Rattle.rel_base.specs.Validity.{agree_of}
use Rattle.rel_base.specs.Shows.{Shows, holds_in}
use Rattle.rel_base.specs.Batches.{is_live, after}
use Rattle.rel_base.specs.Batches.{IsAsWide}
use Rattle.negative_cover.specs.declared.negative_cover.Witness.{Witness}
use Rattle.negative_cover.specs.Witnesses.{sets_of, live_of}
use Rattle.candidate_cover.specs.declared.cand.Cand.{Cand}
use Rattle.candidate_cover.specs.declared.cand.Marking.{Marking}
use Rattle.candidate_cover.specs.declared.cand.Marking.TheVariants.{Marked, Dropped}
use Rattle.candidate_cover.specs.Lists.{CandLists}
use Rattle.candidate_cover.specs.Cands.{cands_of, with_list, is_listed, marked, holding}
use Rattle.cover_steps.specs.Core.{Core, cands, entries_in, is_unfinished, is_drawable, first_unfinished, first_drawable, refutes_some, renewed, booked, with_rows}
use Rattle.cover_steps.specs.Steps as steps
use Rattle.cover_steps.specs.Sound.{Fits}
use Rattle.negative_cover.specs.EndedRows.{ended}
use Rattle.cover_core.specs.Kept.{IsBook}
use Rattle.cover_core.specs.Replies.{reply_of_mark, reply_of_release}
use Rattle.cover_core.specs.declared.answers.Release.{Release}
use Rattle.cover_core.specs.declared.answers.Release.TheVariants as releases
use Rattle.cover_core.proofs.Booking.{job_of}
use Rattle.cover_core.proofs.Refuting.{refutes_entry}
use Rattle.cover_core.proofs.Calls

-- the job is that of the candidate
pub record IsJobOf (job : JobParts) (t : Target) (c : Cand) (n : ℕ) (snapshot : CodeTable) : Type 0 where
  pub target : job.target ≡ t
  pub left : job.left ≡ c.left
  pub from : job.from ≡ c.upto
  pub to : job.to ≡ n
  pub shared : job.snapshot ≡ snapshot

-- the state is `now` as the caller sees it
module _ (s now : Core) (table : CodeTable) (book : IsBook s table) (view : s ≡ now) where
  -- ---- mark
  pub record MarkAll (job : JobParts) (answer : Marking) (new : CandLists) : Type 0 where
    pub kept : IsBook (Calls.with_lists s new) table
    pub step : steps.IsMarking now job (reply_of_mark answer) (Calls.with_lists s new)

  pub mark-all : (job : JobParts) (t : Target) (x n : ℕ) (answer : Marking) (new : CandLists) → t ≡ job.target → x ≡ job.left → n ≡ job.to → Fits now.rows job → holds_in job.snapshot job.left job.target ≡ true
      → answer ≡ cond (is_listed (cands_of s.candidates t) x) Marked Dropped → new ≡ with_list s.candidates t (marked (cands_of s.candidates t) x n) → MarkAll job answer new
  mark-all job t x n answer new e f g fits holds a l = record {
    kept = Calls.mark-book s table book job new (subst (λ (s : Core). Fits s.rows job) (sym view) fits) holds list;
    step = subst (λ (m : Core). steps.IsMarking m job (reply_of_mark answer) (Calls.with_lists s new)) view (Calls.mark-step s table book job new answer told list);
  }
    where
      list : new ≡ with_list s.candidates job.target (marked (cands s job.target) job.left job.to)
      list = l ∙ (λ i. with_list s.candidates (e i) (marked (cands_of s.candidates (e i)) (f i) (g i)))

      told : answer ≡ cond (is_listed (cands s job.target) job.left) Marked Dropped
      told = a ∙ (λ i. cond (is_listed (cands_of s.candidates (e i)) (f i)) Marked Dropped)

  -- ---- release
  pub record ReleaseAll (job : JobParts) (answer : Release) (new : CandLists) : Type 0 where
    pub kept : IsBook (Calls.with_lists s new) table
    pub step : steps.IsReleasing now job (reply_of_release answer) (Calls.with_lists s new)

  pub release-all : (job : JobParts) (t : Target) (x : ℕ) (listed : Bool) (answer : Release) (new : CandLists) → t ≡ job.target → x ≡ job.left → IsColumnTarget (width now.rows) job.target
      → listed ≡ is_listed (cands_of s.candidates t) x → answer ≡ cond listed releases.Released releases.Dropped → new ≡ with_list s.candidates t (holding (cands_of s.candidates t) x false) → ReleaseAll job answer new
  release-all job t x listed answer new e f l told a i = record {
    kept = Calls.release-book s table book job new (subst (λ (s : Core). IsColumnTarget (width s.rows) job.target) (sym view) l) list;
    step = subst (λ (m : Core). steps.IsReleasing m job (reply_of_release answer) (Calls.with_lists s new)) view (Calls.release-step s table book job new listed answer is a list);
  }
    where
      list : new ≡ with_list s.candidates job.target (holding (cands s job.target) job.left false)
      list = i ∙ (λ k. with_list s.candidates (e k) (holding (cands_of s.candidates (e k)) (f k) false))

      is : listed ≡ is_listed (cands s job.target) job.left
      is = told ∙ (λ k. is_listed (cands_of s.candidates (e k)) (f k))

  -- ---- draw
  pub record DrawAll (job : JobParts) (new : CandLists) : Type 0 where
    pub kept : IsBook (Calls.with_lists s new) table
    pub step : steps.Draws now job (Calls.with_lists s new)
    pub fits : Fits s.rows job

  pub draw-all : (n : ℕ) (found : Option (Target × Cand)) (t : Target) (c : Cand) (job : JobParts) (new : CandLists) → n ≡ next s.rows → found ≡ find (λ e. is_drawable n e.1) (entries_in (length s.candidates.columns) s.candidates) → found ≡ Some (t, c)
      → IsJobOf job t c n table → new ≡ with_list s.candidates t (holding (cands_of s.candidates t) c.left true) → DrawAll job new
  draw-all n found t c job new e f g is i = record {
    kept = Calls.draw-book s table book t c new first i;
    step = subst (λ (m : Core). steps.Draws m job (Calls.with_lists s new)) view (Calls.draw-step s table book t c new job first i same);
    fits = Calls.draw-fits s table book t c job first same;
  }
    where
      first : first_drawable s ≡ Some (t, c)
      first = sym (Calls.first_drawable-is s table book n found e f) ∙ g

      same : job ≡ job_of s t c table
      same = λ k. record { target = is.target k; left = is.left k; from = is.from k; to = (is.to ∙ e) k; snapshot = is.shared k }

  pub draw-target : (n : ℕ) (found : Option (Target × Cand)) (t : Target) (c : Cand) → n ≡ next s.rows → found ≡ find (λ e. is_drawable n e.1) (entries_in (length s.candidates.columns) s.candidates) → found ≡ Some (t, c) → IsColumnTarget (length s.candidates.columns) t
  draw-target n found t c e f g = Calls.draw-target s table book t c (sym (Calls.first_drawable-is s table book n found e f) ∙ g)

  pub none_drawable : (n : ℕ) (found : Option (Target × Cand)) → n ≡ next s.rows → found ≡ find (λ e. is_drawable n e.1) (entries_in (length s.candidates.columns) s.candidates) → found ≡ None → first_drawable now ≡ None
  none_drawable n found e f g = subst (λ (m : Core). first_drawable m ≡ None) view (sym (Calls.first_drawable-is s table book n found e f) ∙ g)

  pub some_drawable : (n : ℕ) (found : Option (Target × Cand)) (e : Target × Cand) → n ≡ next s.rows → found ≡ find (λ e. is_drawable n e.1) (entries_in (length s.candidates.columns) s.candidates) → found ≡ Some e → first_drawable now ≡ None → ⊥
  some_drawable n found e i f g h = absurd (let k : Some e ≡ None = sym g ∙ Calls.first_drawable-is s table book n found i f ∙ ap first_drawable view ∙ h in cc)

  pub unfinished-found : (n : ℕ) (found answer : Option (Target × Cand)) → n ≡ next s.rows → found ≡ find (λ e. is_unfinished n e.1) (entries_in (length s.candidates.columns) s.candidates) → found ≡ answer → first_unfinished now ≡ answer
  unfinished-found n found answer e f g = subst (λ (m : Core). first_unfinished m ≡ answer) view (sym (Calls.first_unfinished-is s table book n found e f) ∙ g)

  -- ---- refute
  pub refutes-found : (i j z : ℕ) (found answer : Bool) → z ≡ agree_of s.rows i j → found ≡ list_any (refutes_entry z) (entries_in (length s.candidates.columns) s.candidates) → found ≡ answer → refutes_some now (agree_of now.rows i j) ≡ answer
  refutes-found i j z found answer e f g = subst (λ (m : Core). refutes_some m (agree_of m.rows i j) ≡ answer) view (sym (Calls.refutes_some-is s table book z (agree_of s.rows i j) found e f) ∙ g)

  pub live-found : (i j : ℕ) (a b : Bool) → a ≡ is_live s.rows i → a ≡ true → b ≡ is_live s.rows j → b ≡ true → steps.AreLive now.rows i j
  live-found i j a b e f g h = subst (λ (m : Core). steps.AreLive m.rows i j) view (record { first = sym e ∙ f; second = sym g ∙ h })

  pub record RefuteAll (i j : ℕ) (new : Core) : Type 0 where
    pub kept : IsBook new table
    pub state : new ≡ booked now i j

  pub refute-all : (i j z : ℕ) (ws : List Witness) (new : CandLists) → i ≢ j → steps.AreLive now.rows i j → refutes_some now (agree_of now.rows i j) ≡ true → z ≡ agree_of s.rows i j
      → ws ≡ s.witnesses ++ record { i = i; j = j; agree = z } ∷ [] → new ≡ renewed (length s.candidates.columns) (sets_of s.witnesses ++ z ∷ []) s.candidates → RefuteAll i j (record { rows = s.rows; witnesses = ws; candidates = new })
  refute-all i j z ws new ne live e k w n = record {
    kept = Calls.refute-book s table book i j _ ne (subst (λ (m : Core). steps.AreLive m.rows i j) (sym view) live) (subst (λ (m : Core). refutes_some m (agree_of m.rows i j) ≡ true) (sym view) e) state;
    state = state ∙ ap (λ (m : Core). booked m i j) view;
  }
    where
      state : record { rows = s.rows; witnesses = ws; candidates = new } ≡ booked s i j
      state = Calls.booked-is s table book i j z ws new k w n

  -- ---- apply
  pub record ApplyAll (ops : List Op) (r : RowState) (snapshot : CodeTable) (new : Core) : Type 0 where
    pub kept : IsBook new snapshot
    pub state : new ≡ with_rows now r
    pub fits : (job : JobParts) → Fits now.rows job → Fits r job

  pub apply-all : (ops : List Op) (r : RowState) (snapshot : CodeTable) (ws : List Witness) (new : CandLists) → All (IsAsWide (width now.rows)) ops → after s.rows ops ≡ Ok r → IsCodeTable snapshot → Shows snapshot r
      → ws ≡ live_of (ended ops) s.witnesses → new ≡ renewed (length s.candidates.columns) (sets_of (live_of (ended ops) s.witnesses)) s.candidates → ApplyAll ops r snapshot (record { rows = r; witnesses = ws; candidates = new })
  apply-all ops r snapshot ws new wide leads coded shows w n = record {
    kept = Calls.batch-book s table book ops r own leads _ snapshot state coded shows;
    state = state ∙ ap (λ (m : Core). with_rows m r) view;
    fits = λ job fits. Calls.batch-fits s table book ops r own leads job (subst (λ (m : Core). Fits m.rows job) (sym view) fits);
  }
    where
      own : All (IsAsWide (width s.rows)) ops
      own = subst (λ (m : Core). All (IsAsWide (width m.rows)) ops) (sym view) wide

      state : record { rows = r; witnesses = ws; candidates = new } ≡ with_rows s r
      state = Calls.batch-is s table book ops r own leads ws new w n
