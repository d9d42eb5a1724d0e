-- What each call makes of a book.
use Rattle.std.proofs.Common.{◌≡◌, ◌≢◌, ℕ, max, eqb, Bool, true, false, cond, ◌||◌, refl, sym, ap, ap₂, ◌∙◌, subst, List, [], ◌∷◌, ◌++◌, length, Option, Some, None, Ok}
use Rattle.std.specs.List.{All, find, list_any, flat_map}
use Rattle.std.proofs.lemmas.Bool.{true≢false}
use Rattle.std.proofs.lemmas.List.{set-get_or}
use Rattle.col_set.specs.declared.target.Target.{Target}
use Rattle.col_set.specs.declared.target.Target.TheVariants.{Col, RowId}
use Rattle.col_set.specs.ColSet.{upto}
use Rattle.col_set.specs.Target.{IsColumnTarget}
use Rattle.col_set.specs.Evidence.{least}
use Rattle.rel_base.specs.declared.batch.Op.{Op}
use Rattle.rel_base.specs.CodeTable.{CodeTable, IsCodeTable}
use Rattle.rel_base.specs.JobParts.{JobParts}
use Rattle.rel_base.specs.RowState.{RowState, IsRowState, width, next}
use Rattle.rel_base.specs.Validity.{agree_of}
use Rattle.rel_base.specs.Covers.{CoverLists, fds_to, covers}
use Rattle.rel_base.specs.Shows.{Shows, holds_in}
use Rattle.rel_base.specs.Batches.{after}
use Rattle.rel_base.specs.Batches.{IsAsWide}
use Rattle.rel_base.specs.Laws.{Follows}
use Rattle.rel_base.proofs.Changes.{after-follows}
use Rattle.negative_cover.specs.declared.negative_cover.Witness.{Witness}
use Rattle.negative_cover.specs.Witnesses.{sets_of, has_dead, live_of, dead_of}
use Rattle.candidate_cover.specs.declared.cand.Cand.{Cand}
use Rattle.candidate_cover.specs.declared.cand.Marking.{Marking}
use Rattle.candidate_cover.specs.declared.cand.Marking.TheVariants.{Marked, Dropped}
use Rattle.candidate_cover.specs.Lists.{CandLists}
use Rattle.candidate_cover.specs.Cands.{cands_of, with_list, lefts, is_listed, marked, holding, AreLeast}
use Rattle.cover_steps.specs.Core.{Core, opened_core, one_each, cands, entries_in, is_unfinished, is_drawable, first_unfinished, first_drawable, refutes_some, witness_of, booked, renewed, standing, with_rows, listed_covers}
use Rattle.cover_steps.specs.Steps as steps
use Rattle.cover_steps.specs.Sound.{Sound, Fits}
use Rattle.cover_steps.proofs.Keeping.{Sound-opened, Sound-holding, Sound-marked, Sound-booked, Sound-with_rows}
use Rattle.cover_steps.proofs.Fitting.{Fits-follows}
use Rattle.cover_steps.proofs.Found.{drawable-entry}
use Rattle.cover_steps.proofs.Exact.{listed_covers-exact}
use Rattle.negative_cover.specs.EndedRows.{ended}
use Rattle.cover_core.specs.Kept.{IsBook}
use Rattle.cover_core.specs.Replies.{reply_of_mark, reply_of_release}
use Rattle.cover_core.specs.declared.answers.Release.{Release}
use Rattle.cover_core.specs.declared.answers.Release.TheVariants as releases
use Rattle.cover_core.proofs.Booking.{job_of, Draws-first, Fits-entry}
use Rattle.cover_core.proofs.Ending.{standing-live_of, least-parted}
use Rattle.cover_core.proofs.Refuting.{refutes_entry}

-- the state with other candidates
abbrev pub with_lists : Core → CandLists → Core
with_lists s c = record { rows = s.rows; witnesses = s.witnesses; candidates = c }

-- ---- lists that stay
pub with_list-itself : (c : CandLists) (t : Target) → with_list c t (cands_of c t) ≡ c
with_list-itself c RowId = refl
with_list-itself c (Col a) = λ i. record { row_id = c.row_id; columns = set-get_or c.columns a [] i }

pub unlisted-marked : (cs : List Cand) (x to : ℕ) → is_listed cs x ≡ false → marked cs x to ≡ cs
unlisted-marked [] x to e = refl
unlisted-marked (c ∷ cs) x to e = by (eqb c.left x) refl e (λ g. unlisted-marked cs x to g)
  where
    by : (b : Bool) → eqb c.left x ≡ b → (b || is_listed cs x) ≡ false → (is_listed cs x ≡ false → marked cs x to ≡ cs) → cond b (record { left = x; upto = max c.upto to; held = false }) c ∷ marked cs x to ≡ c ∷ cs
    by true i g rest = absurd (true≢false g)
    by false i g rest = ap (λ (ds : List Cand). c ∷ ds) (rest g)

pub unlisted-holding : (cs : List Cand) (x : ℕ) (held : Bool) → is_listed cs x ≡ false → holding cs x held ≡ cs
unlisted-holding [] x held e = refl
unlisted-holding (c ∷ cs) x held e = by (eqb c.left x) refl e (λ g. unlisted-holding cs x held g)
  where
    by : (b : Bool) → eqb c.left x ≡ b → (b || is_listed cs x) ≡ false → (is_listed cs x ≡ false → holding cs x held ≡ cs) → cond b (record { left = x; upto = c.upto; held = held }) c ∷ holding cs x held ≡ c ∷ cs
    by true i g rest = absurd (true≢false g)
    by false i g rest = ap (λ (ds : List Cand). c ∷ ds) (rest g)

-- ---- opening
pub IsBook-opened : (r : RowState) (c : CandLists) (table : CodeTable) → IsRowState r → IsCodeTable table → Shows table r → c ≡ one_each (length table.codes) → IsBook (record { rows = r; witnesses = []; candidates = c }) table
IsBook-opened r c table is coded shows e = record {
  sound = subst (λ (c : CandLists). Sound (record { rows = r; witnesses = []; candidates = c })) (sym (opened-lists r c table shows e)) (Sound-opened r is);
  table = coded;
  shows = shows;
}
  where
    opened-lists : (r : RowState) (c : CandLists) (table : CodeTable) → Shows table r → c ≡ one_each (length table.codes) → c ≡ one_each (width r)
    opened-lists r c table shows e = e ∙ ap one_each shows.columns

pub opened-is : (r q : RowState) (c : CandLists) (table : CodeTable) → r ≡ q → Shows table r → c ≡ one_each (length table.codes) → record { rows = r; witnesses = []; candidates = c } ≡ opened_core q
opened-is r q c table same shows e = ap (λ (c : CandLists). record { rows = r; witnesses = []; candidates = c }) (e ∙ ap one_each shows.columns) ∙ ap opened_core same

module _ (s : Core) (table : CodeTable) (book : IsBook s table) where
  same_width : length s.candidates.columns ≡ width s.rows
  same_width = book.sound.columns

  target-of : (t : Target) → IsColumnTarget (width s.rows) t → IsColumnTarget (length s.candidates.columns) t
  target-of t l = subst (λ (n : ℕ). IsColumnTarget n t) (sym same_width) l

  -- ---- what is found
  pub first_drawable-is : (n : ℕ) (found : Option (Target × Cand)) → n ≡ next s.rows → found ≡ find (λ e. is_drawable n e.1) (entries_in (length s.candidates.columns) s.candidates) → found ≡ first_drawable s
  unfolding first_drawable
  first_drawable-is n found e i = i ∙ ap₂ (λ (n w : ℕ). find (λ e. is_drawable n e.1) (entries_in w s.candidates)) e same_width

  pub first_unfinished-is : (n : ℕ) (found : Option (Target × Cand)) → n ≡ next s.rows → found ≡ find (λ e. is_unfinished n e.1) (entries_in (length s.candidates.columns) s.candidates) → found ≡ first_unfinished s
  unfolding first_unfinished
  first_unfinished-is n found e i = i ∙ ap₂ (λ (n w : ℕ). find (λ e. is_unfinished n e.1) (entries_in w s.candidates)) e same_width

  pub refutes_some-is : (z w : ℕ) (found : Bool) → z ≡ w → found ≡ list_any (refutes_entry z) (entries_in (length s.candidates.columns) s.candidates) → found ≡ refutes_some s w
  unfolding refutes_some
  refutes_some-is z w found e i = i ∙ ap₂ (λ (z n : ℕ). list_any (refutes_entry z) (entries_in n s.candidates)) e same_width

  -- ---- draws
  pub draw-target : (t : Target) (c : Cand) → first_drawable s ≡ Some (t, c) → IsColumnTarget (length s.candidates.columns) t
  draw-target t c e = target-of t (drawable-entry s t c e).target

  pub draw-book : (t : Target) (c : Cand) (new : CandLists) → first_drawable s ≡ Some (t, c) → new ≡ with_list s.candidates t (holding (cands s t) c.left true) → IsBook (with_lists s new) table
  draw-book t c new e i = subst (λ (c : CandLists). IsBook (with_lists s c) table) (sym i) (record { sound = Sound-holding s t c.left true book.sound (drawable-entry s t c e).target; table = book.table; shows = book.shows })

  pub draw-step : (t : Target) (c : Cand) (new : CandLists) (job : JobParts) → first_drawable s ≡ Some (t, c) → new ≡ with_list s.candidates t (holding (cands s t) c.left true) → job ≡ job_of s t c table → steps.Draws s job (with_lists s new)
  draw-step t c new job e i j = subst (λ (k : JobParts). steps.Draws s k (with_lists s new)) (sym j) (Draws-first s t c table (with_lists s new) e book.table book.shows (ap (with_lists s) i))

  pub draw-fits : (t : Target) (c : Cand) (job : JobParts) → first_drawable s ≡ Some (t, c) → job ≡ job_of s t c table → Fits s.rows job
  draw-fits t c job e j = subst (Fits s.rows) (sym j) (Fits-entry s book.sound t c (drawable-entry s t c e) table book.table book.shows)

  -- ---- marks and releases
  pub mark-book : (job : JobParts) (new : CandLists) → Fits s.rows job → holds_in job.snapshot job.left job.target ≡ true → new ≡ with_list s.candidates job.target (marked (cands s job.target) job.left job.to) → IsBook (with_lists s new) table
  mark-book job new fits holds i = subst (λ (c : CandLists). IsBook (with_lists s c) table) (sym i) (record { sound = Sound-marked s job book.sound fits holds; table = book.table; shows = book.shows })

  pub mark-step : (job : JobParts) (new : CandLists) (answer : Marking) → answer ≡ cond (is_listed (cands s job.target) job.left) Marked Dropped → new ≡ with_list s.candidates job.target (marked (cands s job.target) job.left job.to) → steps.IsMarking s job (reply_of_mark answer) (with_lists s new)
  mark-step job new answer a i = by (is_listed (cands s job.target) job.left) refl a
    where
      by : (b : Bool) → is_listed (cands s job.target) job.left ≡ b → answer ≡ cond b Marked Dropped → steps.IsMarking s job (reply_of_mark answer) (with_lists s new)
      by true e a = subst (λ (m : Marking). steps.IsMarking s job (reply_of_mark m) (with_lists s new)) (sym a) (e, ap (with_lists s) i)
      by false e a = subst (λ (m : Marking). steps.IsMarking s job (reply_of_mark m) (with_lists s new)) (sym a)
          (e, ap (with_lists s) (i ∙ ap (with_list s.candidates job.target) (unlisted-marked (cands s job.target) job.left job.to e) ∙ with_list-itself s.candidates job.target))

  pub release-book : (job : JobParts) (new : CandLists) → IsColumnTarget (width s.rows) job.target → new ≡ with_list s.candidates job.target (holding (cands s job.target) job.left false) → IsBook (with_lists s new) table
  release-book job new l i = subst (λ (c : CandLists). IsBook (with_lists s c) table) (sym i) (record { sound = Sound-holding s job.target job.left false book.sound l; table = book.table; shows = book.shows })

  pub release-step : (job : JobParts) (new : CandLists) (listed : Bool) (answer : Release) → listed ≡ is_listed (cands s job.target) job.left → answer ≡ cond listed releases.Released releases.Dropped → new ≡ with_list s.candidates job.target (holding (cands s job.target) job.left false)
      → steps.IsReleasing s job (reply_of_release answer) (with_lists s new)
  release-step job new listed answer l a i = by listed l a
    where
      by : (b : Bool) → b ≡ is_listed (cands s job.target) job.left → answer ≡ cond b releases.Released releases.Dropped → steps.IsReleasing s job (reply_of_release answer) (with_lists s new)
      by true e a = subst (λ (m : Release). steps.IsReleasing s job (reply_of_release m) (with_lists s new)) (sym a) (sym e, ap (with_lists s) i)
      by false e a = subst (λ (m : Release). steps.IsReleasing s job (reply_of_release m) (with_lists s new)) (sym a)
          (sym e, ap (with_lists s) (i ∙ ap (with_list s.candidates job.target) (unlisted-holding (cands s job.target) job.left false (sym e)) ∙ with_list-itself s.candidates job.target))

  -- ---- refutations
  pub are_least : AreLeast (length s.candidates.columns) (sets_of s.witnesses) s.candidates
  are_least = record { each = λ t l. subst (λ (n : ℕ). lefts (cands_of s.candidates t) ≡ least n (sets_of s.witnesses) t) (sym same_width) (book.sound.candidates t (subst (λ (n : ℕ). IsColumnTarget n t) same_width l)) }

  sets_of-one_more : (ws : List Witness) (w : Witness) → sets_of (ws ++ w ∷ []) ≡ sets_of ws ++ w.agree ∷ []
  sets_of-one_more [] w = refl
  sets_of-one_more (v ∷ ws) w = ap (λ (zs : List ℕ). v.agree ∷ zs) (sets_of-one_more ws w)

  pub booked-is : (i j z : ℕ) (ws : List Witness) (new : CandLists) → z ≡ agree_of s.rows i j → ws ≡ s.witnesses ++ record { i = i; j = j; agree = z } ∷ [] → new ≡ renewed (length s.candidates.columns) (sets_of s.witnesses ++ z ∷ []) s.candidates
      → record { rows = s.rows; witnesses = ws; candidates = new } ≡ booked s i j
  booked-is i j z ws new e w n = λ k. record { rows = s.rows; witnesses = same_ws k; candidates = same_new k }
    where
      same_ws : ws ≡ s.witnesses ++ witness_of s.rows i j ∷ []
      same_ws = w ∙ ap (λ (z : ℕ). s.witnesses ++ record { i = i; j = j; agree = z } ∷ []) e

      same_new : new ≡ renewed (width s.rows) (sets_of (s.witnesses ++ witness_of s.rows i j ∷ [])) s.candidates
      same_new = n ∙ ap (λ (n : ℕ). renewed n (sets_of s.witnesses ++ z ∷ []) s.candidates) same_width
          ∙ ap (λ (zs : List ℕ). renewed (width s.rows) zs s.candidates) (ap (λ (z : ℕ). sets_of s.witnesses ++ z ∷ []) e ∙ sym (sets_of-one_more s.witnesses (witness_of s.rows i j)))

  pub refute-book : (i j : ℕ) (new : Core) → i ≢ j → steps.AreLive s.rows i j → refutes_some s (agree_of s.rows i j) ≡ true → new ≡ booked s i j → IsBook new table
  refute-book i j new ne live e same = subst (λ (m : Core). IsBook m table) (sym same) (record { sound = Sound-booked s i j book.sound ne live e; table = book.table; shows = book.shows })

  -- ---- batches
  module _ (ops : List Op) (r : RowState) (wide : All (IsAsWide (width s.rows)) ops) (leads : after s.rows ops ≡ Ok r) where
    follows : IsRowState r × Follows s.rows r
    follows = after-follows 1 s.rows r ops book.sound.rows wide leads

    pub batch-fits : (job : JobParts) → Fits s.rows job → Fits r job
    batch-fits job fits = Fits-follows s.rows r job book.sound.rows follows.1 fits

    same_width_after : length s.candidates.columns ≡ width r
    same_width_after = same_width ∙ ap length (sym follows.1.names)

    standing-is : live_of (ended ops) s.witnesses ≡ standing r s.witnesses
    standing-is = standing-live_of s.rows r ops 1 s.witnesses book.sound.rows leads book.sound.witnesses

    pub batch-is : (ws : List Witness) (new : CandLists) → ws ≡ live_of (ended ops) s.witnesses → new ≡ renewed (length s.candidates.columns) (sets_of (live_of (ended ops) s.witnesses)) s.candidates → record { rows = r; witnesses = ws; candidates = new } ≡ with_rows s r
    batch-is ws new w n = λ k. record { rows = r; witnesses = (w ∙ standing-is) k; candidates = same_new k }
      where
        same_new : new ≡ renewed (width r) (sets_of (standing r s.witnesses)) s.candidates
        same_new = n ∙ ap₂ (λ (n : ℕ) (ws : List Witness). renewed n (sets_of ws) s.candidates) same_width_after standing-is

    pub batch-book : (new : Core) (snapshot : CodeTable) → new ≡ with_rows s r → IsCodeTable snapshot → Shows snapshot r → IsBook new snapshot
    batch-book new snapshot same coded shows = subst (λ (m : Core). IsBook m snapshot) (sym same) (record { sound = Sound-with_rows s r book.sound follows.0 follows.1; table = coded; shows = shows })

  -- ---- covers
  pub listed-is : (found : CoverLists) → found.keys ≡ lefts (cands s RowId) → found.fds ≡ flat_map (λ a. fds_to a (lefts (cands s (Col a)))) (upto (length s.candidates.columns)) → found ≡ listed_covers s
  listed-is found k f = λ i. record { keys = k i; fds = (f ∙ ap (λ (n : ℕ). flat_map (λ a. fds_to a (lefts (cands s (Col a)))) (upto n)) same_width) i }

  pub listed-exact : (found : CoverLists) → first_unfinished s ≡ None → found ≡ listed_covers s → found ≡ covers s.rows
  listed-exact found none e = e ∙ listed_covers-exact s book.sound none

-- the agree sets of the witnesses that stay and of those that go are those of all
pub AreLeast-parted : (n : ℕ) (c : CandLists) (ws : List Witness) (dead : List ℕ) (rest gone : List ℕ) → AreLeast n (sets_of ws) c → rest ≡ sets_of (live_of dead ws) → gone ≡ sets_of (dead_of dead ws) → AreLeast n (rest ++ gone) c
AreLeast-parted n c ws dead rest gone are r g = record {
  each = λ t l. are.each t l ∙ least-parted n t (has_dead dead) ws
      ∙ ap₂ (λ (xs ys : List ℕ). least n (xs ++ ys) t) (sym r) (sym g);
}
