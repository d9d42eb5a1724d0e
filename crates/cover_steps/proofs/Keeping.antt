-- Each step keeps what is sound, and each job that was drawn fits.
use Rattle.std.proofs.Common.{inl, inr, ◌≡◌, ◌≢◌, ◌⊎◌, ℕ, max, eqb, Bool, true, false, cond, not, ◌&&◌, refl, sym, ap, ◌∙◌, subst, arith, List, [], ◌∷◌, ◌++◌, length, map}
use Rattle.std.specs.List.{All, AllPairs, Contains}
use Rattle.std.proofs.lemmas.Bool.{false≢true, eqb-true, and_parts, cases_lt}
use Rattle.std.proofs.lemmas.List.{append-nil, length-set, length-replicate, get_or-replicate}
use Rattle.std.proofs.lemmas.List.Kept.{AllPairs-filter}
use Rattle.std.proofs.lemmas.List.FromFn.{length-map-range_with_len}
use Rattle.col_set.specs.declared.target.Target.{Target}
use Rattle.col_set.specs.declared.target.Target.TheVariants.{Col, RowId}
use Rattle.col_set.specs.ColSet.{subset}
use Rattle.col_set.specs.Target.{IsColumnTarget, has_target}
use Rattle.col_set.specs.Evidence.{IsLeast, refuted, least}
use Rattle.col_set.specs.Subsets.{IsSubset}
use Rattle.col_set.specs.Lists.{Listed, Listed-append_cases, Listed-filter_parts, Listed-map, Listed-map_which, list_any_at, list_any_which}
use Rattle.col_set.proofs.Places.{Contains-listed, Listed-contained}
use Rattle.col_set.proofs.Least.{IsLeast-listed}
use Rattle.col_set.proofs.More.{least-empty}
use Rattle.rel_base.specs.declared.batch.Op.{Op}
use Rattle.rel_base.specs.JobParts.{JobParts}
use Rattle.rel_base.specs.RowState.{RowState, IsRowState, width}
use Rattle.rel_base.specs.Validity.{agree_of, HoldsBelow}
use Rattle.rel_base.specs.Shows.{holds_in}
use Rattle.rel_base.specs.Batches.{is_live}
use Rattle.rel_base.specs.Batches.{IsAsWide}
use Rattle.rel_base.specs.Laws.{Follows}
use Rattle.rel_base.proofs.States.{All-listed, All-from, live_positive}
use Rattle.rel_base.proofs.Changes.{after-follows, agree_of-follows}
use Rattle.negative_cover.specs.declared.negative_cover.Witness.{Witness}
use Rattle.candidate_cover.specs.declared.cand.Cand.{Cand}
use Rattle.cover_steps.specs.declared.step.Call.{Call}
use Rattle.cover_steps.specs.declared.step.Call.TheVariants.{Draw, Refute, Mark, Release, Apply, Settle}
use Rattle.cover_steps.specs.declared.step.Reply.{Reply}
use Rattle.cover_steps.specs.declared.step.Reply.TheVariants.{Job, Busy, Settled, Gone, Known, Booked, Marked, Dropped, Released, Applied, Refused, Ready, NotYet, NoMemory}
use Rattle.candidate_cover.specs.Lists.{CandLists}
use Rattle.candidate_cover.specs.Cands.{cands_of, with_list, lefts, fresh, kept_or_fresh, marked, holding}
use Rattle.cover_steps.specs.Core.{one_each}
use Rattle.cover_steps.specs.Core.{Core, opened_core, cands, refutes_some, with_cands, renewed, renewed_list, witness_of, booked, standing, with_rows}
use Rattle.negative_cover.specs.Witnesses.{sets_of}
use Rattle.cover_steps.specs.Steps.{IsDrawing, IsRefuting, AreLive, IsMarking, IsReleasing, IsApplying, IsSettling, Step}
use Rattle.cover_steps.specs.Sound.{IsWitness, IsMarked, Sound, Fits, SoundWith}
use Rattle.cover_steps.specs.Histories.{May, drawn}
use Rattle.cover_steps.proofs.Lists.{AllPairs-Pairwise, Pairwise-AllPairs, Pairwise-append_one, map_map, map_same_listed}
use Rattle.cover_steps.proofs.Kept.{kept_cases, lefts-renewed, cands_of-renewed, cands_of-with_list, target_cases}
use Rattle.cover_steps.proofs.Found.{IsEntry, drawable-entry, refutes_some-which}
use Rattle.cover_steps.proofs.Fitting.{HoldsBelow-fits, Fits-follows, Fits-shown}

-- ---- candidates of a sound state
pub cand-least : (s : Core) (t : Target) (c : Cand) → Sound s → IsColumnTarget (width s.rows) t → Listed c (cands s t) → IsLeast (width s.rows) (sets_of s.witnesses) t c.left
cand-least s t c sound l h = IsLeast-listed (width s.rows) (sets_of s.witnesses) t c.left (subst (Listed c.left) (sound.candidates t l) (Listed-map (λ (c : Cand). c.left) c (cands s t) h))

pub cand-marked : (s : Core) (t : Target) (c : Cand) → Sound s → IsColumnTarget (width s.rows) t → Listed c (cands s t) → IsMarked s.rows t c
cand-marked s t c sound l h = All-listed (IsMarked s.rows t) c (cands s t) (sound.marks t l) h

-- below the first number there is no row
pub IsMarked-fresh : (r : RowState) (t : Target) (x : ℕ) → IsRowState r → IsMarked r t (fresh x)
IsMarked-fresh r t x is = record {
  holds = record { each = λ i j h g l m ne w. absurd (let p = live_positive r i is (Listed-contained i r.live h) in omega arith) };
  first = omega arith;
  last = omega arith;
}

IsMarked-follows : (r s : RowState) (t : Target) (c : Cand) → IsRowState r → Follows r s → IsMarked r t c → IsMarked s t c
IsMarked-follows r s t c is f m = record {
  holds = record {
    each = λ i j h g l n ne w.
        let a = f.live i (let b = m.last in omega arith) h in
        let b = f.live j (let b = m.last in omega arith) g in
        let e : agree_of s i j ≡ agree_of r i j = agree_of-follows r s i j is f (Listed-contained i r.live a) (Listed-contained j r.live b) in
        ap (λ (z : ℕ). has_target z t) e ∙ m.holds.each i j a b l n ne (subst (IsSubset c.left) e w);
  };
  first = m.first;
  last = let a = m.last in let b = f.more in omega arith;
}

-- a list made anew is of candidates that hold, where those before did
IsMarked-kept : (r : RowState) (t : Target) (old : List Cand) (x : ℕ) → IsRowState r → ((c : Cand) → Listed c old → IsMarked r t c) → IsMarked r t (kept_or_fresh old x)
IsMarked-kept r t old x is f = elim (kept_cases old x) as (λ _. IsMarked r t (kept_or_fresh old x)) [
  | inl e ↦ subst (IsMarked r t) (sym e) (IsMarked-fresh r t x is)
  | inr w ↦ f (kept_or_fresh old x) w.0
]

-- ---- other marks for one target
module _ (s : Core) (sound : Sound s) (t : Target) (target : IsColumnTarget (width s.rows) t) (f : Cand → Cand) (same : (c : Cand) → (f c).left ≡ c.left) (keeps : (c : Cand) → Listed c (cands s t) → IsMarked s.rows t c → IsMarked s.rows t (f c)) where
  length-with_list : (c : CandLists) (u : Target) (cs : List Cand) → length (with_list c u cs).columns ≡ length c.columns
  length-with_list c RowId cs = refl
  length-with_list c (Col a) cs = length-set c.columns a cs

  here : cands (with_cands s t (map f (cands s t))) t ≡ map f (cands s t)
  here = cands_of-with_list s.candidates t (map f (cands s t)) (subst (λ (n : ℕ). IsColumnTarget n t) (sym sound.columns) target)

  marks_here : All (IsMarked s.rows t) (map f (cands s t))
  marks_here = All-from (IsMarked s.rows t) (map f (cands s t)) (λ c h.
      let w = Listed-map_which f c (cands s t) h in
      subst (IsMarked s.rows t) (sym w.2) (keeps w.0 w.1 (cand-marked s t w.0 sound target w.1)))

  pub Sound-remarked : Sound (with_cands s t (map f (cands s t)))
  Sound-remarked = record {
    rows = sound.rows;
    witnesses = sound.witnesses;
    once = sound.once;
    columns = length-with_list s.candidates t (map f (cands s t)) ∙ sound.columns;
    candidates = λ u l. elim (target_cases s.candidates t u (map f (cands s t))) as (λ _. lefts (cands (with_cands s t (map f (cands s t))) u) ≡ least (width s.rows) (sets_of s.witnesses) u) [
      | inl e ↦ subst (λ (u : Target). lefts (cands (with_cands s t (map f (cands s t))) u) ≡ least (width s.rows) (sets_of s.witnesses) u) e
          (ap lefts here ∙ map_map (λ (c : Cand). c.left) f (cands s t) ∙ map_same_listed (λ (c : Cand). (f c).left) (λ (c : Cand). c.left) (cands s t) (λ c h. same c) ∙ sound.candidates t target)
      | inr e ↦ ap lefts e ∙ sound.candidates u l
    ];
    marks = λ u l. elim (target_cases s.candidates t u (map f (cands s t))) as (λ _. All (IsMarked s.rows u) (cands (with_cands s t (map f (cands s t))) u)) [
      | inl e ↦ subst (λ (u : Target). All (IsMarked s.rows u) (cands (with_cands s t (map f (cands s t))) u)) e (subst (All (IsMarked s.rows t)) (sym here) marks_here)
      | inr e ↦ subst (All (IsMarked s.rows u)) (sym e) (sound.marks u l)
    ];
  }

-- ---- other rows and witnesses
-- the candidates that these witnesses leave, of rows that follow those of a sound state
pub Sound-renewed : (s : Core) (r : RowState) (ws : List Witness) → Sound s → IsRowState r → Follows s.rows r → All (IsWitness r) ws → AllPairs (λ v w. v.agree ≢ w.agree) ws
    → Sound (record { rows = r; witnesses = ws; candidates = renewed (width r) (sets_of ws) s.candidates })
unfolding renewed
Sound-renewed s r ws sound is f witnesses once = record {
  rows = is;
  witnesses = witnesses;
  once = once;
  columns = length-map-range_with_len (λ (a : ℕ). renewed_list (width r) (sets_of ws) s.candidates (Col a)) 0 (width r);
  candidates = λ t l. ap lefts (cands_of-renewed (width r) (sets_of ws) s.candidates t l) ∙ lefts-renewed (width r) (sets_of ws) s.candidates t;
  marks = λ t l. subst (All (IsMarked r t)) (sym (cands_of-renewed (width r) (sets_of ws) s.candidates t l)) (All-from (IsMarked r t) (renewed_list (width r) (sets_of ws) s.candidates t) (λ c h. each t l c h));
}
  where
    same : width r ≡ width s.rows
    same = ap length f.names

    each : (t : Target) → IsColumnTarget (width r) t → (c : Cand) → Listed c (renewed_list (width r) (sets_of ws) s.candidates t) → IsMarked r t c
    each t l c h =
        let w = Listed-map_which (kept_or_fresh (cands s t)) c (least (width r) (sets_of ws) t) h in
        subst (IsMarked r t) (sym w.2) (IsMarked-kept r t (cands s t) w.0 is (λ d g. IsMarked-follows s.rows r t d sound.rows f (cand-marked s t d sound (subst (λ (n : ℕ). IsColumnTarget n t) same l) g)))

-- a row that is live, as a test and as a fact
pub live-Contains : (r : RowState) (i : ℕ) → is_live r i ≡ true → Contains r.live i
live-Contains r i e = let w = list_any_which (eqb i) r.live e in Contains-listed i r.live (subst (λ (k : ℕ). Listed k r.live) (sym (eqb-true i w.0 w.2)) w.1)

-- what follows itself
pub Follows-itself : (r : RowState) → Follows r r
Follows-itself r = record { names = refl; nulls = refl; limit = refl; more = omega arith; rows = λ number p l. refl; live = λ number l h. h }

pub Sound-booked : (s : Core) (i j : ℕ) → Sound s → i ≢ j → AreLive s.rows i j → refutes_some s (agree_of s.rows i j) ≡ true → Sound (booked s i j)
unfolding refuted
Sound-booked s i j sound ne live e = Sound-renewed s s.rows (s.witnesses ++ witness_of s.rows i j ∷ []) sound sound.rows (Follows-itself s.rows)
    (All-from (IsWitness s.rows) (s.witnesses ++ witness_of s.rows i j ∷ []) (λ w h. named w (Listed-append_cases w s.witnesses (witness_of s.rows i j ∷ []) h)))
    (AllPairs-Pairwise (λ v w. v.agree ≢ w.agree) (s.witnesses ++ witness_of s.rows i j ∷ []) (Pairwise-append_one (λ v w. v.agree ≢ w.agree) s.witnesses (witness_of s.rows i j) (Pairwise-AllPairs (λ v w. v.agree ≢ w.agree) s.witnesses sound.once) new))
  where
    named : (w : Witness) → Listed w s.witnesses ⊎ Listed w (witness_of s.rows i j ∷ []) → IsWitness s.rows w
    named w (inl h) = All-listed (IsWitness s.rows) w s.witnesses sound.witnesses h
    named w (inr (inl m)) = subst (IsWitness s.rows) (sym m) (record { first = live-Contains s.rows i live.first; second = live-Contains s.rows j live.second; different = ne; agrees = refl })
    named w (inr (inr h)) = absurd h

    -- an agree set that refutes a candidate is none of those that left it
    new : (w : Witness) → Listed w s.witnesses → w.agree ≢ agree_of s.rows i j
    new w h m =
        let d = refutes_some-which s (agree_of s.rows i j) e in
        let l = cand-least s d.target d.cand sound d.entry.target d.entry.listed in
        let g = Listed-map (λ (w : Witness). w.agree) w s.witnesses h in
        false≢true (sym l.stands ∙ list_any_at (λ z. subset d.cand.left z && not (has_target z d.target)) w.agree (sets_of s.witnesses) g (ap (λ (z : ℕ). subset d.cand.left z && not (has_target z d.target)) m ∙ d.lacks))

pub Sound-with_rows : (s : Core) (r : RowState) → Sound s → IsRowState r → Follows s.rows r → Sound (with_rows s r)
Sound-with_rows s r sound is f = Sound-renewed s r (standing r s.witnesses) sound is f
    (All-from (IsWitness r) (standing r s.witnesses) (λ w h. named w (Listed-filter_parts (λ w. is_live r w.i && is_live r w.j) w s.witnesses h)))
    (AllPairs-filter (λ v w. v.agree ≢ w.agree) (λ w. is_live r w.i && is_live r w.j) s.witnesses sound.once)
  where
    named : (w : Witness) → Listed w s.witnesses × ((is_live r w.i && is_live r w.j) ≡ true) → IsWitness r w
    named w h =
        let was = All-listed (IsWitness s.rows) w s.witnesses sound.witnesses h.0 in
        let p = and_parts (is_live r w.i) (is_live r w.j) h.1 in
        record {
          first = live-Contains r w.i p.0;
          second = live-Contains r w.j p.1;
          different = was.different;
          agrees = was.agrees ∙ sym (agree_of-follows s.rows r w.i w.j sound.rows f (Listed-contained w.i s.rows.live was.first) (Listed-contained w.j s.rows.live was.second));
        }

-- ---- the opening
pub Sound-opened : (r : RowState) → IsRowState r → Sound (opened_core r)
Sound-opened r is = record {
  rows = is;
  witnesses = All-from (IsWitness r) [] (λ w h. absurd h);
  once = AllPairs-Pairwise (λ (v w : Witness). v.agree ≢ w.agree) [] tt;
  columns = length-replicate (width r) (fresh 0 ∷ []);
  candidates = λ t l. ap lefts (one t l) ∙ sym (least-empty (width r) t);
  marks = λ t l. subst (All (IsMarked r t)) (sym (one t l)) (All-from (IsMarked r t) (fresh 0 ∷ []) (single t));
}
  where
    one : (t : Target) → IsColumnTarget (width r) t → cands_of (one_each (width r)) t ≡ fresh 0 ∷ []
    one RowId l = refl
    one (Col a) l = get_or-replicate (width r) a (fresh 0 ∷ []) [] l

    single : (t : Target) (c : Cand) → Listed c (fresh 0 ∷ []) → IsMarked r t c
    single t c (inl e) = subst (IsMarked r t) (sym e) (IsMarked-fresh r t 0 is)
    single t c (inr h) = absurd h

-- ---- steps
stays : (s new : Core) (jobs : List JobParts) → SoundWith s jobs → new ≡ s → SoundWith new (jobs ++ [])
stays s new jobs h e = subst (λ (m : Core). SoundWith m (jobs ++ [])) (sym e) (subst (SoundWith s) (sym (append-nil jobs)) h)

-- a sound state with the same rows
same_rows : (s m new : Core) (jobs : List JobParts) → All (Fits s.rows) jobs → Sound m → m.rows ≡ s.rows → new ≡ m → SoundWith new (jobs ++ [])
same_rows s m new jobs fits sound rows e = subst (λ (m : Core). SoundWith m (jobs ++ [])) (sym e) (subst (SoundWith m) (sym (append-nil jobs)) (record { sound = sound; fits = subst (λ (r : RowState). All (Fits r) jobs) (sym rows) fits }))

left-marked : (x to : ℕ) (c : Cand) → (cond (eqb c.left x) (record { left = x; upto = max c.upto to; held = false }) c).left ≡ c.left
left-marked x to c = by (eqb c.left x) refl
  where
    by : (b : Bool) → eqb c.left x ≡ b → (cond b (record { left = x; upto = max c.upto to; held = false }) c).left ≡ c.left
    by true e = sym (eqb-true c.left x e)
    by false e = refl

left-holding : (x : ℕ) (held : Bool) (c : Cand) → (cond (eqb c.left x) (record { left = x; upto = c.upto; held = held }) c).left ≡ c.left
left-holding x held c = by (eqb c.left x) refl
  where
    by : (b : Bool) → eqb c.left x ≡ b → (cond b (record { left = x; upto = c.upto; held = held }) c).left ≡ c.left
    by true e = sym (eqb-true c.left x e)
    by false e = refl

pub Sound-holding : (s : Core) (t : Target) (x : ℕ) (held : Bool) → Sound s → IsColumnTarget (width s.rows) t → Sound (with_cands s t (holding (cands s t) x held))
Sound-holding s t x held sound l = Sound-remarked s sound t l (λ c. cond (eqb c.left x) (record { left = x; upto = c.upto; held = held }) c) (left-holding x held) (λ c h m. by c (eqb c.left x) refl m)
  where
    by : (c : Cand) (b : Bool) → eqb c.left x ≡ b → IsMarked s.rows t c → IsMarked s.rows t (cond b (record { left = x; upto = c.upto; held = held }) c)
    by c true e m = record { holds = subst (λ (y : ℕ). HoldsBelow c.upto s.rows y t) (eqb-true c.left x e) m.holds; first = m.first; last = m.last }
    by c false e m = m

max_cases : (a b : ℕ) → (max a b ≡ a) ⊎ (max a b ≡ b)
max_cases a b = elim (cases_lt a b) as (λ _. (max a b ≡ a) ⊎ (max a b ≡ b)) [ inl l ↦ inr (omega arith) | inr l ↦ inl (omega arith) ]

pub Sound-marked : (s : Core) (job : JobParts) → Sound s → Fits s.rows job → holds_in job.snapshot job.left job.target ≡ true → Sound (with_cands s job.target (marked (cands s job.target) job.left job.to))
Sound-marked s job sound fits e = Sound-remarked s sound job.target fits.target (λ c. cond (eqb c.left job.left) (record { left = job.left; upto = max c.upto job.to; held = false }) c) (left-marked job.left job.to) (λ c h m. by c (eqb c.left job.left) refl m)
  where
    holds : (c : Cand) → c.left ≡ job.left → IsMarked s.rows job.target c → (max c.upto job.to ≡ c.upto) ⊎ (max c.upto job.to ≡ job.to) → HoldsBelow (max c.upto job.to) s.rows job.left job.target
    holds c same m (inl i) = subst (λ (b : ℕ). HoldsBelow b s.rows job.left job.target) (sym i) (subst (λ (x : ℕ). HoldsBelow c.upto s.rows x job.target) same m.holds)
    holds c same m (inr i) = subst (λ (b : ℕ). HoldsBelow b s.rows job.left job.target) (sym i) (HoldsBelow-fits s.rows sound.rows job fits e)

    by : (c : Cand) (b : Bool) → eqb c.left job.left ≡ b → IsMarked s.rows job.target c → IsMarked s.rows job.target (cond b (record { left = job.left; upto = max c.upto job.to; held = false }) c)
    by c true i m = record {
      holds = holds c (eqb-true c.left job.left i) m (max_cases c.upto job.to);
      first = let a = m.first in omega arith;
      last = let a = m.last in let b = fits.to in omega arith;
    }
    by c false i m = m

drawing_keeps : (jobs : List JobParts) (s new : Core) (reply : Reply) → SoundWith s jobs → IsDrawing s reply new → SoundWith new (jobs ++ drawn reply)
drawing_keeps jobs s new (Job job) h d = subst (λ (m : Core). SoundWith m (jobs ++ job ∷ [])) (sym d.after) (record {
  sound = Sound-holding s job.target job.left true h.sound entry.target;
  fits = All-from (Fits s.rows) (jobs ++ job ∷ []) (λ k g. by k (Listed-append_cases k jobs (job ∷ []) g));
})
  where
    entry : IsEntry s job.target (record { left = job.left; upto = job.from; held = false })
    entry = drawable-entry s job.target (record { left = job.left; upto = job.from; held = false }) d.first

    fits : Fits s.rows job
    fits = Fits-shown s.rows job h.sound.rows d.table d.shows entry.target (cand-least s job.target (record { left = job.left; upto = job.from; held = false }) h.sound entry.target entry.listed).below d.to
        (cand-marked s job.target (record { left = job.left; upto = job.from; held = false }) h.sound entry.target entry.listed).holds

    by : (k : JobParts) → Listed k jobs ⊎ Listed k (job ∷ []) → Fits s.rows k
    by k (inl g) = All-listed (Fits s.rows) k jobs h.fits g
    by k (inr (inl e)) = subst (Fits s.rows) (sym e) fits
    by k (inr (inr g)) = absurd g
drawing_keeps jobs s new (Busy t x) h d = stays s new jobs h d.1
drawing_keeps jobs s new Settled h d = stays s new jobs h d.1
drawing_keeps jobs s new NoMemory h d = stays s new jobs h d
drawing_keeps jobs s new _ h d = absurd d

refuting_keeps : (jobs : List JobParts) (s new : Core) (i j : ℕ) (reply : Reply) → SoundWith s jobs → i ≢ j → IsRefuting s i j reply new → SoundWith new (jobs ++ drawn reply)
refuting_keeps jobs s new i j (Gone row) h ne d = stays s new jobs h d.1
refuting_keeps jobs s new i j Known h ne d = stays s new jobs h d.2
refuting_keeps jobs s new i j Booked h ne d = same_rows s (booked s i j) new jobs h.fits (Sound-booked s i j h.sound ne d.0 d.1) refl d.2
refuting_keeps jobs s new i j NoMemory h ne d = stays s new jobs h d
refuting_keeps jobs s new i j _ h ne d = absurd d

marking_keeps : (jobs : List JobParts) (s new : Core) (job : JobParts) (reply : Reply) → SoundWith s jobs → Contains jobs job → holds_in job.snapshot job.left job.target ≡ true → IsMarking s job reply new → SoundWith new (jobs ++ drawn reply)
marking_keeps jobs s new job Marked h was e d =
    same_rows s (with_cands s job.target (marked (cands s job.target) job.left job.to)) new jobs h.fits (Sound-marked s job h.sound (All-listed (Fits s.rows) job jobs h.fits (Listed-contained job jobs was)) e) refl d.1
marking_keeps jobs s new job Dropped h was e d = stays s new jobs h d.1
marking_keeps jobs s new job _ h was e d = absurd d

releasing_keeps : (jobs : List JobParts) (s new : Core) (job : JobParts) (reply : Reply) → SoundWith s jobs → IsColumnTarget (width s.rows) job.target → IsReleasing s job reply new → SoundWith new (jobs ++ drawn reply)
releasing_keeps jobs s new job Released h l d =
    same_rows s (with_cands s job.target (holding (cands s job.target) job.left false)) new jobs h.fits (Sound-holding s job.target job.left false h.sound l) refl d.1
releasing_keeps jobs s new job Dropped h l d = stays s new jobs h d.1
releasing_keeps jobs s new job _ h l d = absurd d

applying_keeps : (jobs : List JobParts) (s new : Core) (ops : List Op) (reply : Reply) → SoundWith s jobs → All (IsAsWide (width s.rows)) ops → IsApplying s ops reply new → SoundWith new (jobs ++ drawn reply)
applying_keeps jobs s new ops (Applied inserted deleted) h wide d =
    let f = after-follows 1 s.rows d.rows ops h.sound.rows wide d.after in
    subst (λ (m : Core). SoundWith m (jobs ++ [])) (sym d.state) (subst (SoundWith (with_rows s d.rows)) (sym (append-nil jobs)) (record {
      sound = Sound-with_rows s d.rows h.sound f.0 f.1;
      fits = All-from (Fits d.rows) jobs (λ job g. Fits-follows s.rows d.rows job h.sound.rows f.1 (All-listed (Fits s.rows) job jobs h.fits g));
    }))
applying_keeps jobs s new ops (Refused at why) h wide d = stays s new jobs h d.1
applying_keeps jobs s new ops NoMemory h wide d = stays s new jobs h d
applying_keeps jobs s new ops _ h wide d = absurd d

settling_keeps : (jobs : List JobParts) (s new : Core) (reply : Reply) → SoundWith s jobs → IsSettling s reply new → SoundWith new (jobs ++ drawn reply)
settling_keeps jobs s new (Ready covers) h d = stays s new jobs h d.2
settling_keeps jobs s new (NotYet t x number) h d = stays s new jobs h d.1
settling_keeps jobs s new NoMemory h d = stays s new jobs h d
settling_keeps jobs s new _ h d = absurd d

-- A step keeps a sound state sound, and each job fits that was drawn before, as the one does that it draws.
pub step_keeps : (jobs : List JobParts) (s new : Core) (call : Call) (reply : Reply) → SoundWith s jobs → May jobs s.rows call → Step s call reply new → SoundWith new (jobs ++ drawn reply)
step_keeps jobs s new Draw reply h may d = drawing_keeps jobs s new reply h d
step_keeps jobs s new (Refute i j) reply h may d = refuting_keeps jobs s new i j reply h may d
step_keeps jobs s new (Mark job) reply h may d = marking_keeps jobs s new job reply h may.0 may.1 d
step_keeps jobs s new (Release job) reply h may d = releasing_keeps jobs s new job reply h may.0 d
step_keeps jobs s new (Apply ops) reply h may d = applying_keeps jobs s new ops reply h may d
step_keeps jobs s new Settle reply h may d = settling_keeps jobs s new reply h d
