-- A book whose candidates are known to hold among all rows but the last one: its jobs look at one row.
use Rattle.std.proofs.Common.{inl, inr, ◌≡◌, ◌⊎◌, ℕ, zero, suc, ◌+◌, ◌-◌, ◌≤◌, eqb, leb, Bool, true, false, cond, refl, sym, ap, ◌∙◌, subst, arith, List, [], ◌∷◌, length, not, Option, Some, None}
use Rattle.std.specs.List.{filter, find, count_by, range_with_len}
use Rattle.std.specs.Option.{is_some, option_map}
use Rattle.std.proofs.lemmas.Bool.{true≢false, leb-true, ltb-false}
use Rattle.std.proofs.lemmas.List.Sums.{sum_by-cons}
use Rattle.col_set.specs.declared.target.Target.{Target}
use Rattle.col_set.specs.Target.{IsColumnTarget}
use Rattle.col_set.specs.Lists.{Listed, Listed-map_which}
use Rattle.rel_base.specs.CodeTable.{live_at}
use Rattle.rel_base.specs.JobParts.{JobParts}
use Rattle.rel_base.specs.RowState.{width, next}
use Rattle.rel_base.specs.Shows.{live_numbers}
use Rattle.rel_base.proofs.States.{All-listed, All-from}
use Rattle.candidate_cover.specs.declared.cand.Cand.{Cand}
use Rattle.candidate_cover.specs.Cands.{holding}
use Rattle.cover_steps.specs.Core.{Core, cands, entries_in, entries, is_unfinished, with_cands}
use Rattle.cover_steps.specs.Steps as steps
use Rattle.cover_steps.specs.Sound.{Sound}
use Rattle.cover_steps.proofs.Lists.{find-None}
use Rattle.cover_steps.proofs.Kept.{cands_of-with_list, target_cases}
use Rattle.cover_steps.proofs.Found.{IsEntry, IsEntry-listed, Listed-entries, drawable-entry}
use Rattle.validator.specs.Verdicts.{new_rows}
use Rattle.cover_core.specs.declared.cursor.Unfinished.{Unfinished}
use Rattle.cover_core.specs.Past.{place}
use Rattle.cover_core.specs.Tests.{AreNear}
use Rattle.cover_core.specs.Replies.{reply_of_draw}
use Rattle.cover_core.specs.declared.answers.Draw.{Draw}
use Rattle.cover_core.specs.declared.answers.Draw.TheVariants as draws

-- ---- a draw keeps what is known
upto-held : (x : ℕ) (held : Bool) (c : Cand) → (cond (eqb c.left x) (record { left = x; upto = c.upto; held = held }) c).upto ≡ c.upto
upto-held x held c = by (eqb c.left x)
  where
    by : (b : Bool) → (cond b (record { left = x; upto = c.upto; held = held }) c).upto ≡ c.upto
    by true = refl
    by false = refl

module _ (s : Core) (sound : Sound s) (near : AreNear s) where
  known : (t : Target) (c : Cand) → IsColumnTarget (width s.rows) t → Listed c (cands s t) → next s.rows - 1 ≤ c.upto
  known t c l h = All-listed (λ e. next s.rows - 1 ≤ e.1.upto) (t, c) (entries s) near (Listed-entries s t c l h)

  still_near : (t : Target) (x : ℕ) (held : Bool) → IsColumnTarget (width s.rows) t → AreNear (with_cands s t (holding (cands s t) x held))
  still_near t x held l = All-from (λ e. next s.rows - 1 ≤ e.1.upto) (entries m) (λ e h. let i = IsEntry-listed m e h in at e i (target_cases s.candidates t e.0 (holding (cands s t) x held)))
    where
      m : Core
      m = with_cands s t (holding (cands s t) x held)

      here : cands m t ≡ holding (cands s t) x held
      here = cands_of-with_list s.candidates t (holding (cands s t) x held) (subst (λ (n : ℕ). IsColumnTarget n t) (sym sound.columns) l)

      at : (e : Target × Cand) → IsEntry m e.0 e.1 → (t ≡ e.0) ⊎ (cands m e.0 ≡ cands s e.0) → next s.rows - 1 ≤ e.1.upto
      at e i (inl same) =
          let w = Listed-map_which (λ c. cond (eqb c.left x) (record { left = x; upto = c.upto; held = held }) c) e.1 (cands s t)
          (subst (λ (cs : List Cand). Listed e.1 cs) here (subst (λ (u : Target). Listed e.1 (cands m u)) (sym same) i.listed)) in
          subst (λ (n : ℕ). next s.rows - 1 ≤ n) (sym (ap (λ (c : Cand). c.upto) w.2 ∙ upto-held x held w.0)) (known t w.0 l w.1)
      at e i (inr same) = known e.0 e.1 i.target (subst (λ (cs : List Cand). Listed e.1 cs) same i.listed)

  pub drawn-near : (draw : Draw) (new : Core) → steps.IsDrawing s (reply_of_draw draw) new → AreNear new
  drawn-near (draws.Job job) new d = subst AreNear (sym d.after) (still_near job.target job.left true (drawable-entry s job.target (record { left = job.left; upto = job.from; held = false }) d.first).target)
  drawn-near (draws.Busy t x) new d = subst AreNear (sym d.1) near
  drawn-near draws.Settled new d = subst AreNear (sym d.1) near

  -- ---- the rows that a job looks at
  count-cons : (p : ℕ → Bool) (x : ℕ) (xs : List ℕ) → count_by p (x ∷ xs) ≡ cond (p x) 1 0 + count_by p xs
  count-cons p x xs = sum_by-cons (λ y. cond (p y) 1 0) x xs

  count-filter : (p q : ℕ → Bool) (xs : List ℕ) → count_by p (filter q xs) ≤ count_by p xs
  count-filter p q [] = omega arith
  count-filter p q (x ∷ xs) = let e = count-cons p x xs in let l = by (q x) (count-filter p q xs) in omega arith
    where
      by : (b : Bool) → count_by p (filter q xs) ≤ count_by p xs → count_by p (cond b (x ∷ filter q xs) (filter q xs)) ≤ cond (p x) 1 0 + count_by p xs
      by true l = subst (λ (n : ℕ). n ≤ cond (p x) 1 0 + count_by p xs) (sym (count-cons p x (filter q xs))) (omega arith)
      by false l = let e : count_by p (filter q xs) ≤ cond (p x) 1 0 + count_by p xs = omega arith in e

  last-few : (f a n : ℕ) → a + n ≤ f + 1 → count_by (λ i. leb f i) (range_with_len a n) ≤ 1
  last-few f a zero l = omega arith
  last-few f a (suc n) l = subst (λ (m : ℕ). m ≤ 1) (sym (count-cons (λ i. leb f i) a (range_with_len (a + 1) n))) (by (leb f a) refl (last-few f (a + 1) n (omega arith)))
    where
      -- where it is from f on, it is the last
      none : f ≤ a → (m : ℕ) → m ≡ n → count_by (λ i. leb f i) (range_with_len (a + 1) m) ≡ 0
      none g zero e = refl
      none g (suc m) e = absurd (omega arith)

      by : (b : Bool) → leb f a ≡ b → count_by (λ i. leb f i) (range_with_len (a + 1) n) ≤ 1 → cond b 1 0 + count_by (λ i. leb f i) (range_with_len (a + 1) n) ≤ 1
      by true e m = let z = none (leb-true f a e) n refl in let h : 1 + count_by (λ i. leb f i) (range_with_len (a + 1) n) ≤ 1 = omega arith in h
      by false e m = let h : 0 + count_by (λ i. leb f i) (range_with_len (a + 1) n) ≤ 1 = omega arith in h

  pub drawn-few : (job : JobParts) (new : Core) → steps.Draws s job new → new_rows job.snapshot job.from ≤ 1
  unfolding live_numbers
  drawn-few job new d =
      let c : Cand = record { left = job.left; upto = job.from; held = false } in
      let entry = drawable-entry s job.target c d.first in
      let n : next s.rows - 1 ≤ job.from = known job.target c entry.target entry.listed in
      let e : job.snapshot.to ≡ next s.rows = d.shows.next in
      let f : count_by (λ i. leb job.from i) (range_with_len 1 (job.snapshot.to - 1)) ≤ 1 = last-few job.from 1 (job.snapshot.to - 1) (omega arith) in
      let g = count-filter (λ i. leb job.from i) (live_at job.snapshot) (range_with_len 1 (job.snapshot.to - 1)) in
      omega arith

-- where no candidate is found that is not
near-found : (s : Core) → Sound s → (n : ℕ) (found : Option (Target × Cand)) (b : Bool) → n ≡ next s.rows - 1 → found ≡ find (λ e. is_unfinished n e.1) (entries_in (length s.candidates.columns) s.candidates) → is_some found ≡ not b → b ≡ true → AreNear s
near-found s sound n (Some x) b e f i h = absurd (true≢false (i ∙ ap not h))
near-found s sound n None b e f i h = All-from (λ e. next s.rows - 1 ≤ e.1.upto) (entries s) (λ p g.
    let k = find-None (λ e. is_unfinished n e.1) (entries_in (length s.candidates.columns) s.candidates) p (sym f) (subst (λ (w : ℕ). Listed p (entries_in w s.candidates)) (sym sound.columns) g) in
    let l = ltb-false p.1.upto n k in
    omega arith)

pub near-from : (s : Core) → Sound s → (n : ℕ) (found : Option Unfinished) (b : Bool) → n ≡ next s.rows - 1 → found ≡ option_map place (find (λ e. is_unfinished n e.1) (entries_in (length s.candidates.columns) s.candidates)) → is_some found ≡ not b → b ≡ true → AreNear s
near-from s sound n found b e f i h = near-found s sound n (find (λ e. is_unfinished n e.1) (entries_in (length s.candidates.columns) s.candidates)) b e refl (sym (some-map _) ∙ ap is_some (sym f) ∙ i) h
  where
    some-map : (o : Option (Target × Cand)) → is_some (option_map place o) ≡ is_some o
    some-map None = refl
    some-map (Some e) = refl
