-- Why `finish` ends: each turn marks a candidate that was unfinished, or books an agree set that there was not.
use Rattle.std.proofs.Common.{inl, inr, ◌≡◌, ℕ, suc, ◌+◌, ◌-◌, ◌*◌, ◌<◌, ◌≤◌, max, eqb, ltb, Bool, true, false, cond, not, ◌&&◌, refl, sym, ap, ◌∙◌, subst, arith, List, [], ◌∷◌, length, map}
use Rattle.std.specs.List.{count_by, sum_by, filter}
use Rattle.std.proofs.lemmas.Bool.{eq-eqb, lt-ltb, le-ltb}
use Rattle.std.proofs.lemmas.List.Sums.{sum_by-append, count_by-le-length, length-filter}
use Rattle.std.proofs.Math.Nat.{suc-mul}
use Rattle.col_set.specs.declared.target.Target.{Target}
use Rattle.col_set.specs.ColSet.{all_sets}
use Rattle.col_set.specs.Target.{IsColumnTarget}
use Rattle.col_set.specs.Target.{has_target}
use Rattle.col_set.specs.Minimal.{is_minimal}
use Rattle.col_set.specs.Evidence.{refuted, least}
use Rattle.col_set.specs.Lists.{Listed}
use Rattle.rel_base.specs.RowState.{RowState, width, next}
use Rattle.rel_base.specs.Validity.{agree_sets}
use Rattle.candidate_cover.specs.declared.cand.Cand.{Cand}
use Rattle.candidate_cover.specs.Cands.{marked, holding}
use Rattle.cover_steps.specs.Core.{Core, targets, cands, is_unfinished, with_cands}
use Rattle.negative_cover.specs.Witnesses.{sets_of}
use Rattle.cover_steps.specs.Sound.{Sound}
use Rattle.cover_steps.specs.Laws.{different}
use Rattle.cover_core.specs.Work.{unfinished_of, unfinished, bound, work}
use Rattle.cover_steps.proofs.Found.{targets_within, Listed-targets}
use Rattle.cover_steps.proofs.Kept.{cands_of-with_list, target_cases}
use Rattle.cover_steps.proofs.Counting.{witnesses_few}

sum_by-cons : {X : Type 0} (f : X → ℕ) (x : X) (xs : List X) → sum_by f (x ∷ xs) ≡ f x + sum_by f xs
sum_by-cons f x xs = let e : sum_by f (x ∷ xs) ≡ 0 + f x + sum_by f xs = sum_by-append f (x ∷ []) xs in omega arith

sum_by-bound : {X : Type 0} (f : X → ℕ) (b : ℕ) (xs : List X) → ((x : X) → Listed x xs → f x ≤ b) → sum_by f xs ≤ length xs * b
sum_by-bound f b [] h = omega arith
sum_by-bound f b (x ∷ xs) h =
    let e = sum_by-cons f x xs in
    let l = h x (inl refl) in
    let m = sum_by-bound f b xs (λ y g. h y (inr g)) in
    let k : suc (length xs) * b ≡ length xs * b + b = suc-mul (length xs) b in omega arith

sum_by-mono : {X : Type 0} (f g : X → ℕ) (xs : List X) → ((x : X) → Listed x xs → f x ≤ g x) → sum_by f xs ≤ sum_by g xs
sum_by-mono f g [] h = omega arith
sum_by-mono f g (x ∷ xs) h =
    let a = sum_by-cons f x xs in
    let b = sum_by-cons g x xs in
    let l = h x (inl refl) in
    let m = sum_by-mono f g xs (λ y i. h y (inr i)) in omega arith

sum_by-less : {X : Type 0} (f g : X → ℕ) (xs : List X) (t : X) → ((x : X) → Listed x xs → f x ≤ g x) → Listed t xs → f t < g t → sum_by f xs < sum_by g xs
sum_by-less f g [] t h i l = absurd i
sum_by-less f g (x ∷ xs) t h (inl e) l =
    let a = sum_by-cons f x xs in
    let b = sum_by-cons g x xs in
    let k : f x < g x = subst (λ z. f z < g z) e l in
    let m = sum_by-mono f g xs (λ y i. h y (inr i)) in omega arith
sum_by-less f g (x ∷ xs) t h (inr i) l =
    let a = sum_by-cons f x xs in
    let b = sum_by-cons g x xs in
    let k = h x (inl refl) in
    let m = sum_by-less f g xs t (λ y j. h y (inr j)) i l in omega arith

-- one where the test passes
abbrev pub one_if : Bool → ℕ
one_if b = cond b 1 0

count_by-cons : {X : Type 0} (p : X → Bool) (x : X) (xs : List X) → count_by p (x ∷ xs) ≡ one_if (p x) + count_by p xs
count_by-cons p x xs = sum_by-cons (λ x. one_if (p x)) x xs

length-map : {X Y : Type 0} (f : X → Y) (xs : List X) → length (map f xs) ≡ length xs
length-map f [] = refl
length-map f (x ∷ xs) = ap (λ (k : ℕ). suc k) (length-map f xs)

-- ---- how many candidates there can be
least-few : (n : ℕ) (ws : List ℕ) (t : Target) → length (least n ws t) ≤ length (all_sets n)
unfolding least
least-few n ws t =
    let p = λ (x : ℕ). not (has_target x t) && is_minimal n (λ y. not (refuted ws t y)) x in
    let e : length (filter p (all_sets n)) ≡ count_by p (all_sets n) = length-filter p (all_sets n) in
    let l : count_by p (all_sets n) ≤ length (all_sets n) = count_by-le-length p (all_sets n) in omega arith

unfinished_of-few : (s : Core) (t : Target) → Sound s → IsColumnTarget (width s.rows) t → unfinished_of s t ≤ length (all_sets (width s.rows))
unfinished_of-few s t sound l =
    let a = count_by-le-length (is_unfinished (next s.rows)) (cands s t) in
    let b : length (cands s t) ≡ length (least (width s.rows) (sets_of s.witnesses) t) = sym (length-map (λ (c : Cand). c.left) (cands s t)) ∙ ap length (sound.candidates t l) in
    let c = least-few (width s.rows) (sets_of s.witnesses) t in omega arith

pub unfinished-few : (s : Core) → Sound s → unfinished s < bound (width s.rows)
unfolding unfinished bound
unfinished-few s sound =
    let l = sum_by-bound (unfinished_of s) (length (all_sets (width s.rows))) (targets (width s.rows)) (λ t h. unfinished_of-few s t sound (targets_within (width s.rows) t h)) in omega arith

-- ---- a turn that books a witness
pub work-booked : (s new : Core) → Sound new → new.rows ≡ s.rows → length new.witnesses ≡ length s.witnesses + 1 → work new < work s
unfolding work
work-booked s new sound rows more =
    let few = witnesses_few new sound in
    let same : length (different (agree_sets new.rows)) ≡ length (different (agree_sets s.rows)) = ap (λ (r : RowState). length (different (agree_sets r))) rows in
    let same_bound : bound (width new.rows) ≡ bound (width s.rows) = ap (λ (r : RowState). bound (width r)) rows in
    let l = unfinished-few new sound in
    let d = length (different (agree_sets s.rows)) - length s.witnesses in
    let e = length (different (agree_sets new.rows)) - length new.witnesses in
    let step : d ≡ suc e = omega arith in
    let k : suc e * bound (width s.rows) ≡ e * bound (width s.rows) + bound (width s.rows) = suc-mul e (bound (width s.rows)) in
    let m : d * bound (width s.rows) ≡ e * bound (width s.rows) + bound (width s.rows) = ap (λ (n : ℕ). n * bound (width s.rows)) step ∙ k in
    let o : e * bound (width new.rows) ≡ e * bound (width s.rows) = ap (λ (b : ℕ). e * b) same_bound in omega arith

-- ---- a turn that marks a candidate
-- the count of unfinished candidates after other marks for a target
module _ (s : Core) (sound : Sound s) (t : Target) (target : IsColumnTarget (width s.rows) t) (cs : List Cand) (fewer : count_by (is_unfinished (next s.rows)) cs ≤ unfinished_of s t) where
  here : cands (with_cands s t cs) t ≡ cs
  here = cands_of-with_list s.candidates t cs (subst (λ (n : ℕ). IsColumnTarget n t) (sym sound.columns) target)

  unfinished_here : unfinished_of (with_cands s t cs) t ≡ count_by (is_unfinished (next s.rows)) cs
  unfinished_here = ap (count_by (is_unfinished (next s.rows))) here

  each : (u : Target) → unfinished_of (with_cands s t cs) u ≤ unfinished_of s u
  each u = elim (target_cases s.candidates t u cs) as (λ _. unfinished_of (with_cands s t cs) u ≤ unfinished_of s u) [
    | inl e ↦ subst (λ (u : Target). unfinished_of (with_cands s t cs) u ≤ unfinished_of s u) e (let h = unfinished_here in omega arith)
    | inr e ↦ let h : unfinished_of (with_cands s t cs) u ≡ unfinished_of s u = ap (count_by (is_unfinished (next s.rows))) e in omega arith
  ]

  pub work-no_more : work (with_cands s t cs) ≤ work s
  unfolding work unfinished
  work-no_more = let l = sum_by-mono (unfinished_of (with_cands s t cs)) (unfinished_of s) (targets (width s.rows)) (λ u h. each u) in omega arith

  pub work-less : count_by (is_unfinished (next s.rows)) cs < unfinished_of s t → work (with_cands s t cs) < work s
  unfolding work unfinished
  work-less l =
      let h = unfinished_here in
      let m = sum_by-less (unfinished_of (with_cands s t cs)) (unfinished_of s) (targets (width s.rows)) t (λ u h. each u) (Listed-targets (width s.rows) t target) (omega arith) in omega arith

-- what becomes of a candidate where the one with this left side is marked, or held or not
abbrev pub mark_of : ℕ → ℕ → Cand → Cand
mark_of x n c = cond (eqb c.left x) (record { left = x; upto = max c.upto n; held = false }) c

abbrev pub hold_of : ℕ → Bool → Cand → Cand
hold_of x held c = cond (eqb c.left x) (record { left = x; upto = c.upto; held = held }) c

-- marks up to n leave no more candidates unfinished below n, and fewer where one of the marked was unfinished
count-marked : (n x : ℕ) (c : Cand) → one_if (is_unfinished n (mark_of x n c)) ≤ one_if (is_unfinished n c)
count-marked n x c = by (eqb c.left x)
  where
    none : ltb (max c.upto n) n ≡ false
    none = le-ltb (max c.upto n) n (omega arith)

    by : (b : Bool) → one_if (ltb (cond b (record { left = x; upto = max c.upto n; held = false }) c).upto n) ≤ one_if (is_unfinished n c)
    by true = let e : one_if (ltb (max c.upto n) n) ≡ 0 = ap one_if none in omega (arith, e)
    by false = omega arith

pub marked-no_more : (n x : ℕ) (cs : List Cand) → count_by (is_unfinished n) (marked cs x n) ≤ count_by (is_unfinished n) cs
marked-no_more n x [] = omega arith
marked-no_more n x (c ∷ cs) =
    let a = count_by-cons (is_unfinished n) (mark_of x n c) (marked cs x n) in
    let b = count_by-cons (is_unfinished n) c cs in
    let l = count-marked n x c in
    let m = marked-no_more n x cs in omega arith

pub marked-fewer : (n x : ℕ) (c : Cand) (cs : List Cand) → Listed c cs → c.left ≡ x → c.upto < n → count_by (is_unfinished n) (marked cs x n) < count_by (is_unfinished n) cs
marked-fewer n x c [] h e l = absurd h
marked-fewer n x c (d ∷ cs) (inl i) e l =
    let a = count_by-cons (is_unfinished n) (mark_of x n d) (marked cs x n) in
    let b = count_by-cons (is_unfinished n) d cs in
    let m = marked-no_more n x cs in
    let same : d.left ≡ x = ap (λ (c : Cand). c.left) (sym i) ∙ e in
    let u : d.upto < n = subst (λ (c : Cand). c.upto < n) i l in
    let was : one_if (is_unfinished n d) ≡ 1 = ap one_if (lt-ltb d.upto n u) in
    let is : one_if (is_unfinished n (mark_of x n d)) ≡ 0 = ap (λ (b : Bool). one_if (ltb (cond b (record { left = x; upto = max d.upto n; held = false }) d).upto n)) (eq-eqb d.left x same) ∙ ap one_if (le-ltb (max d.upto n) n (omega arith)) in
    omega arith
marked-fewer n x c (d ∷ cs) (inr h) e l =
    let a = count_by-cons (is_unfinished n) (mark_of x n d) (marked cs x n) in
    let b = count_by-cons (is_unfinished n) d cs in
    let k = count-marked n x d in
    let m = marked-fewer n x c cs h e l in omega arith

pub held-same : (n x : ℕ) (held : Bool) (cs : List Cand) → count_by (is_unfinished n) (holding cs x held) ≡ count_by (is_unfinished n) cs
held-same n x held [] = refl
held-same n x held (c ∷ cs) =
    let a = count_by-cons (is_unfinished n) (hold_of x held c) (holding cs x held) in
    let b = count_by-cons (is_unfinished n) c cs in
    let k : one_if (is_unfinished n (hold_of x held c)) ≡ one_if (is_unfinished n c) = by (eqb c.left x) in
    let m = held-same n x held cs in omega arith
  where
    by : (b : Bool) → one_if (ltb (cond b (record { left = x; upto = c.upto; held = held }) c).upto n) ≡ one_if (is_unfinished n c)
    by true = refl
    by false = refl
