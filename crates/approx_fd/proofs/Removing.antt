-- How many rows are to be removed, in a row state and in a snapshot that shows it.
use Rattle.std.proofs.Common.{inl, inr, ◌≡◌, ◌≢◌, ℕ, suc, ◌+◌, ◌-◌, ◌<◌, ◌≤◌, Bool, true, false, cond, eqb, refl, sym, ap, ap₂, ◌∙◌, subst, arith, List, [], ◌∷◌, length, map}
use Rattle.std.specs.List.{filter, sum_by, count_by}
use Rattle.std.proofs.lemmas.Bool.{true≢false, false≢true, eqb-true, eq-eqb, ne_eqb}
use Rattle.std.proofs.lemmas.List.Sums.{sum_by-cons}
use Rattle.col_set.specs.declared.target.Target.{Target}
use Rattle.col_set.specs.declared.target.Target.TheVariants.{Col, RowId}
use Rattle.col_set.specs.ColSet.{IsSubset, with}
use Rattle.col_set.specs.Target.{has_target}
use Rattle.col_set.specs.Lists.{Listed}
use Rattle.col_set.specs.Subsets.{with_subset}
use Rattle.col_set.proofs.Places.{Climbs, Contains-listed}
use Rattle.rel_base.specs.CodeTable.{CodeTable, code_at}
use Rattle.rel_base.specs.RowState.{RowState, IsRowState}
use Rattle.rel_base.specs.Validity.{agree_of, agree_sets, pairs, determined, holds}
use Rattle.rel_base.specs.Shows.{Shows, code_agree, code_sets, live_numbers}
use Rattle.rel_base.proofs.Agree.{PairOf-pairs}
use Rattle.rel_base.proofs.States.{live_climbs}
use Rattle.rel_base.proofs.Valid.{AgreeOf-agree_sets, Listed-agree_sets, determined-at, determined-from, Holds-tested, holds-true, holds-more, holds-key}
use Rattle.rel_base.proofs.Shown.{live_numbers-shown, code_agree-shown, Listed-code_sets, CodeSetOf-code_sets}
use Rattle.stripped_partition.specs.AnyOrder.{AreGroupsBy}
use Rattle.stripped_partition.specs.Stripped.{agree_on, error_of}
use Rattle.stripped_partition.specs.Removed.{greatest, largest_part, outside_largest, removed_of}
use Rattle.stripped_partition.proofs.Agreeing.{agree_on-subset, subset-agree_on, code_agree-parts, code_agree-from}
use Rattle.stripped_partition.proofs.Dependencies.{group_ascends, stripped-parts}
use Rattle.stripped_partition.proofs.Errors.{Climbs-Once}
use Rattle.stripped_partition.proofs.Firsts.{Once}
use Rattle.stripped_partition.proofs.Live.{Climbs-live}
use Rattle.approx_fd.specs.Removal.{IsSublist, least_removed, with_live, removed, IsRemoved, removed_in}
use Rattle.approx_fd.specs.Laws.{RemovedMeans, BoundsByUniqueness}
use Rattle.approx_fd.proofs.Sublists.{sublist-member, sublist-climbs, Longest, Longest-is, Longest-alone, removed-weaker, removed-same, removed-none, none-removed, removed-both}
use Rattle.approx_fd.proofs.Counting.{removed-sum, count-map}

apart : (i j : ℕ) → i < j → i ≡ j → ⊥
apart i j l e = omega arith

-- ---- in a snapshot
module _ (s : CodeTable) (x : ℕ) (t : Target) where
  pub none-in : determined (code_sets s []) x t ≡ true
  unfolding pairs
  none-in = refl

  agreed : (kept : List ℕ) → determined (code_sets s kept) x t ≡ true → (i j : ℕ) → Listed i kept → Listed j kept → i ≢ j → agree_on s x i j ≡ true → has_target (code_agree s i j) t ≡ true
  agreed kept e i j h k ne a = determined-at (code_sets s kept) x t (code_agree s i j) e (Listed-code_sets s kept i j h k ne) (agree_on-subset s x i j a)

  agreeing : (kept : List ℕ) → Climbs kept → ((i j : ℕ) → Listed i kept → Listed j kept → i ≢ j → agree_on s x i j ≡ true → has_target (code_agree s i j) t ≡ true) → determined (code_sets s kept) x t ≡ true
  agreeing kept up f = determined-from (code_sets s kept) x t (λ w l sub.
      let v = CodeSetOf-code_sets s kept w up l in
      ap (λ (z : ℕ). has_target z t) v.same ∙ f v.i v.j v.first v.second (apart v.i v.j v.rising) (subset-agree_on s x v.i v.j (subst (IsSubset x) v.same sub)))

-- ---- the sum over groups
module _ (s : CodeTable) (x : ℕ) (groups : List (List ℕ)) (are : AreGroupsBy s x groups) where
  pub removed_in-column : (a : ℕ) → a < length s.codes → removed_in s x (Col a) ≡ removed_of s a groups
  unfolding removed_in removed_of outside_largest has_target
  removed_in-column a l = removed-sum s x groups are (λ row. code_at s row a) (λ kept. determined (code_sets s kept) x (Col a)) (none-in s x (Col a))
      (λ kept sub e i j h k ne b. (code_agree-parts s i j a (agreed s x (Col a) kept e i j h k ne b)).1)
      (λ kept sub f. agreeing s x (Col a) kept (sublist-climbs kept (live_numbers s) sub (Climbs-live s)) (λ i j h k ne b. code_agree-from s i j a l (f i j h k ne b)))

  -- of different rows each is a part of its own
  one_part : (g : List ℕ) (c : ℕ) → Once g → Listed c g → length (filter (λ i. eqb i c) g) ≡ 1
  one_part [] c o h = absurd h
  one_part (i ∷ g) c o (inl e) = at (eqb i c) (eq-eqb i c (sym e)) (nowhere g (λ h. o.0 (subst (λ (k : ℕ). Listed k g) e h)))
    where
      nowhere : (g : List ℕ) → (Listed c g → ⊥) → length (filter (λ i. eqb i c) g) ≡ 0
      nowhere [] f = refl
      nowhere (j ∷ g) f = skip (eqb j c) (ne_eqb j c (λ e. f (inl (sym e)))) (nowhere g (λ h. f (inr h)))
        where
          skip : (b : Bool) → b ≡ false → length (filter (λ i. eqb i c) g) ≡ 0 → length (cond b (j ∷ filter (λ i. eqb i c) g) (filter (λ i. eqb i c) g)) ≡ 0
          skip true e l = absurd (true≢false e)
          skip false e l = l

      at : (b : Bool) → b ≡ true → length (filter (λ i. eqb i c) g) ≡ 0 → length (cond b (i ∷ filter (λ i. eqb i c) g) (filter (λ i. eqb i c) g)) ≡ 1
      at true f l = ap suc l
      at false f l = absurd (false≢true f)
  one_part (i ∷ g) c o (inr h) = at (eqb i c) refl (one_part g c o.1 h)
    where
      at : (b : Bool) → eqb i c ≡ b → length (filter (λ i. eqb i c) g) ≡ 1 → length (cond b (i ∷ filter (λ i. eqb i c) g) (filter (λ i. eqb i c) g)) ≡ 1
      at true f l = absurd (o.0 (subst (λ (k : ℕ). Listed k g) (sym (eqb-true i c f)) h))
      at false f l = l

  ones : (n : ℕ) (h : ℕ → ℕ) (cs : List ℕ) → ((c : ℕ) → Listed c cs → h c ≡ 1) → 0 < length cs → greatest (map h cs) ≡ 1
  unfolding greatest
  ones n h [] f l = absurd (omega arith)
  ones n h (c ∷ []) f l = let e = f c (inl refl) in omega arith
  ones n h (c ∷ d ∷ cs) f l = let e = f c (inl refl) in let r = ones n h (d ∷ cs) (λ k m. f k (inr m)) (omega arith) in omega arith

  largest_of_once : (g : List ℕ) → Once g → 0 < length g → largest_part (map (λ i. i) g) ≡ 1
  unfolding largest_part
  largest_of_once g o l = ones 0 (λ c. count_by (λ d. eqb d c) (map (λ i. i) g)) (map (λ i. i) g)
      (λ c h. count-map (λ i. i) c g ∙ one_part g c o (subst (Listed c) (same g) h)) (let e : length (map (λ i. i) g) ≡ length g = ap length (same g) in omega arith)
    where
      same : (g : List ℕ) → map (λ i. i) g ≡ g
      same [] = refl
      same (i ∷ g) = ap (λ (h : List ℕ). i ∷ h) (same g)

  less_one : (gs : List (List ℕ)) → ((g : List ℕ) → Listed g gs → (largest_part (map (λ i. i) g) ≡ 1) × (1 ≤ length g)) → sum_by (λ g. length g - largest_part (map (λ i. i) g)) gs + length gs ≡ sum_by length gs
  less_one [] f = refl
  less_one (g ∷ gs) f =
      let a = sum_by-cons (λ g. length g - largest_part (map (λ i. i) g)) g gs in let b = sum_by-cons length g gs in
      let w = f g (inl refl) in let c = w.0 in let l = w.1 in let r = less_one gs (λ h m. f h (inr m)) in omega arith

  pub removed_in-row : removed_in s x RowId ≡ error_of groups
  unfolding removed_in error_of has_target
  removed_in-row =
      let a = removed-sum s x groups are (λ row. row) (λ kept. determined (code_sets s kept) x RowId) (none-in s x RowId)
      (λ kept sub e i j h k ne b. absurd (false≢true (agreed s x RowId kept e i j h k ne b)))
      (λ kept sub f. agreeing s x RowId kept (sublist-climbs kept (live_numbers s) sub (Climbs-live s)) (λ i j h k ne b. absurd (ne (f i j h k ne b)))) in
      let b = less_one groups (λ g h.
      let up = group_ascends s x g (are.only g h) in
      let two = (stripped-parts s x g (are.only g h)).two in
      (largest_of_once g (Climbs-Once g up) (omega arith), omega arith)) in
      omega arith

-- ---- a snapshot that shows a row state
pub map_same : {X Y : Type 0} (f g : X → Y) (xs : List X) → ((x : X) → Listed x xs → f x ≡ g x) → map f xs ≡ map g xs
map_same f g [] e = refl
map_same {Y = Y} f g (x ∷ xs) e = ap₂ (λ (y : Y) (ys : List Y). y ∷ ys) (e x (inl refl)) (map_same f g xs (λ z h. e z (inr h)))

module _ (s : CodeTable) (r : RowState) (is : IsRowState r) (shows : Shows s r) where
  sets-shown : (kept : List ℕ) → IsSublist kept r.live → code_sets s kept ≡ agree_sets (with_live kept r)
  unfolding agree_sets
  sets-shown kept sub = map_same (λ p. code_agree s p.0 p.1) (λ p. agree_of r p.0 p.1) (pairs kept) (λ p h.
      let q = PairOf-pairs kept p (sublist-climbs kept r.live sub (live_climbs r is)) h in
      code_agree-shown s r is shows p.0 p.1 (Contains-listed p.0 r.live (sublist-member kept r.live p.0 sub q.first)) (Contains-listed p.1 r.live (sublist-member kept r.live p.1 sub q.second)) (apart p.0 p.1 q.rising))

  pub removed-shown : (x : ℕ) (t : Target) → removed_in s x t ≡ removed r x t
  unfolding removed_in removed holds
  removed-shown x t =
      ap (λ (rows : List ℕ). least_removed (λ kept. determined (code_sets s kept) x t) rows) (live_numbers-shown s r is shows)
      ∙ removed-same (λ kept. determined (code_sets s kept) x t) (λ kept. determined (agree_sets (with_live kept r)) x t) r.live (none-in s x t) (λ kept sub. ap (λ (ws : List ℕ). determined ws x t) (sets-shown kept sub))

-- ---- in a row state
module _ (r : RowState) (x : ℕ) (t : Target) where
  pub none-kept : holds (with_live [] r) x t ≡ true
  unfolding holds agree_sets pairs
  none-kept = refl

pub removed-more : (r : RowState) (x y : ℕ) (t : Target) → IsSubset x y → removed r y t ≤ removed r x t
unfolding removed
removed-more r x y t sub = removed-weaker (λ kept. holds (with_live kept r) x t) (λ kept. holds (with_live kept r) y t) r.live (none-kept r x t) (none-kept r y t) (λ kept s e. holds-more (with_live kept r) x y t sub e)

pub removed-zero : (r : RowState) (x : ℕ) (t : Target) → removed r x t ≡ 0 → holds r x t ≡ true
unfolding removed
removed-zero r x t e = none-removed (λ kept. holds (with_live kept r) x t) r.live (none-kept r x t) e

pub zero-removed : (r : RowState) (x : ℕ) (t : Target) → holds r x t ≡ true → removed r x t ≡ 0
unfolding removed
zero-removed r x t e = removed-none (λ kept. holds (with_live kept r) x t) r.live (none-kept r x t) e

module _ (r : RowState) (is : IsRowState r) where
  module _ (x : ℕ) (t : Target) where
    abbrev passes : List ℕ → Bool
    passes kept = holds (with_live kept r) x t

    IsRemoved-longest : (k : ℕ) → Longest passes r.live k → IsRemoved r x t k
    IsRemoved-longest k l = record {
      kept = l.kept;
      sublist = l.sublist;
      count = l.count;
      determines = Holds-tested (with_live l.kept r) x t l.passed;
      longest = λ other sub h. l.longest other sub (holds-true (with_live other r) x t (sublist-climbs other r.live sub (live_climbs r is)) h);
    }

    longest-IsRemoved : (k : ℕ) → IsRemoved r x t k → Longest passes r.live k
    longest-IsRemoved k l = record {
      kept = l.kept;
      sublist = l.sublist;
      count = l.count;
      passed = holds-true (with_live l.kept r) x t (sublist-climbs l.kept r.live l.sublist (live_climbs r is)) l.determines;
      longest = λ other sub e. l.longest other sub (Holds-tested (with_live other r) x t e);
    }

    pub removed-means : RemovedMeans r x t
    unfolding removed
    removed-means = record {
      is = IsRemoved-longest (least_removed passes r.live) (Longest-is passes r.live (none-kept r x t));
      alone = λ k l. Longest-alone passes r.live k (least_removed passes r.live) (longest-IsRemoved k l) (Longest-is passes r.live (none-kept r x t));
    }

  module _ (x a : ℕ) where
    -- rows of which some are removed for the dependency, and others so that x and a are unique
    both-unique : (one other both : List ℕ) → IsSublist both r.live → ((i : ℕ) → Listed i both → Listed i one × Listed i other) → holds (with_live one r) x (Col a) ≡ true → holds (with_live other r) (with x a) RowId ≡ true
        → holds (with_live both r) x RowId ≡ true
    unfolding holds has_target
    both-unique one other both sub inside e f = determined-from (agree_sets (with_live both r)) x RowId (λ w l s.
        let v = AgreeOf-agree_sets (with_live both r) w (sublist-climbs both r.live sub (live_climbs r is)) l in
        let h = inside v.i v.first in let k = inside v.j v.second in
        let at : IsSubset x (agree_of r v.i v.j) = subst (IsSubset x) v.same s in
        let b = determined-at (agree_sets (with_live one r)) x (Col a) (agree_of r v.i v.j) e (Listed-agree_sets (with_live one r) v.i v.j h.0 k.0 (apart v.i v.j v.rising)) at in
        absurd (false≢true (determined-at (agree_sets (with_live other r)) (with x a) RowId (agree_of r v.i v.j) f (Listed-agree_sets (with_live other r) v.i v.j h.1 k.1 (apart v.i v.j v.rising)) (with_subset a at b))))

    pub removed-bounds : BoundsByUniqueness r x a
    unfolding removed
    removed-bounds = record {
      most = removed-weaker (λ kept. holds (with_live kept r) x RowId) (λ kept. holds (with_live kept r) x (Col a)) r.live (none-kept r x RowId) (none-kept r x (Col a)) (λ kept s e. holds-key (with_live kept r) x (Col a) e);
      least = let l = removed-both (λ kept. holds (with_live kept r) x (Col a)) (λ kept. holds (with_live kept r) (with x a) RowId) (λ kept. holds (with_live kept r) x RowId) r.live (live_climbs r is)
          (none-kept r x (Col a)) (none-kept r (with x a) RowId) (none-kept r x RowId) (λ one other both s u v inside e f. both-unique one other both v inside e f) in omega arith;
    }
