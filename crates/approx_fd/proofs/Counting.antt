-- How many rows are to be removed for rows that agree on X to have the same code: the sum, over the groups by X, of their sizes less their largest parts.
use Rattle.std.proofs.Common.{inl, inr, ◌≡◌, ◌≢◌, ◌⊎◌, ℕ, suc, ◌+◌, ◌-◌, ◌<◌, ◌≤◌, max, Bool, true, false, cond, not, ◌&&◌, eqb, leb, refl, sym, ap, ◌∙◌, subst, arith, List, [], ◌∷◌, length, map}
use Rattle.std.specs.List.{filter, flat_map, list_any, sum_by, count_by}
use Rattle.std.proofs.lemmas.Bool.{true≢false, false≢true, eqb-true, eq-eqb, cases_eq, cases_Bool, and_parts, and_from, not-true, leb-true, le-leb, cases_lt}
use Rattle.std.proofs.lemmas.List.Concat.{length-flat_map}
use Rattle.std.proofs.lemmas.List.Sums.{sum_by-cons}
use Rattle.col_set.specs.Lists.{Listed, Listed-filter, Listed-filter_parts, Listed-flat_map, Listed-flat_map_which, Listed-map, filter_same, list_any_at, list_any_which}
use Rattle.col_set.specs.Subsets.{same_test}
use Rattle.rel_base.specs.CodeTable.{CodeTable}
use Rattle.rel_base.specs.Shows.{live_numbers}
use Rattle.stripped_partition.specs.AnyOrder.{AreGroupsBy}
use Rattle.stripped_partition.specs.Stripped.{agree_on, group_of}
use Rattle.stripped_partition.specs.Removed.{greatest, largest_part}
use Rattle.stripped_partition.proofs.Grouped.{GroupOf, group_apart}
use Rattle.stripped_partition.proofs.Firsts.{Once, Once-filter}
use Rattle.stripped_partition.proofs.Agreeing.{agree_same}
use Rattle.stripped_partition.proofs.Errors.{Climbs-Once, Once-each, Once-length, group_climbs}
use Rattle.stripped_partition.proofs.Live.{Climbs-live}
use Rattle.stripped_partition.proofs.Dependencies.{in_group, stripped-parts, together}
use Rattle.approx_fd.specs.Removal.{IsSublist, least_removed}
use Rattle.approx_fd.proofs.Sublists.{keeps, keeps-listed, listed-keeps, sublist-kept, sublist-filter, greatest-least, Longest-is, Longest-alone}

-- ---- parts of a list by code
pub count-map : (f : ℕ → ℕ) (c : ℕ) (g : List ℕ) → count_by (λ d. eqb d c) (map f g) ≡ length (filter (λ i. eqb (f i) c) g)
count-map f c [] = refl
count-map f c (i ∷ g) = sum_by-cons (λ (d : ℕ). cond (eqb d c) 1 0) (f i) (map f g) ∙ by (eqb (f i) c) (count-map f c g)
  where
    by : (b : Bool) → count_by (λ d. eqb d c) (map f g) ≡ length (filter (λ i. eqb (f i) c) g) → cond b 1 0 + count_by (λ d. eqb d c) (map f g) ≡ length (cond b (i ∷ filter (λ i. eqb (f i) c) g) (filter (λ i. eqb (f i) c) g))
    by true e = omega arith
    by false e = omega arith

-- no part is larger than the largest
part-le : (f : ℕ → ℕ) (i : ℕ) (g : List ℕ) → Listed i g → length (filter (λ j. eqb (f j) (f i)) g) ≤ largest_part (map f g)
unfolding largest_part
part-le f i g h =
    let l = greatest-least (map (λ c. count_by (λ d. eqb d c) (map f g)) (map f g)) (count_by (λ d. eqb d (f i)) (map f g))
    (Listed-map (λ c. count_by (λ d. eqb d c) (map f g)) (f i) (map f g) (Listed-map f i g h)) in
    let e = count-map f (f i) g in omega arith

-- a code whose part is the largest
best_of : (ℕ → ℕ) → List ℕ → ℕ
best_of h [] = 0
best_of h (c ∷ cs) = cond (leb (greatest (map h cs)) (h c)) c (best_of h cs)

best_of-is : (h : ℕ → ℕ) (c : ℕ) (cs : List ℕ) → h (best_of h (c ∷ cs)) ≡ greatest (map h (c ∷ cs))
unfolding best_of greatest
best_of-is h c [] = ap h (ap (λ b. cond b c 0) (le-leb 0 (h c) (omega arith))) ∙ omega arith
best_of-is h c (d ∷ cs) = by (best_of-is h d cs) (leb (greatest (map h (d ∷ cs))) (h c)) refl (cases_lt (h c) (greatest (map h (d ∷ cs))))
  where
    by : h (best_of h (d ∷ cs)) ≡ greatest (map h (d ∷ cs)) → (b : Bool) → leb (greatest (map h (d ∷ cs))) (h c) ≡ b → (h c < greatest (map h (d ∷ cs))) ⊎ (greatest (map h (d ∷ cs)) ≤ h c)
        → h (cond b c (best_of h (d ∷ cs))) ≡ max (h c) (greatest (map h (d ∷ cs)))
    by r true e l = let m = leb-true _ _ e in omega arith
    by r false e (inl l) = r ∙ omega arith
    by r false e (inr l) = absurd (true≢false (sym (le-leb _ _ l) ∙ e))

best : (ℕ → ℕ) → List ℕ → ℕ
best f g = best_of (λ c. count_by (λ d. eqb d c) (map f g)) (map f g)

best-part : (f : ℕ → ℕ) (i : ℕ) (g : List ℕ) → length (filter (λ j. eqb (f j) (best f (i ∷ g))) (i ∷ g)) ≡ largest_part (map f (i ∷ g))
unfolding largest_part best
best-part f i g =
    sym (count-map f (best f (i ∷ g)) (i ∷ g))
    ∙ best_of-is (λ c. count_by (λ d. eqb d c) (map f (i ∷ g))) (f i) (map f g)

-- what a test passes and what it does not are all
passed-and-not : (p : ℕ → Bool) (g : List ℕ) → length (filter p g) + length (filter (λ i. not (p i)) g) ≡ length g
passed-and-not p [] = refl
passed-and-not p (i ∷ g) = by (p i) (passed-and-not p g)
  where
    by : (b : Bool) → length (filter p g) + length (filter (λ i. not (p i)) g) ≡ length g
        → length (cond b (i ∷ filter p g) (filter p g)) + length (cond (not b) (i ∷ filter (λ i. not (p i)) g) (filter (λ i. not (p i)) g)) ≡ suc (length g)
    by true e = omega arith
    by false e = omega arith

-- a test that passes less passes no more
fewer : (p q : ℕ → Bool) (g : List ℕ) → ((i : ℕ) → Listed i g → p i ≡ true → q i ≡ true) → length (filter p g) ≤ length (filter q g)
fewer p q [] f = omega arith
fewer p q (i ∷ g) f = by (p i) (q i) (f i (inl refl)) (fewer p q g (λ j h. f j (inr h)))
  where
    by : (a b : Bool) → (a ≡ true → b ≡ true) → length (filter p g) ≤ length (filter q g) → length (cond a (i ∷ filter p g) (filter p g)) ≤ length (cond b (i ∷ filter q g) (filter q g))
    by true true h l = omega arith
    by true false h l = absurd (false≢true (h refl))
    by false true h l = omega arith
    by false false h l = l

sum-le : (f g : List ℕ → ℕ) (gs : List (List ℕ)) → ((h : List ℕ) → Listed h gs → f h ≤ g h) → sum_by f gs ≤ sum_by g gs
sum-le f g [] le = omega arith
sum-le f g (h ∷ gs) le = let a = sum_by-cons f h gs in let b = sum_by-cons g h gs in let l = le h (inl refl) in let r = sum-le f g gs (λ k m. le k (inr m)) in omega arith

-- ---- over the groups by X
module _ (s : CodeTable) (x : ℕ) (groups : List (List ℕ)) (are : AreGroupsBy s x groups) (f : ℕ → ℕ) where
  abbrev cost : List ℕ → ℕ
  cost g = length g - largest_part (map f g)

  group-parts : (g : List ℕ) → Listed g groups → GroupOf (agree_on s x) (live_numbers s) g
  group-parts g h = stripped-parts s x g (are.only g h)

  same_group : (g h : List ℕ) (i : ℕ) → Listed g groups → Listed h groups → Listed i g → Listed i h → g ≡ h
  same_group g h i l m a b = group_apart (agree_on s x) (agree_same s x) (live_numbers s) g h i (group-parts g l) (group-parts h m) a b

  -- each row stands once in the groups
  Once-passed : (p : ℕ → Bool) → Once (flat_map (filter p) groups)
  Once-passed p = Once-each (agree_on s x) (agree_same s x) (live_numbers s) (Climbs-live s) (filter p) groups
      (λ g i h. (Listed-filter_parts p i g h).0)
      (λ g of. Once-filter p g (Climbs-Once g (group_climbs (agree_on s x) (agree_same s x) (live_numbers s) (Climbs-live s) g of)))
      group-parts are.apart

  sum-passed : (p : ℕ → Bool) → sum_by (λ g. length (filter p g)) groups ≤ length (filter p (live_numbers s))
  sum-passed p =
      let e = length-flat_map (filter p) groups in
      let l = Once-length (flat_map (filter p) groups) (filter p (live_numbers s)) (Once-passed p) (λ i h.
      let w = Listed-flat_map_which' i h in
      Listed-filter p i (live_numbers s) (together s x w.0 i i (are.only w.0 w.1) (Listed-filter_parts p i w.0 w.2).0 (Listed-filter_parts p i w.0 w.2).0).0 (Listed-filter_parts p i w.0 w.2).1) in
      omega arith
    where
      Listed-flat_map_which' : (i : ℕ) → Listed i (flat_map (filter p) groups) → (g : List ℕ) × Listed g groups × Listed i (filter p g)
      Listed-flat_map_which' i h = Listed-flat_map_which (filter p) i groups h

  -- ---- no fewer are to be removed
  -- what stays of each group has one code
  IsSingle : List ℕ → Type 0
  IsSingle kept = (i j : ℕ) → Listed i kept → Listed j kept → i ≢ j → agree_on s x i j ≡ true → f i ≡ f j

  left_out : (kept g : List ℕ) → IsSingle kept → Listed g groups → cost g ≤ length (filter (λ i. not (keeps kept i)) g)
  unfolding IsSingle
  left_out kept g single l = by (cases_Bool (list_any (keeps kept) g))
    where
      by : ((list_any (keeps kept) g ≡ true) ⊎ (list_any (keeps kept) g ≡ false)) → cost g ≤ length (filter (λ i. not (keeps kept i)) g)
      by (inl e) =
          let w = list_any_which (keeps kept) g e in
          let a = passed-and-not (keeps kept) g in
          let b = fewer (keeps kept) (λ j. eqb (f j) (f w.0)) g (λ j h k. at w.0 j w.1 h w.2 k (cases_eq j w.0)) in
          let c = part-le f w.0 g w.1 in omega arith
        where
          at : (i j : ℕ) → Listed i g → Listed j g → keeps kept i ≡ true → keeps kept j ≡ true → (j ≡ i) ⊎ (j ≢ i) → eqb (f j) (f i) ≡ true
          at i j h k m n (inl d) = eq-eqb (f j) (f i) (ap f d)
          at i j h k m n (inr ne) = eq-eqb (f j) (f i) (single j i (keeps-listed kept j n) (keeps-listed kept i m) ne (together s x g j i (are.only g l) k h).2)
      by (inr e) =
          let a = passed-and-not (keeps kept) g in
          let b = fewer (keeps kept) (λ j. false) g (λ j h k. absurd (true≢false (sym (list_any_at (keeps kept) j g h k) ∙ e))) in
          let c = nothing g in omega arith
        where
          nothing : (h : List ℕ) → length (filter (λ (j : ℕ). false) h) ≡ 0
          nothing [] = refl
          nothing (j ∷ h) = nothing h

  no_fewer : (kept : List ℕ) → IsSublist kept (live_numbers s) → IsSingle kept → length kept + sum_by cost groups ≤ length (live_numbers s)
  no_fewer kept sub single =
      let a = sum-le cost (λ g. length (filter (λ i. not (keeps kept i)) g)) groups (λ g l. left_out kept g single l) in
      let b = sum-passed (λ i. not (keeps kept i)) in
      let c = passed-and-not (keeps kept) (live_numbers s) in
      let d : length kept ≡ length (filter (keeps kept) (live_numbers s)) = ap length (sublist-kept kept (live_numbers s) sub (Climbs-live s)) in
      omega arith

  -- ---- so many are enough
  -- a row of some group that has another code than its largest part
  outside : ℕ → List ℕ → Bool
  outside i g = list_any (λ j. eqb i j) g && not (eqb (f i) (best f g))

  stands_out : ℕ → Bool
  stands_out i = list_any (outside i) groups

  stayed : List ℕ
  stayed = filter (λ i. not (stands_out i)) (live_numbers s)

  stands_out-in : (i : ℕ) (g : List ℕ) → Listed g groups → Listed i g → stands_out i ≡ not (eqb (f i) (best f g))
  unfolding stands_out outside
  stands_out-in i g l h = same_test _ _
      (λ e. let w = list_any_which (outside i) groups e in
      let q = and_parts (list_any (λ j. eqb i j) w.0) (not (eqb (f i) (best f w.0))) w.2 in
      subst (λ (k : List ℕ). not (eqb (f i) (best f k)) ≡ true) (same_group w.0 g i w.1 l (keeps-listed w.0 i q.0) h) q.1)
      (λ e. list_any_at (outside i) g groups l (and_from (list_any (λ j. eqb i j) g) (not (eqb (f i) (best f g))) (listed-keeps g i h) e))

  out-of : (g : List ℕ) → Listed g groups → length (filter stands_out g) ≡ cost g
  out-of g l = by g l (group-parts g l).two
    where
      by : (h : List ℕ) → Listed h groups → 2 ≤ length h → length (filter stands_out h) ≡ cost h
      by [] m two = absurd (omega arith)
      by (i ∷ h) m two =
          let a = passed-and-not (λ j. eqb (f j) (best f (i ∷ h))) (i ∷ h) in
          let b = best-part f i h in
          let e : length (filter stands_out (i ∷ h)) ≡ length (filter (λ j. not (eqb (f j) (best f (i ∷ h)))) (i ∷ h)) = ap length (filter_same stands_out (λ j. not (eqb (f j) (best f (i ∷ h)))) (i ∷ h) (λ j k. stands_out-in j (i ∷ h) m k)) in
          omega arith

  stayed-sublist : IsSublist stayed (live_numbers s)
  unfolding stayed
  stayed-sublist = sublist-filter (λ i. not (stands_out i)) (live_numbers s)

  stayed-single : IsSingle stayed
  unfolding stayed IsSingle
  stayed-single i j h k ne e =
      let v = Listed-filter_parts (λ i. not (stands_out i)) i (live_numbers s) h in
      let w = Listed-filter_parts (λ i. not (stands_out i)) j (live_numbers s) k in
      let g = in_group s x i j v.0 w.0 ne e in
      let l = are.kept (group_of (agree_on s x) (live_numbers s) i) g.0 in
      of i (group_of (agree_on s x) (live_numbers s) i) l g.1 v.1 ∙ sym (of j (group_of (agree_on s x) (live_numbers s) i) l g.2 w.1)
    where
      of : (i : ℕ) (g : List ℕ) → Listed g groups → Listed i g → not (stands_out i) ≡ true → f i ≡ best f g
      of i g l h n = eqb-true (f i) (best f g) (at (eqb (f i) (best f g)) (sym (stands_out-in i g l h) ∙ not-true _ n))
        where
          at : (b : Bool) → not b ≡ false → b ≡ true
          at true m = refl
          at false m = absurd (true≢false m)

  out-all : length (filter stands_out (live_numbers s)) ≤ sum_by cost groups
  unfolding stands_out outside
  out-all =
      let e = length-flat_map (filter stands_out) groups in
      let l = Once-length (filter stands_out (live_numbers s)) (flat_map (filter stands_out) groups) (Once-filter stands_out (live_numbers s) (Climbs-Once (live_numbers s) (Climbs-live s))) (λ i h. at i (Listed-filter_parts stands_out i (live_numbers s) h).1) in
      let b = sum-le (λ g. length (filter stands_out g)) cost groups (λ g m. let c = out-of g m in omega arith) in
      omega arith
    where
      at : (i : ℕ) → stands_out i ≡ true → Listed i (flat_map (filter stands_out) groups)
      at i e =
          let w = list_any_which (outside i) groups e in
          let q = and_parts (list_any (λ j. eqb i j) w.0) (not (eqb (f i) (best f w.0))) w.2 in
          Listed-flat_map (filter stands_out) w.0 i groups w.1 (Listed-filter stands_out i w.0 (keeps-listed w.0 i q.0) e)

  enough : length (live_numbers s) ≤ length stayed + sum_by cost groups
  unfolding stayed
  enough = let a = passed-and-not stands_out (live_numbers s) in let b = out-all in omega arith

  -- where a test passes what has one code in each group, that sum is the least number of rows to be removed
  pub removed-sum : (passes : List ℕ → Bool) → passes [] ≡ true
      → ((kept : List ℕ) → IsSublist kept (live_numbers s) → passes kept ≡ true → (i j : ℕ) → Listed i kept → Listed j kept → i ≢ j → agree_on s x i j ≡ true → f i ≡ f j)
      → ((kept : List ℕ) → IsSublist kept (live_numbers s) → ((i j : ℕ) → Listed i kept → Listed j kept → i ≢ j → agree_on s x i j ≡ true → f i ≡ f j) → passes kept ≡ true)
      → least_removed passes (live_numbers s) ≡ sum_by cost groups
  unfolding IsSingle
  removed-sum passes none there back = Longest-alone passes (live_numbers s) (least_removed passes (live_numbers s)) (sum_by cost groups) (Longest-is passes (live_numbers s) none) (record {
    kept = stayed;
    sublist = stayed-sublist;
    count = let a = enough in let b = no_fewer stayed stayed-sublist stayed-single in omega arith;
    passed = back stayed stayed-sublist stayed-single;
    longest = λ other sub e. let a = enough in let b = no_fewer other sub (there other sub e) in omega arith;
  })
