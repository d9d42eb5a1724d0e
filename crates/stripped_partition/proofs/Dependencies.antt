-- What a stripped partition says of dependencies.
use Rattle.std.proofs.Common.{inl, inr, ◌≡◌, ◌≢◌, ◌⊎◌, ℕ, zero, suc, ◌<◌, ◌≤◌, Bool, true, false, cond, ◌&&◌, eqb, ltb, refl, sym, ap, ◌∙◌, subst, arith, List, [], ◌∷◌, length, get_or, Option, Some, None, option_map, find}
use Rattle.std.specs.List.{filter, flat_map, concat, count_by, AllPairs}
use Rattle.std.specs.List.Sorted.{IsStrictlyIncreasing}
use Rattle.std.proofs.lemmas.Bool.{true≢false, false≢true, eqb-true, eqb-false, ltb-true, lt-ltb, cases_order, cases_Bool, and_parts, and_from, not-true, not-false, false_from_ne_true}
use Rattle.std.proofs.lemmas.List.Concat.{concat_is}
use Rattle.std.proofs.lemmas.List.Sums.{length-filter}
use Rattle.col_set.specs.declared.target.Target.{Target}
use Rattle.col_set.specs.declared.target.Target.TheVariants.{Col, RowId}
use Rattle.col_set.specs.ColSet.{with, IsSubset}
use Rattle.col_set.specs.Target.{has_target}
use Rattle.col_set.specs.Lists.{Listed, Listed-filter, Listed-filter_parts, Listed-map, Listed-map_which, Listed-flat_map_which, filter_same, list_any_at, list_any_which}
use Rattle.col_set.specs.Subsets.{same_test}
use Rattle.col_set.proofs.Places.{Climbs, Contains-listed, Listed-contained, Listed-get_or}
use Rattle.rel_base.specs.CodeTable.{CodeTable, code_at}
use Rattle.rel_base.specs.Validity.{pairs}
use Rattle.rel_base.specs.Shows.{code_agree, live_numbers, code_agree_sets, holds_in}
use Rattle.rel_base.proofs.Agree.{PairOf-pairs, Listed-rising}
use Rattle.rel_base.proofs.States.{All-from, increasing-Climbs}
use Rattle.rel_base.proofs.Valid.{determined-at, determined-from}
use Rattle.stripped_partition.specs.Stripped.{group_of, agree_on, stripped, error_of}
use Rattle.stripped_partition.specs.SplitBy.{least, differ, is_split, split_pair, split_by}
use Rattle.stripped_partition.specs.Order.{Ahead}
use Rattle.stripped_partition.specs.AnyOrder.{AreGroupsBy}
use Rattle.stripped_partition.specs.Laws.{RowsStandOnce}
use Rattle.stripped_partition.proofs.Grouped.{two_of, IsSame, GroupOf, Ahead-Apart, Listed-grouped_parts, Listed-grouped, Ahead-grouped}
use Rattle.stripped_partition.proofs.Firsts.{Once, Once-filter}
use Rattle.stripped_partition.proofs.Agreeing.{code_agree-parts, code_agree-from, agree_on-subset, subset-agree_on, agree_same, agree_on-with_parts, agree_on-with}
use Rattle.stripped_partition.proofs.Errors.{Climbs-Once, Once-length, filter_same_length, follows, group_climbs, Once-each, error_of-grouped}
use Rattle.stripped_partition.proofs.Live.{Climbs-live}

apart : (i j : ℕ) → i < j → i ≡ j → ⊥
apart i j l e = omega arith

module _ (s : CodeTable) (x : ℕ) where
  -- ---- pairs of live rows
  pub held : (t : Target) (i j : ℕ) → holds_in s x t ≡ true → Listed i (live_numbers s) → Listed j (live_numbers s) → i < j → agree_on s x i j ≡ true → has_target (code_agree s i j) t ≡ true
  unfolding holds_in code_agree_sets
  held t i j e h g l f =
      determined-at (code_agree_sets s) x t (code_agree s i j) e
      (Listed-map (λ (p : ℕ × ℕ). code_agree s p.0 p.1) (i, j) (pairs (live_numbers s)) (Listed-rising i j (live_numbers s) (Climbs-live s) h g l)) (agree_on-subset s x i j f)

  pub held_from : (t : Target) → ((i j : ℕ) → Listed i (live_numbers s) → Listed j (live_numbers s) → i < j → IsSubset x (code_agree s i j) → has_target (code_agree s i j) t ≡ true) → holds_in s x t ≡ true
  unfolding holds_in code_agree_sets
  held_from t f = determined-from (code_agree_sets s) x t (λ w h sub.
      let v = Listed-map_which (λ (p : ℕ × ℕ). code_agree s p.0 p.1) w (pairs (live_numbers s)) h in
      let q = PairOf-pairs (live_numbers s) v.0 (Climbs-live s) v.1 in
      ap (λ (z : ℕ). has_target z t) v.2 ∙ f v.0.0 v.0.1 q.first q.second q.rising (subst (IsSubset x) v.2 sub))

  -- two live rows that agree stand in a group
  pub in_group : (i j : ℕ) → Listed i (live_numbers s) → Listed j (live_numbers s) → i ≢ j → agree_on s x i j ≡ true
      → Listed (group_of (agree_on s x) (live_numbers s) i) (stripped s x) × Listed i (group_of (agree_on s x) (live_numbers s) i) × Listed j (group_of (agree_on s x) (live_numbers s) i)
  unfolding stripped
  in_group i j h g ne f =
      let is = agree_same s x in
      let mine : Listed i (group_of (agree_on s x) (live_numbers s) i) = Listed-filter (agree_on s x i) i (live_numbers s) h (is.trans i j i f (is.symm i j f)) in
      let its : Listed j (group_of (agree_on s x) (live_numbers s) i) = Listed-filter (agree_on s x i) j (live_numbers s) g f in
      (Listed-grouped (agree_on s x) is (live_numbers s) i h (two_of (group_of (agree_on s x) (live_numbers s) i) i j mine its ne), mine, its)

  pub stripped-parts : (g : List ℕ) → Listed g (stripped s x) → GroupOf (agree_on s x) (live_numbers s) g
  unfolding stripped
  stripped-parts g h = Listed-grouped_parts (agree_on s x) (agree_same s x) (live_numbers s) g h

  pub Ahead-stripped : Ahead (stripped s x)
  unfolding stripped
  Ahead-stripped = Ahead-grouped (agree_on s x) (agree_same s x) (live_numbers s) (Climbs-live s)

  -- two rows of a group are live and agree
  pub together : (g : List ℕ) (i j : ℕ) → Listed g (stripped s x) → Listed i g → Listed j g → Listed i (live_numbers s) × Listed j (live_numbers s) × (agree_on s x i j ≡ true)
  together g i j h l m =
      let is = agree_same s x in
      let of = stripped-parts g h in
      let v = Listed-filter_parts (agree_on s x of.row) i (live_numbers s) (subst (Listed i) of.is l) in
      let w = Listed-filter_parts (agree_on s x of.row) j (live_numbers s) (subst (Listed j) of.is m) in
      (v.0, w.0, is.trans i of.row j (is.symm of.row i v.1) w.1)

  pub group_ascends : (g : List ℕ) → Listed g (stripped s x) → Climbs g
  group_ascends g h = group_climbs (agree_on s x) (agree_same s x) (live_numbers s) (Climbs-live s) g (stripped-parts g h)

  -- ---- unique sets
  unique_none : holds_in s x RowId ≡ true → (gs : List (List ℕ)) → ((g : List ℕ) → Listed g gs → Listed g (stripped s x)) → gs ≡ []
  unfolding has_target
  unique_none e [] f = refl
  unique_none e (g ∷ gs) f = absurd (by g (stripped-parts g (f g (inl refl))).two (f g (inl refl)) (group_ascends g (f g (inl refl))))
    where
      by : (g : List ℕ) → 2 ≤ length g → Listed g (stripped s x) → Climbs g → ⊥
      by [] two l c = omega arith
      by (i ∷ []) two l c = omega arith
      by (i ∷ j ∷ g) two l c =
          let w = together (i ∷ j ∷ g) i j l (inl refl) (inr (inl refl)) in
          false≢true (held RowId i j e w.0 w.1 (c.0 j (inl refl)) w.2)

  pub no_groups-unique : holds_in s x RowId ≡ true → stripped s x ≡ []
  no_groups-unique e = unique_none e (stripped s x) (λ g l. l)

  pub unique-no_groups : stripped s x ≡ [] → holds_in s x RowId ≡ true
  unfolding agree_on
  unique-no_groups e = held_from RowId (λ i j h g l sub. absurd (subst (Listed (group_of (agree_on s x) (live_numbers s) i)) e (in_group i j h g (apart i j l) (subset-agree_on s x i j sub)).0))

  -- ---- one more column
  module _ (a : ℕ) where
    more-less : (i j : ℕ) → agree_on s (with x a) i j ≡ true → agree_on s x i j ≡ true
    more-less i j e = (agree_on-with_parts s x a i j e).0

    followed : (j : ℕ) → follows (agree_on s (with x a)) (live_numbers s) j ≡ true → follows (agree_on s x) (live_numbers s) j ≡ true
    followed j e =
        let w = list_any_which (λ i. ltb i j && agree_on s (with x a) i j) (live_numbers s) e in
        let p = and_parts (ltb w.0 j) (agree_on s (with x a) w.0 j) w.2 in
        list_any_at (λ i. ltb i j && agree_on s x i j) w.0 (live_numbers s) w.1 (and_from (ltb w.0 j) (agree_on s x w.0 j) p.0 (more-less w.0 j p.1))

    -- where the column is determined, the same rows follow
    follows_more : holds_in s x (Col a) ≡ true → (j : ℕ) → Listed j (live_numbers s) → follows (agree_on s x) (live_numbers s) j ≡ true → follows (agree_on s (with x a)) (live_numbers s) j ≡ true
    unfolding has_target
    follows_more e j h f =
        let w = list_any_which (λ i. ltb i j && agree_on s x i j) (live_numbers s) f in
        let p = and_parts (ltb w.0 j) (agree_on s x w.0 j) w.2 in
        list_any_at (λ i. ltb i j && agree_on s (with x a) i j) w.0 (live_numbers s) w.1
        (and_from (ltb w.0 j) (agree_on s (with x a) w.0 j) p.0 (agree_on-with s x a w.0 j p.1 (held (Col a) w.0 j e w.1 h (ltb-true w.0 j p.0) p.1)))

    -- where the same rows follow, rows that agree on X agree on the column, by the greater row
    all_more : ((j : ℕ) → Listed j (live_numbers s) → follows (agree_on s x) (live_numbers s) j ≡ true → follows (agree_on s (with x a)) (live_numbers s) j ≡ true)
        → (n j : ℕ) → j < n → Listed j (live_numbers s) → (i : ℕ) → Listed i (live_numbers s) → i < j → agree_on s x i j ≡ true → agree_on s (with x a) i j ≡ true
    all_more same zero j l h i g m e = absurd (omega arith)
    all_more same (suc n) j l h i g m e =
        let f = same j h (list_any_at (λ i. ltb i j && agree_on s x i j) i (live_numbers s) g (and_from (ltb i j) (agree_on s x i j) (lt-ltb i j m) e)) in
        let w = list_any_which (λ i. ltb i j && agree_on s (with x a) i j) (live_numbers s) f in
        let p = and_parts (ltb w.0 j) (agree_on s (with x a) w.0 j) w.2 in
        let k = ltb-true w.0 j p.0 in
        by w.0 w.1 k p.1 (cases_order i w.0) (λ b. all_more same n w.0 (omega arith) w.1 i g b) (λ b. all_more same n i (omega arith) g w.0 w.1 b)
      where
        is : IsSame (agree_on s x)
        is = agree_same s x

        more : IsSame (agree_on s (with x a))
        more = agree_same s (with x a)

        by : (k : ℕ) → Listed k (live_numbers s) → k < j → agree_on s (with x a) k j ≡ true → (i ≡ k) ⊎ ((i < k) ⊎ (k < i))
            → (i < k → agree_on s x i k ≡ true → agree_on s (with x a) i k ≡ true) → (k < i → agree_on s x k i ≡ true → agree_on s (with x a) k i ≡ true) → agree_on s (with x a) i j ≡ true
        by k v b d (inl c) before after = subst (λ (z : ℕ). agree_on s (with x a) z j ≡ true) (sym c) d
        by k v b d (inr (inl c)) before after = more.trans i k j (before c (is.trans i j k e (is.symm k j (more-less k j d)))) d
        by k v b d (inr (inr c)) before after = more.trans i k j (more.symm k i (after c (is.trans k j i (more-less k j d) (is.symm i j e)))) d

    pub errors-held : holds_in s x (Col a) ≡ true → error_of (stripped s x) ≡ error_of (stripped s (with x a))
    unfolding stripped
    errors-held e =
        error_of-grouped (agree_on s x) (agree_same s x) (live_numbers s) (Climbs-live s)
        ∙ ap length (filter_same (follows (agree_on s x) (live_numbers s)) (follows (agree_on s (with x a)) (live_numbers s)) (live_numbers s) (λ j h. same_test _ _ (follows_more e j h) (followed j)))
        ∙ sym (error_of-grouped (agree_on s (with x a)) (agree_same s (with x a)) (live_numbers s) (Climbs-live s))

    pub held-errors : error_of (stripped s x) ≡ error_of (stripped s (with x a)) → holds_in s x (Col a) ≡ true
    unfolding stripped has_target
    held-errors e =
        let lengths = sym (error_of-grouped (agree_on s (with x a)) (agree_same s (with x a)) (live_numbers s) (Climbs-live s)) ∙ sym e ∙ error_of-grouped (agree_on s x) (agree_same s x) (live_numbers s) (Climbs-live s) in
        let same = filter_same_length (follows (agree_on s x) (live_numbers s)) (follows (agree_on s (with x a)) (live_numbers s)) (live_numbers s) (λ j h. followed j) lengths in
        held_from (Col a) (λ i j h g l sub. (agree_on-with_parts s x a i j (all_more same (suc j) j (omega arith) g i h l (subset-agree_on s x i j sub))).1)

    -- ---- the column splits no group
    none_split : (gs : List (List ℕ)) → find (is_split s a) gs ≡ None → (g : List ℕ) → Listed g gs → is_split s a g ≡ false
    none_split [] e g h = absurd h
    none_split (h ∷ gs) e g l = by (is_split s a h) refl e (λ d m. none_split gs d g m) l
      where
        by : (b : Bool) → is_split s a h ≡ b → (let o : Option (List ℕ) = cond b (Some h) (find (is_split s a) gs) in o ≡ None) → (find (is_split s a) gs ≡ None → Listed g gs → is_split s a g ≡ false) → (g ≡ h) ⊎ Listed g gs → is_split s a g ≡ false
        by true i d rest m = absurd (cc)
        by false i d rest (inl c) = ap (is_split s a) c ∙ i
        by false i d rest (inr m) = rest d m

    split_none : (gs : List (List ℕ)) → ((g : List ℕ) → Listed g gs → is_split s a g ≡ false) → find (is_split s a) gs ≡ None
    split_none [] f = refl
    split_none (g ∷ gs) f = ap (λ b. let o : Option (List ℕ) = cond b (Some g) (find (is_split s a) gs) in o) (f g (inl refl)) ∙ split_none gs (λ h l. f h (inr l))

    mapped_none : (o : Option (List ℕ)) → option_map (split_pair s a) o ≡ None → o ≡ None
    mapped_none None e = refl
    mapped_none (Some g) e = absurd (cc)

    -- the rows of a group that is not split have equal codes
    equal_codes : (g : List ℕ) → is_split s a g ≡ false → (i : ℕ) → Listed i g → code_at s (least g) a ≡ code_at s i a
    equal_codes g e i h = by (cases_Bool (differ s a (least g) i))
      where
        by : (differ s a (least g) i ≡ true) ⊎ (differ s a (least g) i ≡ false) → code_at s (least g) a ≡ code_at s i a
        by (inl t) = absurd (true≢false (sym (list_any_at (differ s a (least g)) i g h t) ∙ e))
        by (inr f) = eqb-true (code_at s (least g) a) (code_at s i a) (not-false (eqb (code_at s (least g) a) (code_at s i a)) f)

    not_split : (g : List ℕ) → ((i : ℕ) → Listed i g → code_at s (least g) a ≡ code_at s i a) → is_split s a g ≡ false
    not_split g f = false_from_ne_true (is_split s a g) (λ e. let w = list_any_which (differ s a (least g)) g e in
        eqb-false (code_at s (least g) a) (code_at s w.0 a) (not-true (eqb (code_at s (least g) a) (code_at s w.0 a)) w.2) (f w.0 w.1))

    pub split_by-none : (gs : List (List ℕ)) → split_by s a gs ≡ None → (g : List ℕ) → Listed g gs → (i : ℕ) → Listed i g → code_at s (least g) a ≡ code_at s i a
    unfolding split_by
    split_by-none gs e g h = equal_codes g (none_split gs (mapped_none (find (is_split s a) gs) e) g h)

    pub none-split_by : (gs : List (List ℕ)) → ((g : List ℕ) → Listed g gs → (i : ℕ) → Listed i g → code_at s (least g) a ≡ code_at s i a) → split_by s a gs ≡ None
    unfolding split_by
    none-split_by gs f = ap (option_map (split_pair s a)) (split_none gs (λ g h. not_split g (f g h)))

    pub held-split : a < length s.codes → split_by s a (stripped s x) ≡ None → holds_in s x (Col a) ≡ true
    unfolding has_target
    held-split l e = held_from (Col a) (λ i j h g m sub.
        let w = in_group i j h g (apart i j m) (subset-agree_on s x i j sub) in
        let same = split_by-none (stripped s x) e (group_of (agree_on s x) (live_numbers s) i) w.0 in
        code_agree-from s i j a l (sym (same i w.1) ∙ same j w.2))

    pub split-held : holds_in s x (Col a) ≡ true → split_by s a (stripped s x) ≡ None
    unfolding has_target
    split-held e = none-split_by (stripped s x) (λ g h i l. same g h i l (stripped-parts g h).two (group_ascends g h))
      where
        same : (g : List ℕ) → Listed g (stripped s x) → (i : ℕ) → Listed i g → 2 ≤ length g → Climbs g → code_at s (least g) a ≡ code_at s i a
        same [] h i l two c = absurd l
        same (k ∷ g) h i (inl d) two c = ap (λ (z : ℕ). code_at s z a) (sym d)
        same (k ∷ g) h i (inr l) two c =
            let w = together (k ∷ g) k i h (inl refl) (inr l) in
            (code_agree-parts s k i a (held (Col a) k i e w.0 w.1 (c.0 i l) w.2)).1

  pub stripped_itself : AreGroupsBy s x (stripped s x)
  stripped_itself = record { kept = λ g h. h; only = λ g h. h; apart = Ahead-Apart (stripped s x) Ahead-stripped }

  -- ---- the rows of all groups, in whatever order these stand
  module _ (groups : List (List ℕ)) (are : AreGroupsBy s x groups) where
    Once-rows : Once (flat_map (λ (g : List ℕ). g) groups)
    Once-rows = Once-each (agree_on s x) (agree_same s x) (live_numbers s) (Climbs-live s) (λ g. g) groups (λ g i l. l)
        (λ g of. Climbs-Once g (group_climbs (agree_on s x) (agree_same s x) (live_numbers s) (Climbs-live s) g of)) (λ g h. stripped-parts g (are.only g h)) are.apart

    pub rows-live : (i : ℕ) → Listed i (concat groups) → Listed i (live_numbers s)
    rows-live i h =
        let w = Listed-flat_map_which (λ (g : List ℕ). g) i groups (subst (Listed i) (concat_is groups) h) in
        let of = stripped-parts w.0 (are.only w.0 w.1) in
        (Listed-filter_parts (agree_on s x of.row) i (live_numbers s) (subst (Listed i) of.is w.2)).0

    few_rows : (p : ℕ → Bool) → length (filter p (concat groups)) ≤ length (filter p (live_numbers s))
    few_rows p = Once-length (filter p (concat groups)) (filter p (live_numbers s)) (Once-filter p (concat groups) (subst Once (sym (concat_is groups)) Once-rows))
        (λ i h. let w = Listed-filter_parts p i (concat groups) h in Listed-filter p i (live_numbers s) (rows-live i w.0) w.1)

    pub rows_once : (p : ℕ → Bool) → count_by p (concat groups) ≤ count_by p (live_numbers s)
    rows_once p = let a = length-filter p (concat groups) in let b = length-filter p (live_numbers s) in let l = few_rows p in omega arith

  pub RowsStandOnce-stripped : RowsStandOnce s x
  RowsStandOnce-stripped = record {
    two = All-from (λ (g : List ℕ). 2 ≤ length g) (stripped s x) (λ g h. (stripped-parts g h).two);
    ascending = All-from IsStrictlyIncreasing (stripped s x) (λ g h. increasing-Climbs g (group_ascends g h));
    in_order = pairs_ahead (stripped s x) Ahead-stripped;
    live = λ i h. Contains-listed i (live_numbers s) (rows-live (stripped s x) stripped_itself i (Listed-contained i (concat (stripped s x)) h));
    once = rows_once (stripped s x) stripped_itself;
  }
    where
      pairs_ahead : (gs : List (List ℕ)) → Ahead gs → AllPairs (λ g h. least g < least h) gs
      pairs_ahead [] a i j d l m = absurd (omega arith)
      pairs_ahead (g ∷ gs) a zero zero d l m = absurd (omega arith)
      pairs_ahead (g ∷ gs) a zero (suc j) d l m = a.0 (get_or gs j d) (Listed-get_or gs j d (omega arith))
      pairs_ahead (g ∷ gs) a (suc i) zero d l m = absurd (omega arith)
      pairs_ahead (g ∷ gs) a (suc i) (suc j) d l m = pairs_ahead gs a.1 i j d (omega arith) (omega arith)
