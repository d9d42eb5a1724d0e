-- One more agree set: the sets that lie inside it give way to those that grow out of them.
use Rattle.std.proofs.Common.{inl, inr, ◌≡◌, ◌⊎◌, ℕ, ◌+◌, ◌^◌, ◌<◌, Bool, true, false, cond, not, ◌&&◌, eqb, refl, sym, ap, ◌∙◌, subst, arith, List, [], ◌∷◌, ◌++◌, map, length, get_or, take, zero, suc, append_assoc, append-nil, add-zero, zero-add, if◌then◌else◌, ap₂, IsPermutation}
use Rattle.std.specs.List.{list_any, flat_map, range_with_len}
use Rattle.std.proofs.lemmas.List.{take_more, map-append}
use Rattle.std.proofs.lemmas.List.Concat.{flat_map-append}
use Rattle.std.proofs.lemmas.List.Elements.{filter-append}
use Rattle.std.proofs.Math.Nat.{suc-add}
use Rattle.std.proofs.lemmas.Bool.{and_parts, and_from, true≢false, false≢true, not-true, not_from_false, or_cases, or_right, false_from_ne_true, eqb-true, eq-eqb, cases_Bool}
use Rattle.col_set.specs.declared.target.Target.{Target}
use Rattle.col_set.specs.ColSet.{IsSubset, has, with, minus, size, set_of, subset, upto}
use Rattle.col_set.specs.Target.{has_target}
use Rattle.col_set.specs.Evidence.{refuted}
use Rattle.col_set.specs.Members.{has-with, has-minus, has-empty, same_set}
use Rattle.col_set.specs.Subsets.{IsSubset-trans, IsSubset-antisymm, IsSubset-with, with_subset, has-with_itself, has_within, subset-true, true-subset, subset_below, same_test}
use Rattle.col_set.specs.AllSets.{Listed-upto, columns-set_of}
use Rattle.col_set.specs.Lists.{Listed, Listed-filter, Listed-filter_parts, Listed-map, Listed-map_which, Listed-flat_map, Listed-flat_map_which, Listed-append_left, Listed-append_right, Listed-append_cases, list_any_at, list_any_which}
use Rattle.col_set.proofs.Least.{stands_above}
use Rattle.col_set.proofs.Outside.{Outside, outside_of}
use Rattle.least_sets.specs.Growth.{IsLeastAmong, ListsLeast, one_outside, inside, outside, near, having, unblocked, grown_by, grown}
use Rattle.least_sets.proofs.Splitting.{lists_permuted}
use Rattle.least_sets.proofs.Evidence.{stands_before, stands_after, HasLeast, least_under}

-- ---- columns outside a set
-- a set with a column that z has not lies not inside z
pub not_inside : (x z k : ℕ) → has x k ≡ true → has z k ≡ false → subset x z ≡ false
not_inside x z k h e = false_from_ne_true _ (λ s. true≢false (sym ((subset-true s).each k h) ∙ e))

-- the set of one column
size-one : (k : ℕ) → size (with 0 k) ≡ 1
unfolding size set_of
size-one k = ap length (columns-set_of (k ∷ []) (k + 1) (omega arith, omega arith, tt))

-- within a set and one column outside z: exactly one column outside z
near_by : (m c z k : ℕ) → IsSubset m (with c k) → IsSubset c z → has m k ≡ true → has z k ≡ false → one_outside z m ≡ true
near_by m c z k s i h e = eq-eqb _ 1 (ap size only ∙ size-one k)
  where
    only : minus m z ≡ with 0 k
    only = same_set _ _ (λ j. has-minus m z j ∙ same_test (has m j && not (has z j)) (has (with 0 k) j)
        (λ g. let q = and_parts (has m j) _ g in has-with 0 k j ∙ or_right (has 0 j) (eqb j k) (it_is j q.0 (not-true _ q.1)))
        (λ g. at j (or_cases (has 0 j) (eqb j k) (sym (has-with 0 k j) ∙ g))))
      where
        it_is : (j : ℕ) → has m j ≡ true → has z j ≡ false → eqb j k ≡ true
        it_is j g f = elim (or_cases (has c j) (eqb j k) (sym (has-with c k j) ∙ s.each j g)) as (λ _. eqb j k ≡ true) [ inl d ↦ absurd (true≢false (sym (i.each j d) ∙ f)) | inr d ↦ d ]

        at : (j : ℕ) → (has 0 j ≡ true) ⊎ (eqb j k ≡ true) → (has m j && not (has z j)) ≡ true
        at j (inl d) = absurd (false≢true (sym (has-empty j) ∙ d))
        at j (inr d) = let same = eqb-true j k d in and_from _ _ (ap (has m) same ∙ h) (ap not (ap (has z) same ∙ e))

-- ---- what `grown` lists
pub record Grows (n u z : ℕ) (ins nears : List ℕ) (x : ℕ) : Type 0 where
  pub from : ℕ
  pub column : ℕ
  pub listed : Listed from ins
  pub choice : has u column ≡ true
  pub out : has z column ≡ false
  pub same : x ≡ with from column
  pub free : (y : ℕ) → Listed y nears → has y column ≡ true → IsSubset y x → ⊥

module _ (n u z : ℕ) (ins nears : List ℕ) where
  pub grown_parts : (x : ℕ) → Listed x (grown n u z ins nears) → Grows n u z ins nears x
  grown_parts x h =
      let w = Listed-flat_map_which (λ k. if has u k && not (has z k) then grown_by ins nears k else []) x (upto n) h in
      by w.0 (has u w.0 && not (has z w.0)) refl w.2
    where
      by : (k : ℕ) (b : Bool) → (has u k && not (has z k)) ≡ b → Listed x (if b then grown_by ins nears k else []) → Grows n u z ins nears x
      by k true e g =
          let q = Listed-filter_parts (λ x. not (list_any (λ y. subset y x) (having k nears))) x (map (λ c. with c k) ins) g in
          let v = Listed-map_which (λ c. with c k) x ins q.0 in
          let r = and_parts (has u k) (not (has z k)) e in
          record {
            from = v.0;
            column = k;
            listed = v.1;
            choice = r.0;
            out = not-true _ r.1;
            same = v.2;
            free = λ y l a s. true≢false (sym (list_any_at (λ y. subset y x) y (having k nears) (Listed-filter (λ x. has x k) y nears l a) (true-subset s)) ∙ not-true _ q.1);
          }
      by k false e g = absurd g

  pub grown_from : (x : ℕ) (g : Grows n u z ins nears x) → g.column < n → Listed x (grown n u z ins nears)
  grown_from x g l =
      Listed-flat_map (λ k. if has u k && not (has z k) then grown_by ins nears k else []) g.column x (upto n) (Listed-upto n g.column l)
      (subst (λ b. Listed x (if b then grown_by ins nears g.column else [])) (sym (and_from _ _ g.choice (not_from_false _ g.out)))
      (Listed-filter (λ x. not (list_any (λ y. subset y x) (having g.column nears))) x (map (λ c. with c g.column) ins)
      (subst (λ (y : ℕ). Listed y (map (λ c. with c g.column) ins)) (sym g.same) (Listed-map (λ c. with c g.column) g.from ins g.listed))
      (not_from_false _ (false_from_ne_true _ (λ e.
      let w = list_any_which (λ y. subset y x) (having g.column nears) e in
      let q = Listed-filter_parts (λ x. has x g.column) w.0 nears w.1 in
      g.free w.0 q.0 q.1 (subset-true w.2))))))

-- ---- the least sets after one more agree set
module _ (n u : ℕ) (ws : List ℕ) (t : Target) (z : ℕ) (few : u < 2 ^ n) (apart : has_target z t ≡ false) (old : List ℕ) (l : ListsLeast u ws t old) where
  abbrev pub after : List ℕ
  after = grown n u z (inside z old) (near z (outside z old))

  stays : (x : ℕ) → Listed x (outside z old) → IsLeastAmong u (ws ++ z ∷ []) t x
  stays x h =
      let q = Listed-filter_parts (λ x. not (subset x z)) x old h in
      let i = l.each x q.0 in
      record {
        within = i.within;
        stands = stands_after ws t z apart x i.stands (not-true _ q.1);
        smallest = λ y s g. i.smallest y s (stands_before ws t z apart y g).0;
      }

  -- a set that stands after z and lies inside a grown one is that one
  reaches : (x : ℕ) (g : Grows n u z (inside z old) (near z (outside z old)) x) (y : ℕ) → IsSubset y (with g.from g.column) → refuted (ws ++ z ∷ []) t y ≡ false → y ≡ with g.from g.column
  reaches x g y r e = by (cases_Bool (has m.set g.column))
    where
      q : Listed g.from old × (subset g.from z ≡ true)
      q = Listed-filter_parts (λ x. subset x z) g.from old g.listed

      i : IsLeastAmong u ws t g.from
      i = l.each g.from q.0

      s : IsSubset g.from z
      s = subset-true q.1

      b : (refuted ws t y ≡ false) × (subset y z ≡ false)
      b = stands_before ws t z apart y e

      low : IsSubset y u
      low = IsSubset-trans r (with_subset g.column i.within g.choice)

      m : HasLeast u ws t y
      m = least_under u ws t y low b.0

      by : (has m.set g.column ≡ true) ⊎ (has m.set g.column ≡ false) → y ≡ with g.from g.column
      by (inl h) = absurd (g.free m.set
          (Listed-filter (one_outside z) m.set (outside z old) (Listed-filter (λ x. not (subset x z)) m.set old (l.every m.set m.least) (ap not (not_inside m.set z g.column h g.out)))
          (near_by m.set g.from z g.column (IsSubset-trans m.inside r) s h g.out)) h (subst (IsSubset m.set) (sym g.same) (IsSubset-trans m.inside r)))
      by (inr h) = IsSubset-antisymm r (with_subset g.column above at)
        where
          inner : (k : ℕ) → has m.set k ≡ true → has g.from k ≡ true
          inner k d = elim (or_cases (has g.from k) (eqb k g.column) (sym (has-with g.from g.column k) ∙ r.each k (m.inside.each k d))) as (λ _. has g.from k ≡ true) [
            | inl f ↦ f
            | inr f ↦ absurd (true≢false (sym d ∙ ap (has m.set) (eqb-true k g.column f) ∙ h))
          ]

          above : IsSubset g.from y
          above = subst (λ (v : ℕ). IsSubset v y) (i.smallest m.set (record { each = inner }) m.least.stands) m.inside

          o : Outside y z
          o = outside_of n y z (subset_below n low few) b.1

          at : has y g.column ≡ true
          at = elim (or_cases (has g.from o.column) (eqb o.column g.column) (sym (has-with g.from g.column o.column) ∙ r.each o.column o.inside)) as (λ _. has y g.column ≡ true) [
            | inl f ↦ absurd (true≢false (sym (s.each o.column f) ∙ o.out))
            | inr f ↦ ap (has y) (sym (eqb-true o.column g.column f)) ∙ o.inside
          ]

  grows : (x : ℕ) → Grows n u z (inside z old) (near z (outside z old)) x → IsLeastAmong u (ws ++ z ∷ []) t x
  grows x g =
      let q = Listed-filter_parts (λ x. subset x z) g.from old g.listed in
      let i = l.each g.from q.0 in
      let s = subset-true q.1 in
      subst (IsLeastAmong u (ws ++ z ∷ []) t) (sym g.same) (record {
        within = with_subset g.column i.within g.choice;
        stands = stands_after ws t z apart (with g.from g.column) (stands_above ws t (IsSubset-with g.from g.column) i.stands) (not_inside (with g.from g.column) z g.column (has-with_itself g.from g.column) g.out);
        smallest = λ y r e. reaches x g y r e;
      })

  pub each_after : (x : ℕ) → Listed x (outside z old) ⊎ Listed x after → IsLeastAmong u (ws ++ z ∷ []) t x
  each_after x (inl h) = stays x h
  each_after x (inr h) = grows x (grown_parts n u z (inside z old) (near z (outside z old)) x h)

  pub every_after : (x : ℕ) → IsLeastAmong u (ws ++ z ∷ []) t x → Listed x (outside z old) ⊎ Listed x after
  every_after x i = by (subset m.set z) refl
    where
      b : (refuted ws t x ≡ false) × (subset x z ≡ false)
      b = stands_before ws t z apart x i.stands

      m : HasLeast u ws t x
      m = least_under u ws t x i.within b.0

      by : (c : Bool) → subset m.set z ≡ c → Listed x (outside z old) ⊎ Listed x after
      by false e = inl (subst (λ (v : ℕ). Listed v (outside z old)) (i.smallest m.set m.inside (stands_after ws t z apart m.set m.least.stands e))
          (Listed-filter (λ x. not (subset x z)) m.set old (l.every m.set m.least) (ap not e)))
      by true e = inr (grown_from n u z (inside z old) (near z (outside z old)) x g (has_within u n o.column few g.choice))
        where
          o : Outside x z
          o = outside_of n x z (subset_below n i.within few) b.1

          same : with m.set o.column ≡ x
          same = i.smallest (with m.set o.column) (with_subset o.column m.inside o.inside)
              (stands_after ws t z apart (with m.set o.column) (stands_above ws t (IsSubset-with m.set o.column) m.least.stands) (not_inside (with m.set o.column) z o.column (has-with_itself m.set o.column) o.out))

          free : (y : ℕ) → Listed y (near z (outside z old)) → has y o.column ≡ true → IsSubset y x → ⊥
          free y h a s =
              let p = Listed-filter_parts (one_outside z) y (outside z old) h in
              let q = Listed-filter_parts (λ x. not (subset x z)) y old p.0 in
              let j = l.each y q.0 in
              let out = not-true _ q.1 in
              let top : y ≡ x = i.smallest y s (stands_after ws t z apart y j.stands out) in
              let low : m.set ≡ y = j.smallest m.set (subst (IsSubset m.set) (sym top) m.inside) m.least.stands in
              true≢false (sym (ap (λ v. subset v z) (sym low) ∙ e) ∙ out)

          g : Grows n u z (inside z old) (near z (outside z old)) x
          g = record {
            from = m.set;
            column = o.column;
            listed = Listed-filter (λ x. subset x z) m.set old (l.every m.set m.least) e;
            choice = i.within.each o.column o.inside;
            out = o.out;
            same = sym same;
            free = free;
          }

  -- the sets that do not lie inside z, and those that grow out of the others
  pub lists_after : ListsLeast u (ws ++ z ∷ []) t (outside z old ++ after)
  lists_after = record {
    each = λ x h. each_after x (Listed-append_cases x (outside z old) after h);
    every = λ x i. elim (every_after x i) as (λ _. Listed x (outside z old ++ after)) [ inl h ↦ Listed-append_left x (outside z old) after h | inr h ↦ Listed-append_right x (outside z old) after h ];
  }

-- where no set lies inside z, nothing changes
pub lists_untouched : (u : ℕ) (ws : List ℕ) (t : Target) (z : ℕ) → has_target z t ≡ false → (xs : List ℕ) → list_any (λ x. subset x z) xs ≡ false → ListsLeast u ws t xs → ListsLeast u (ws ++ z ∷ []) t xs
lists_untouched u ws t z apart xs none l = record {
  each = λ x h. let i = l.each x h in record {
    within = i.within;
    stands = stands_after ws t z apart x i.stands (out x h);
    smallest = λ y s g. i.smallest y s (stands_before ws t z apart y g).0;
  };
  every = λ x i.
      let m = least_under u ws t x i.within (stands_before ws t z apart x i.stands).0 in
      let h = l.every m.set m.least in
      let same : m.set ≡ x = i.smallest m.set m.inside (stands_after ws t z apart m.set m.least.stands (out m.set h)) in
      subst (λ (v : ℕ). Listed v xs) same h;
}
  where
    out : (x : ℕ) → Listed x xs → subset x z ≡ false
    out x h = false_from_ne_true _ (λ e. true≢false (sym (list_any_at (λ x. subset x z) x xs h e) ∙ none))

-- the same where the list was read in another order, those inside z first
module _ (u : ℕ) (ws : List ℕ) (t : Target) (z : ℕ) (apart : has_target z t ≡ false) (old inner rest : List ℕ) (p : IsPermutation old (inner ++ rest)) (out : rest ≡ outside z (inner ++ rest)) (l : ListsLeast u ws t old) where
  pub lists_after_split : (n : ℕ) → u < 2 ^ n → (nears : List ℕ) → inner ≡ inside z (inner ++ rest) → nears ≡ near z rest → ListsLeast u (ws ++ z ∷ []) t (rest ++ grown n u z inner nears)
  lists_after_split n few nears ins is =
      subst (ListsLeast u (ws ++ z ∷ []) t) (ap₂ (λ (xs ys : List ℕ). xs ++ ys) (sym out) (ap₂ (grown n u z) (sym ins) (ap (near z) (sym out) ∙ sym is)))
      (lists_after n u ws t z few apart (inner ++ rest) (lists_permuted u ws t old (inner ++ rest) p l))

  pub lists_untouched_split : inner ≡ [] → ListsLeast u (ws ++ z ∷ []) t rest
  lists_untouched_split none = lists_untouched u ws t z apart rest outer (lists_permuted u ws t old rest (subst (λ (xs : List ℕ). IsPermutation old (xs ++ rest)) none p) l)
    where
      outer : list_any (λ x. subset x z) rest ≡ false
      outer = false_from_ne_true _ (λ e.
          let w = list_any_which (λ x. subset x z) rest e in
          true≢false (sym w.2 ∙ not-true _ (Listed-filter_parts (λ x. not (subset x z)) w.0 (inner ++ rest) (subst (Listed w.0) out w.1)).1))

-- ---- the loops
pub unblocked_more : (blockers : List ℕ) (k : ℕ) (ins : List ℕ) (i c x : ℕ) → i < length ins → c ≡ get_or ins i c → x ≡ with c k → list_any (λ y. subset y x) blockers ≡ false
    → (old new : List ℕ) → new ≡ old ++ unblocked blockers (map (λ c. with c k) (take i ins)) → new ++ x ∷ [] ≡ old ++ unblocked blockers (map (λ c. with c k) (take (i + 1) ins))
unblocked_more blockers k ins i c x l is made free old new e =
    ap (λ xs. xs ++ x ∷ []) e ∙ append_assoc old (unblocked blockers (map (λ c. with c k) (take i ins))) (x ∷ [])
    ∙ ap (λ xs. old ++ xs) (sym (ap (λ cs. unblocked blockers (map (λ c. with c k) cs)) (take_more ins i c l ∙ ap (λ (d : ℕ). take i ins ++ d ∷ []) (sym is))
    ∙ ap (unblocked blockers) (map-append (λ c. with c k) (take i ins) (c ∷ []) ∙ ap (λ (y : ℕ). map (λ c. with c k) (take i ins) ++ y ∷ []) (sym made))
    ∙ filter-append (λ x. not (list_any (λ y. subset y x) blockers)) (map (λ c. with c k) (take i ins)) (x ∷ [])
    ∙ ap (λ b. unblocked blockers (map (λ c. with c k) (take i ins)) ++ cond (not b) (x ∷ []) []) free))

pub unblocked_same : (blockers : List ℕ) (k : ℕ) (ins : List ℕ) (i c x : ℕ) → i < length ins → c ≡ get_or ins i c → x ≡ with c k → list_any (λ y. subset y x) blockers ≡ true
    → (old new : List ℕ) → new ≡ old ++ unblocked blockers (map (λ c. with c k) (take i ins)) → new ≡ old ++ unblocked blockers (map (λ c. with c k) (take (i + 1) ins))
unblocked_same blockers k ins i c x l is made free old new e =
    e ∙ ap (λ xs. old ++ xs) (sym (ap (λ cs. unblocked blockers (map (λ c. with c k) cs)) (take_more ins i c l ∙ ap (λ (d : ℕ). take i ins ++ d ∷ []) (sym is))
    ∙ ap (unblocked blockers) (map-append (λ c. with c k) (take i ins) (c ∷ []) ∙ ap (λ (y : ℕ). map (λ c. with c k) (take i ins) ++ y ∷ []) (sym made))
    ∙ filter-append (λ x. not (list_any (λ y. subset y x) blockers)) (map (λ c. with c k) (take i ins)) (x ∷ [])
    ∙ ap (λ b. unblocked blockers (map (λ c. with c k) (take i ins)) ++ cond (not b) (x ∷ []) []) free ∙ append-nil _))

pub upto_more : (n a : ℕ) → range_with_len a (n + 1) ≡ range_with_len a n ++ (a + n) ∷ []
upto_more zero a = ap (λ (i : ℕ). i ∷ []) (sym (add-zero a))
upto_more (suc n) a = ap (range_with_len a) (suc-add n 1) ∙ ap (λ is. a ∷ is) (upto_more n (a + 1)) ∙ ap (λ (i : ℕ). (a ∷ range_with_len (a + 1) n) ++ i ∷ []) (let e : a + 1 + n ≡ a + suc n = omega arith in e)

pub grown_more : (n u z : ℕ) (ins nears : List ℕ) → grown (n + 1) u z ins nears ≡ grown n u z ins nears ++ (if has u n && not (has z n) then grown_by ins nears n else [])
grown_more n u z ins nears =
    ap (flat_map (λ k. if has u k && not (has z k) then grown_by ins nears k else [])) (upto_more n 0 ∙ ap (λ (i : ℕ). upto n ++ i ∷ []) (zero-add n))
    ∙ flat_map-append (λ k. if has u k && not (has z k) then grown_by ins nears k else []) (upto n) (n ∷ []) ∙ ap (λ ys. grown n u z ins nears ++ ys) (append-nil _)

pub grown_push : (n u z : ℕ) (ins nears old made new : List ℕ) → (has u n && not (has z n)) ≡ true → made ≡ old ++ grown n u z ins nears → new ≡ made ++ grown_by ins nears n → new ≡ old ++ grown (n + 1) u z ins nears
grown_push n u z ins nears old made new b e f =
    f ∙ ap (λ xs. xs ++ grown_by ins nears n) e ∙ append_assoc old (grown n u z ins nears) (grown_by ins nears n)
    ∙ ap (λ xs. old ++ xs) (sym (grown_more n u z ins nears ∙ ap (λ c. grown n u z ins nears ++ (if c then grown_by ins nears n else [])) b))

pub grown_skip : (n u z : ℕ) (ins nears old made : List ℕ) → (has u n && not (has z n)) ≡ false → made ≡ old ++ grown n u z ins nears → made ≡ old ++ grown (n + 1) u z ins nears
grown_skip n u z ins nears old made b e =
    e ∙ ap (λ xs. old ++ xs) (sym (grown_more n u z ins nears ∙ ap (λ c. grown n u z ins nears ++ (if c then grown_by ins nears n else [])) b ∙ append-nil _))
