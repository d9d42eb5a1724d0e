-- A list of column sets, split in place by how they lie to a set.
use Rattle.std.proofs.Common.{◌≡◌, ℕ, ◌+◌, ◌<◌, ◌≤◌, Bool, true, false, cond, not, eqb, sym, ap, ◌∙◌, subst, arith, List, [], ◌∷◌, ◌++◌, ◌-◌, length, get_or, set, take, drop, append_assoc, length-append, length-drop, IsPermutation, ap₂}
use Rattle.std.specs.List.{filter, swap_remove}
use Rattle.std.proofs.lemmas.Bool.{true≢false, and_parts, and_from, not-true, not_from_false, false_from_ne_true, true_from_ne_false, eqb-true, eq-eqb, ne_eqb}
use borrow.Rule.Slice.PartMut.{post_of}
use Rattle.std.proofs.Math.Seq.{take-append-add}
use Rattle.std.proofs.lemmas.List.{append-nil, drop_all, drop_at, length-take-le, take_at, take_more, take_rest, take-set, take-take, length-set, take-set-le, drop-set-lt}
use Rattle.std.proofs.lemmas.List.Elements.{filter_more, filter-append}
use Rattle.std.proofs.lemmas.List.Filters.{FiltersInPlace, FiltersInPlace-more_no}
use Rattle.std.proofs.lemmas.List.Sorted.{Contains-permutation, IsPermutation-append_right, IsPermutation-swap_remove, IsPermutation-sym, IsPermutation-trans}
use Rattle.col_set.specs.ColSet.{has, subset, minus, size}
use Rattle.col_set.specs.Members.{has-minus, has-empty, same_set}
use Rattle.col_set.specs.Subsets.{subset-true, true-subset, same_test}
use Rattle.col_set.specs.declared.target.Target.{Target}
use Rattle.col_set.specs.Lists.{Listed}
use Rattle.col_set.proofs.Places.{Contains-listed, Listed-contained}
use Rattle.least_sets.specs.Growth.{ListsLeast, inside, outside, near, one_outside}

-- the sets before the place i lie not inside z, and those that lie inside it were taken out
pub record SplitSoFar (z : ℕ) (old now inner nearby : List ℕ) (i : ℕ) : Type 0 where
  pub all : IsPermutation old (inner ++ now)
  pub taken : inside z inner ≡ inner
  pub no_others : outside z inner ≡ []
  pub stay : outside z (take i now) ≡ take i now
  pub none_stays : inside z (take i now) ≡ []
  pub copied : nearby ≡ near z (take i now)
  pub within : i ≤ length now

-- a set lies inside z where no column of it is left outside z
pub subset_minus : (x z : ℕ) → eqb (minus x z) 0 ≡ subset x z
subset_minus x z = same_test _ _
    (λ e. true-subset (record { each = λ k h. true_from_ne_false _ (λ f. true≢false (sym (and_from _ _ h (not_from_false _ f)) ∙ sym (has-minus x z k) ∙ ap (λ (v : ℕ). has v k) (eqb-true _ 0 e) ∙ has-empty k)) }))
    (λ e. eq-eqb _ 0 (same_set _ _ (λ k. has-minus x z k ∙ false_from_ne_true _ (λ g. let q = and_parts (has x k) _ g in true≢false (sym ((subset-true e).each k q.0) ∙ not-true _ q.1)) ∙ sym (has-empty k))))

-- ---- one set more of a list that stays as it is
module _ (z : ℕ) (xs : List ℕ) (i x : ℕ) (l : i < length xs) (is : x ≡ get_or xs i x) where
  pub filter_next : (p : ℕ → Bool) → filter p (take (i + 1) xs) ≡ filter p (take i xs) ++ cond (p x) (x ∷ []) []
  filter_next p = filter_more p xs i x l ∙ ap (λ (y : ℕ). filter p (take i xs) ++ cond (p y) (y ∷ []) []) (sym is)

  pub inside_next : (b : Bool) → subset x z ≡ b → inside z (take (i + 1) xs) ≡ inside z (take i xs) ++ cond b (x ∷ []) []
  inside_next b e = filter_next (λ x. subset x z) ∙ ap (λ c. inside z (take i xs) ++ cond c (x ∷ []) []) e

  pub near_same : subset x z ≡ true → near z (outside z (take (i + 1) xs)) ≡ near z (outside z (take i xs))
  near_same e = ap (near z) (filter_next (λ x. not (subset x z)) ∙ ap (λ c. outside z (take i xs) ++ cond (not c) (x ∷ []) []) e ∙ append-nil _)

  pub near_next : (b : Bool) → subset x z ≡ false → one_outside z x ≡ b → near z (outside z (take (i + 1) xs)) ≡ near z (outside z (take i xs)) ++ cond b (x ∷ []) []
  near_next b e f =
      ap (near z) (filter_next (λ x. not (subset x z)) ∙ ap (λ c. outside z (take i xs) ++ cond (not c) (x ∷ []) []) e) ∙ filter-append (one_outside z) (outside z (take i xs)) (x ∷ [])
      ∙ ap (λ c. near z (outside z (take i xs)) ++ cond c (x ∷ []) []) f

module _ (z : ℕ) (old now inner nearby : List ℕ) (i x r : ℕ) (s : SplitSoFar z old now inner nearby i) (l : i < length now) (is : x ≡ get_or now i x) (left : r ≡ minus x z) where
  side : (b : Bool) → eqb r 0 ≡ b → subset x z ≡ b
  side b e = sym (subset_minus x z) ∙ ap (λ (v : ℕ). eqb v 0) (sym left) ∙ e

  -- one that lies inside z is taken out, and another one stands in its place
  pub split_inside : eqb r 0 ≡ true → (new : List ℕ) → new ≡ swap_remove now i x → SplitSoFar z old new (inner ++ x ∷ []) nearby i
  split_inside e new m = record {
    all = subst (IsPermutation old) (sym (append_assoc inner (x ∷ []) new ∙ ap (λ (xs : List ℕ). inner ++ x ∷ xs) m))
        (IsPermutation-trans old (inner ++ now) (inner ++ x ∷ swap_remove now i x) s.all (IsPermutation-append_right inner now (x ∷ swap_remove now i x) (IsPermutation-swap_remove now i x l is)));
    taken = filter-append (λ x. subset x z) inner (x ∷ []) ∙ ap₂ (λ (xs ys : List ℕ). xs ++ ys) s.taken (ap (λ b. cond b (x ∷ []) []) (side true e));
    no_others = filter-append (λ x. not (subset x z)) inner (x ∷ []) ∙ ap₂ (λ (xs ys : List ℕ). xs ++ ys) s.no_others (ap (λ b. cond (not b) (x ∷ []) []) (side true e));
    stay = subst (λ xs. outside z xs ≡ xs) (sym front) s.stay;
    none_stays = subst (λ xs. inside z xs ≡ []) (sym front) s.none_stays;
    copied = s.copied ∙ ap (near z) (sym front);
    within = omega (arith, ap length m, length-take-le (length now - 1) (set now i (get_or now (length now - 1) x)) (omega (arith, length-set now i (get_or now (length now - 1) x))));
  }
    where
      front : take i new ≡ take i now
      front = ap (take i) m ∙ take-take i (length now - 1) (set now i (get_or now (length now - 1) x)) (omega arith) ∙ take-set now i (get_or now (length now - 1) x)

  -- one that stays, and is copied where just one column of it is left
  module _ (e : eqb r 0 ≡ false) where
    pub split_here : (more : List ℕ) → more ≡ nearby ++ cond (eqb (size r) 1) (x ∷ []) [] → SplitSoFar z old now inner more (i + 1)
    split_here more copy = record {
      all = s.all;
      taken = s.taken;
      no_others = s.no_others;
      stay = filter_next z now i x l is (λ x. not (subset x z)) ∙ ap₂ (λ (xs ys : List ℕ). xs ++ ys) s.stay (ap (λ b. cond (not b) (x ∷ []) []) (side false e)) ∙ sym (take_more now i x l ∙ ap (λ (y : ℕ). take i now ++ y ∷ []) (sym is));
      none_stays = filter_next z now i x l is (λ x. subset x z) ∙ ap₂ (λ (xs ys : List ℕ). xs ++ ys) s.none_stays (ap (λ b. cond b (x ∷ []) []) (side false e));
      copied = copy ∙ ap (λ (v : ℕ). nearby ++ cond (eqb (size v) 1) (x ∷ []) []) left ∙ ap (λ (xs : List ℕ). xs ++ cond (one_outside z x) (x ∷ []) []) s.copied ∙ sym (filter_next z now i x l is (one_outside z));
      within = omega arith;
    }

-- what is copied, by how many columns of the set are left
module _ (nearby more : List ℕ) (x r n : ℕ) (size_is : n ≡ size r) where
  pub copy_one : n ≡ 1 → more ≡ nearby ++ x ∷ [] → more ≡ nearby ++ cond (eqb (size r) 1) (x ∷ []) []
  copy_one e m = m ∙ sym (ap (λ b. nearby ++ cond b (x ∷ []) []) (eq-eqb (size r) 1 (sym size_is ∙ e)))

  pub copy_none : (n ≡ 1 → ⊥) → more ≡ nearby → more ≡ nearby ++ cond (eqb (size r) 1) (x ∷ []) []
  copy_none e m = m ∙ sym (ap (λ b. nearby ++ cond b (x ∷ []) []) (ne_eqb (size r) 1 (λ i. e (size_is ∙ i))) ∙ append-nil nearby)

-- what the list holds where it was read in another order
pub Listed-permuted : (xs ys : List ℕ) (x : ℕ) → IsPermutation xs ys → Listed x xs → Listed x ys
Listed-permuted xs ys x p h = Listed-contained x ys (Contains-permutation xs ys x p (Contains-listed x xs h))

pub lists_permuted : (u : ℕ) (ws : List ℕ) (t : Target) (xs ys : List ℕ) → IsPermutation xs ys → ListsLeast u ws t xs → ListsLeast u ws t ys
lists_permuted u ws t xs ys p l = record {
  each = λ x h. l.each x (Listed-permuted ys xs x (IsPermutation-sym xs ys p) h);
  every = λ x i. Listed-permuted xs ys x p (l.every x i);
}

-- one set more, where it passes
pub kept_next : (p : ℕ → Bool) (xs : List ℕ) (i x : ℕ) → i < length xs → x ≡ get_or xs i x → (old now : List ℕ) → now ≡ old ++ filter p (take i xs) → (b : Bool) → p x ≡ b → now ++ cond b (x ∷ []) [] ≡ old ++ filter p (take (i + 1) xs)
kept_next p xs i x l is old now e b f =
    ap (λ (ys : List ℕ). ys ++ cond b (x ∷ []) []) e ∙ append_assoc old (filter p (take i xs)) (cond b (x ∷ []) [])
    ∙ ap (λ (ys : List ℕ). old ++ ys) (sym (filter_next 0 xs i x l is p ∙ ap (λ c. filter p (take i xs) ++ cond c (x ∷ []) []) f))

-- ---- lists in place
-- a set that does not stay, and is written nonetheless over one that was moved or does not stay
pub passed_in_place : {p : ℕ → Bool} {xs ys : List ℕ} {k i : ℕ} {x : ℕ} → FiltersInPlace p xs ys k i → i < length ys → p x ≡ false → x ≡ get_or ys i x → FiltersInPlace p xs (set ys k x) k (i + 1)
passed_in_place {p} {xs} {ys} {k} {i} {x} h lt e is =
    let n : FiltersInPlace p xs ys k (i + 1) = FiltersInPlace-more_no h lt e is in
    record {
      front = take-set-le k ys k x (omega arith) ∙ n.front;
      rest = drop-set-lt (i + 1) ys k x (let b = h.behind in omega arith) ∙ n.rest;
      behind = n.behind;
      within = n.within;
      long = length-set ys k x ∙ n.long;
    }

-- the end of a slice
pub slice_rest : (now xs : List ℕ) (from : ℕ) → now ≡ xs → take (length now - from) (drop from now) ≡ drop from xs
slice_rest now xs from e = take_rest now from ∙ ap (drop from) e

-- what is left of a list, where the first k of the part from a place on are kept
module _ (e k n : ℕ) (xs part : List ℕ) (le : e ≤ length xs) (long : length xs ≤ n) (few : k ≤ length part) where
  front_of_same : length part ≡ length xs - e → take (e + k) (take n ((take e xs ++ (part ++ post_of e (length xs - e) xs)) ++ drop (length (take e xs ++ (part ++ post_of e (length xs - e) xs))) xs)) ≡ take e xs ++ take k part
  front_of_same same =
      let start : length (take e xs) ≡ e = length-take-le e xs le in
      let none : post_of e (length xs - e) xs ≡ [] = drop_all (length xs - e) (drop e xs) (omega (arith, length-drop e xs)) in
      let whole : length (take e xs ++ part) ≡ length xs = omega (arith, length-append (take e xs) part, start, same) in
      let gone : drop (length (take e xs ++ part)) xs ≡ [] = drop_all (length (take e xs ++ part)) xs (omega (arith, whole)) in
      rw (none, append-nil, gone, append-nil)
      (take-take (e + k) n (take e xs ++ part) (omega (arith, few, same)) ∙ subst (λ (v : ℕ). take (v + k) (take e xs ++ part) ≡ take e xs ++ take k part) start (take-append-add (take e xs) part k))

  pub front_of_part : (now : List ℕ) → now ≡ xs → length part ≡ length (take (length now - e) (drop e now))
      → take (e + k) (take n ((take e now ++ (part ++ post_of e (length now - e) now)) ++ drop (length (take e now ++ (part ++ post_of e (length now - e) now))) xs)) ≡ take e xs ++ take k part
  front_of_part now is same =
      subst (λ (v : List ℕ). take (e + k) (take n ((take e v ++ (part ++ post_of e (length v - e) v)) ++ drop (length (take e v ++ (part ++ post_of e (length v - e) v))) xs)) ≡ take e xs ++ take k part) (sym is)
      (front_of_same (same ∙ ap length (slice_rest now xs e is) ∙ length-drop e xs))

-- a list with more at its end
pub no_shorter : (xs ys zs : List ℕ) (n : ℕ) → zs ≡ xs ++ ys → n ≡ length xs → n ≤ length zs
no_shorter xs ys zs n e f = omega (arith, ap length e, length-append xs ys)

pub new_end : (xs ys zs : List ℕ) (n : ℕ) → zs ≡ xs ++ ys → n ≡ length xs → drop n zs ≡ ys
new_end xs ys zs n e f = ap (drop n) e ∙ drop_at xs ys n (sym f)

pub old_front : (xs ys zs : List ℕ) (n : ℕ) → zs ≡ xs ++ ys → n ≡ length xs → take n zs ≡ xs
old_front xs ys zs n e f = ap (take n) e ∙ take_at xs ys n (sym f)

-- the end of a list whose end was changed
pub changed_end : (e : ℕ) (xs ys zs : List ℕ) → e ≤ length xs → zs ≡ take e xs ++ ys → drop e zs ≡ ys
changed_end e xs ys zs le i = new_end (take e xs) ys zs e i (sym (length-take-le e xs le))
