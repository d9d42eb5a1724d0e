-- Groups by keys that are sorted.
use Rattle.std.proofs.Common.{inl, inr, ◌≡◌, ◌≢◌, ◌⊎◌, ℕ, zero, suc, ◌+◌, ◌*◌, ◌%◌, ◌^◌, ◌<◌, ◌≤◌, Bool, true, false, cond, eqb, refl, sym, ap, ap₂, ◌∙◌, subst, arith, List, [], ◌∷◌, ◌++◌, length, get_or, map, count_by, sum_by, append_assoc}
use Rattle.std.specs.List.{range_with_len}
use Rattle.std.specs.List.Sorted.{IsNonDecreasing, IsPermutation}
use Rattle.std.proofs.lemmas.Bool.{eq-eqb, ne_eqb, cases_eq}
use Rattle.std.proofs.lemmas.List.{length-append, get_or_default}
use Rattle.std.proofs.lemmas.List.Sums.{sum_by-cons}
use Rattle.std.proofs.lemmas.List.Sorted.{sum_by-IsPermutation, Contains-permutation, IsPermutation-sym}
use Rattle.col_set.specs.ColSet.{upto}
use Rattle.col_set.specs.Lists.{Listed, Listed-map, Listed-map_which}
use Rattle.col_set.specs.AllSets.{Ascends-range, Ascends_within, Listed-upto, Listed-upto_within}
use Rattle.col_set.proofs.Places.{Climbs, Contains-listed, Listed-contained, Listed-get_or}
use Rattle.stripped_partition.specs.Order.{Ahead, Apart, IsInOrder, key_of, group_at}
use Rattle.stripped_partition.proofs.Firsts.{Once}
use Rattle.stripped_partition.proofs.Errors.{Climbs-Once}

-- ---- lists of which each number stands once
abbrev tally : Bool → ℕ
tally b = cond b 1 0

tally-true : (b : Bool) → b ≡ true → tally b ≡ 1
tally-true b e = ap tally e

tally-false : (b : Bool) → b ≡ false → tally b ≡ 0
tally-false b e = ap tally e

counted-once : (xs : List ℕ) → Once xs → (x : ℕ) → count_by (λ y. eqb y x) xs ≤ 1
counted-once [] o x = omega arith
counted-once (y ∷ xs) o x = by (cases_eq y x) (counted-once xs o.1 x)
  where
    none : (ys : List ℕ) → (Listed x ys → ⊥) → count_by (λ z. eqb z x) ys ≡ 0
    none [] out = refl
    none (z ∷ ys) out = sum_by-cons (λ z. cond (eqb z x) 1 0) z ys ∙ ap (λ b. cond b 1 0 + count_by (λ z. eqb z x) ys) (ne_eqb z x (λ e. out (inl (sym e)))) ∙ (let r = none ys (λ h. out (inr h)) in let e : 0 + count_by (λ z. eqb z x) ys ≡ 0 = omega arith in e)

    by : (y ≡ x) ⊎ (y ≡ x → ⊥) → count_by (λ z. eqb z x) xs ≤ 1 → count_by (λ z. eqb z x) (y ∷ xs) ≤ 1
    by (inl e) r =
        let n = none xs (subst (λ (z : ℕ). Listed z xs → ⊥) e o.0) in
        let s = sum_by-cons (λ z. cond (eqb z x) 1 0) y xs in
        let i = tally-true (eqb y x) (eq-eqb y x e) in
        omega arith
    by (inr ne) r =
        let s = sum_by-cons (λ z. cond (eqb z x) 1 0) y xs in
        let i = tally-false (eqb y x) (ne_eqb y x ne) in
        omega arith

counted-listed : (xs : List ℕ) (x : ℕ) → Listed x xs → 1 ≤ count_by (λ y. eqb y x) xs
counted-listed [] x h = absurd h
counted-listed (y ∷ xs) x (inl e) =
    let s = sum_by-cons (λ z. cond (eqb z x) 1 0) y xs in let i = tally-true (eqb y x) (eq-eqb y x (sym e)) in omega arith
counted-listed (y ∷ xs) x (inr h) =
    let s = sum_by-cons (λ z. cond (eqb z x) 1 0) y xs in let r = counted-listed xs x h in omega arith

once-counted : (xs : List ℕ) → ((x : ℕ) → count_by (λ y. eqb y x) xs ≤ 1) → Once xs
once-counted [] f = tt
once-counted (x ∷ xs) f = (
  (λ h. let c = counted-listed xs x h in let l = f x in let s = sum_by-cons (λ z. cond (eqb z x) 1 0) x xs in let i = tally-true (eqb x x) (eq-eqb x x refl) in absurd (omega arith)),
  once-counted xs (λ y. let l = f y in let s = sum_by-cons (λ z. cond (eqb z y) 1 0) x xs in omega arith),
)

Once-permutation : (xs ys : List ℕ) → IsPermutation xs ys → Once xs → Once ys
Once-permutation xs ys p o = once-counted ys (λ x. let e = sum_by-IsPermutation (λ y. cond (eqb y x) 1 0) xs ys p in let l = counted-once xs o x in omega arith)

-- sorted numbers of which each stands once climb
sorted-Climbs : (xs : List ℕ) → Once xs → IsNonDecreasing xs → Climbs xs
sorted-Climbs [] o s = tt
sorted-Climbs (x ∷ xs) o s = (
  (λ y h. let w = Contains-listed y xs h in let l : x ≤ get_or xs w.0 y = s 0 (suc w.0) y (omega arith) (let m = w.1 in omega arith) in let e = w.2 in
      elim (cases_eq x y) as (λ _. x < y) [ inl i ↦ absurd (o.0 (subst (λ (z : ℕ). Listed z xs) (sym i) h)) | inr ne ↦ omega arith ]),
  sorted-Climbs xs o.1 (λ i j d l m. s (suc i) (suc j) d (omega arith) (omega arith)),
)

-- ---- keys
module _ (groups : List (List ℕ)) where
  place_of : (k : ℕ) → k < 2 ^ 32 → key_of groups k % 2 ^ 32 ≡ k
  place_of k l = omega arith

  key-group : (k : ℕ) → k < 2 ^ 32 → group_at groups (key_of groups k) ≡ get_or groups k []
  key-group k l = ap (λ (n : ℕ). get_or groups n []) (place_of k l)

  -- what a key is of
  pub record IsKey (key : ℕ) : Type 0 where
    pub place : ℕ
    pub within : place < length groups
    pub is : key ≡ key_of groups place

-- the numbers from a place on, and the elements at them
map_from : (before gs : List (List ℕ)) → map (λ k. get_or (before ++ gs) k []) (range_with_len (length before) (length gs)) ≡ gs
map_from before [] = refl
map_from before (g ∷ gs) = ap₂ (λ (x : List ℕ) (xs : List (List ℕ)). x ∷ xs) (here before)
    (ap₂ (λ (xs : List (List ℕ)) (a : ℕ). map (λ k. get_or xs k []) (range_with_len a (length gs))) (sym (append_assoc before (g ∷ []) gs)) (sym (length-append before (g ∷ []))) ∙ map_from (before ++ g ∷ []) gs)
  where
    here : (before : List (List ℕ)) → get_or (before ++ g ∷ gs) (length before) [] ≡ g
    here [] = refl
    here (h ∷ before) = here before

Climbs-range : (n a : ℕ) → Climbs (range_with_len a n)
Climbs-range zero a = tt
Climbs-range (suc n) a = ((λ y h. let w = (Ascends_within (a + 1) (a + 1 + n) y (range_with_len (a + 1) n) (Ascends-range n (a + 1) (a + 1 + n) refl) h).0 in omega arith), Climbs-range n (a + 1))

pub sum_by-map : {X : Type 0} (f : X → ℕ) (g : ℕ → X) (ks : List ℕ) → sum_by f (map g ks) ≡ sum_by (λ k. f (g k)) ks
sum_by-map f g [] = refl
sum_by-map f g (k ∷ ks) = let a = sum_by-cons f (g k) (map g ks) in let b = sum_by-cons (λ k. f (g k)) k ks in let r = sum_by-map f g ks in omega arith

-- groups at different places begin with different rows
pub apart_at : (gs : List (List ℕ)) → Apart gs → (i j : ℕ) → i < length gs → j < length gs → i ≢ j → get_or (get_or gs i []) 0 0 ≢ get_or (get_or gs j []) 0 0
apart_at [] a i j l m ne = absurd (omega arith)
apart_at (g ∷ gs) a zero zero l m ne = absurd (ne refl)
apart_at (g ∷ gs) a zero (suc j) l m ne = a.0 (get_or gs j []) (Listed-get_or gs j [] (omega arith))
apart_at (g ∷ gs) a (suc i) zero l m ne = λ e. a.0 (get_or gs i []) (Listed-get_or gs i [] (omega arith)) (sym e)
apart_at (g ∷ gs) a (suc i) (suc j) l m ne = apart_at gs a.1 i j (omega arith) (omega arith) (λ e. ne (ap suc e))

module _ (groups : List (List ℕ)) (short : length groups < 2 ^ 32) where
  keys : List ℕ
  keys = map (key_of groups) (upto (length groups))

  Once-map : (ks : List ℕ) → Once ks → ((k : ℕ) → Listed k ks → k < 2 ^ 32) → Once (map (key_of groups) ks)
  Once-map [] o f = tt
  Once-map (k ∷ ks) o f = (
    (λ h. let w = Listed-map_which (key_of groups) (key_of groups k) ks h in
        let e : k ≡ w.0 = sym (place_of groups k (f k (inl refl))) ∙ ap (λ (n : ℕ). n % 2 ^ 32) w.2 ∙ place_of groups w.0 (f w.0 (inr w.1)) in
        o.0 (subst (λ (z : ℕ). Listed z ks) (sym e) w.1)),
    Once-map ks o.1 (λ j h. f j (inr h)),
  )

  Once-keys : Once (map (key_of groups) (upto (length groups)))
  Once-keys = Once-map (upto (length groups)) (Climbs-Once (upto (length groups)) (Climbs-range (length groups) 0)) (λ k h. let l = Listed-upto_within (length groups) k h in omega arith)

  at_keys : map (group_at groups) (map (key_of groups) (upto (length groups))) ≡ groups
  at_keys = by (upto (length groups)) (λ k h. Listed-upto_within (length groups) k h) ∙ map_from [] groups
    where
      by : (ks : List ℕ) → ((k : ℕ) → Listed k ks → k < length groups) → map (group_at groups) (map (key_of groups) ks) ≡ map (λ k. get_or groups k []) ks
      by [] f = refl
      by (k ∷ ks) f = ap₂ (λ (x : List ℕ) (xs : List (List ℕ)). x ∷ xs) (key-group groups k (let l = f k (inl refl) in omega arith)) (by ks (λ j h. f j (inr h)))

  key_listed : (key : ℕ) → Listed key (map (key_of groups) (upto (length groups))) → IsKey groups key
  key_listed key h = let w = Listed-map_which (key_of groups) key (upto (length groups)) h in record { place = w.0; within = Listed-upto_within (length groups) w.0 w.1; is = w.2 }

  -- keys that climb are of groups in order
  below : Apart groups → (a b : ℕ) → IsKey groups a → IsKey groups b → a < b → get_or (group_at groups a) 0 0 < get_or (group_at groups b) 0 0
  below apart a b p q l =
      let i = p.place in let j = q.place in let pl = p.within in let ql = q.within in
      let ea : a ≡ get_or (get_or groups i []) 0 0 * 2 ^ 32 + i = p.is in
      let eb : b ≡ get_or (get_or groups j []) 0 0 * 2 ^ 32 + j = q.is in
      let ga : get_or (group_at groups a) 0 0 ≡ get_or (get_or groups i []) 0 0 = ap (λ (g : List ℕ). get_or g 0 0) (ap (group_at groups) ea ∙ key-group groups i (omega arith)) in
      let gb : get_or (group_at groups b) 0 0 ≡ get_or (get_or groups j []) 0 0 = ap (λ (g : List ℕ). get_or g 0 0) (ap (group_at groups) eb ∙ key-group groups j (omega arith)) in
      let ne : get_or (get_or groups i []) 0 0 ≢ get_or (get_or groups j []) 0 0 = apart_at groups apart i j pl ql (λ e. let s : a ≡ b = p.is ∙ ap (key_of groups) e ∙ sym q.is in absurd (omega arith)) in
      omega arith

  Ahead-keys : Apart groups → (ks : List ℕ) → Climbs ks → ((k : ℕ) → Listed k ks → IsKey groups k) → Ahead (map (group_at groups) ks)
  Ahead-keys apart [] c f = tt
  Ahead-keys apart (k ∷ ks) c f = (
    (λ h l. let w = Listed-map_which (group_at groups) h ks l in
        subst (λ (g : List ℕ). get_or (group_at groups k) 0 0 < get_or g 0 0) (sym w.2) (below apart k w.0 (f k (inl refl)) (f w.0 (inr w.1)) (c.0 w.0 w.1))),
    Ahead-keys apart ks c.1 (λ j l. f j (inr l)),
  )

  module _ (sorted : List ℕ) (moved : IsPermutation (map (key_of groups) (upto (length groups))) sorted) where
    pub is_key : (key : ℕ) → Listed key sorted → IsKey groups key
    is_key key h = key_listed key (Listed-contained key (map (key_of groups) (upto (length groups))) (Contains-permutation sorted _ key (IsPermutation-sym _ sorted moved) (Contains-listed key sorted h)))

    pub sum_sorted : sum_by (λ key. length (group_at groups key)) sorted ≡ sum_by length groups
    sum_sorted =
        sum_by-IsPermutation (λ key. length (group_at groups key)) (map (key_of groups) (upto (length groups))) sorted moved
        ∙ sym (sum_by-map length (group_at groups) (map (key_of groups) (upto (length groups)))) ∙ ap (sum_by length) at_keys

    pub sorted_order : IsNonDecreasing sorted → IsInOrder groups (map (group_at groups) sorted)
    sorted_order rises = record {
      kept = λ g h. let w = Contains-listed g groups h in
          let e : group_at groups (key_of groups w.0) ≡ g = key-group groups w.0 (let l = w.1 in omega arith) ∙ get_or_default groups w.0 [] g w.1 ∙ w.2 in
          let k : Listed (key_of groups w.0) sorted = Listed-contained (key_of groups w.0) sorted (Contains-permutation _ sorted (key_of groups w.0) moved (Contains-listed (key_of groups w.0) _ (Listed-map (key_of groups) w.0 (upto (length groups)) (Listed-upto (length groups) w.0 w.1)))) in
          subst (λ (x : List ℕ). Listed x (map (group_at groups) sorted)) e (Listed-map (group_at groups) (key_of groups w.0) sorted k);
      only = λ g h. let w = Listed-map_which (group_at groups) g sorted h in let p = is_key w.0 w.1 in
          subst (λ (x : List ℕ). Listed x groups) (sym (w.2 ∙ ap (group_at groups) p.is ∙ key-group groups p.place (let l = p.within in omega arith))) (Listed-get_or groups p.place [] p.within);
      ahead = λ apart. Ahead-keys apart sorted (sorted-Climbs sorted (Once-permutation _ sorted moved Once-keys) rises) is_key;
    }

-- groups that stand in order
pub kept_order : (groups : List (List ℕ)) → Ahead groups → IsInOrder groups groups
kept_order groups a = record { kept = λ g h. h; only = λ g h. h; ahead = λ apart. a }
