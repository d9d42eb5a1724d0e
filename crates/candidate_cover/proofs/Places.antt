-- Left sides in report order, and the place of one among them.
use Rattle.std.proofs.Common.{inl, inr, ◌≡◌, ◌≢◌, ℕ, zero, suc, ◌+◌, ◌<◌, ◌≤◌, Bool, true, false, not, eqb, refl, sym, ap, ap₂, ◌∙◌, subst, arith, List, [], ◌∷◌, length, get_or, take, drop, set, if◌then◌else◌, Some, None, Result, Ok, Err, Ordering, Less, Equal, Greater}
use Rattle.std.specs.List.Sorted.{IsBinarySearchResult, IsSearchInRange, IsSortedBy}
use Rattle.std.specs.Option.{option_map}
use Rattle.std.specs.Ordering.{is_lt, is_eq, ordering_reverse}
use Rattle.std.proofs.lemmas.Bool.{eqb-true, eq-eqb, true≢false, cases_eq, cases_lt}
use Rattle.std.proofs.lemmas.Cmp.{tied_itself}
use Rattle.std.proofs.lemmas.List.{length-map, get_or_default}
use Rattle.std.proofs.lemmas.List.Folds.{list_any_none}
use Rattle.std.proofs.lemmas.List.Sorted.{searchable_from_sorted}
use Rattle.col_set.specs.ColSet.{report_cmp}
use Rattle.col_set.specs.Columns.{report_total}
use Rattle.col_set.specs.AllSets.{report_matches_eq}
use Rattle.col_set.specs.Lists.{Rises, Rises-map}
use Rattle.col_set.proofs.Places.{AllPairs-rises}
use Rattle.candidate_cover.specs.declared.cand.Mark.{Mark}
use Rattle.candidate_cover.specs.Pairs.{keys, IsInOrder, is_key, value_at, with_value, from, before, after}
use Rattle.candidate_cover.specs.Place.{Parts, Stands, Lacks, IsPlace}
use Rattle.candidate_cover.proofs.Cuts.{kept_front, kept_back, set-map, map_same, found_at, found_none, any_at}

-- ---- report order
pub same_from_equal : (x y : ℕ) → report_cmp x y ≡ Equal → x ≡ y
same_from_equal x y e = eqb-true x y (report_matches_eq x y ∙ ap is_eq e)

pub apart_from_less : (x y : ℕ) → report_cmp x y ≡ Less → eqb x y ≡ false
apart_from_less x y e = report_matches_eq x y ∙ ap is_eq e

pub apart_from_greater : (x y : ℕ) → report_cmp y x ≡ Less → eqb x y ≡ false
apart_from_greater x y e = report_matches_eq x y ∙ ap is_eq (report_total.antisymm x y ∙ ap ordering_reverse e)

pub less_is : (x y : ℕ) → report_cmp x y ≡ Less → is_lt (report_cmp x y) ≡ true
less_is x y e = ap is_lt e

pub less_from : (o : Ordering) → is_lt o ≡ true → o ≡ Less
less_from Less e = refl
less_from Equal e = absurd (true≢false (sym e))
less_from Greater e = absurd (true≢false (sym e))

pub not_less : (x y : ℕ) → report_cmp y x ≡ Less → is_lt (report_cmp x y) ≡ false
not_less x y e = ap is_lt (report_total.antisymm x y ∙ ap ordering_reverse e)

pub not_less_same : (x y : ℕ) → x ≡ y → is_lt (report_cmp x y) ≡ false
not_less_same x y e = ap is_lt (ap (report_cmp x) (sym e) ∙ tied_itself report_total x)

sorted : (xs : List ℕ) → Rises report_cmp xs → IsSortedBy (λ x y. is_lt (report_cmp x y)) xs
sorted xs r k d l h = not_less _ _ (AllPairs-rises report_cmp xs r k (k + 1) d (omega arith) (omega arith))

-- what a search by halves finds
pub place_found : (xs : List ℕ) (x : ℕ) (r : Result ℕ ℕ) → Rises report_cmp xs → IsSearchInRange r (length xs) → IsBinarySearchResult (λ y. report_cmp y x) xs r → IsPlace xs x r
place_found xs x (Ok i) o b s = record {
  within = b;
  same = λ d. same_from_equal _ x (s d);
  parts = record {
    before = λ k d h l. ap (report_cmp (get_or xs k d)) (sym (same_from_equal _ x (s d))) ∙ AllPairs-rises report_cmp xs o k i d h b;
    after = λ k d h l. ap (λ (z : ℕ). report_cmp z (get_or xs k d)) (sym (same_from_equal _ x (s d))) ∙ AllPairs-rises report_cmp xs o i k d (omega arith) l;
  };
}
place_found xs x (Err i) o b s =
    let w = s (searchable_from_sorted report_total (λ (y : ℕ). y) xs x (sorted xs o)) in
    record {
      within = b;
      parts = record {
        before = λ k d h l. w.0 k d (omega arith) h;
        after = λ k d h l. report_total.antisymm x (get_or xs k d) ∙ ap ordering_reverse (w.1 k d h l);
      };
    }

-- a set that is seen at a place
pub place_seen : (xs : List ℕ) (x y : ℕ) (i : ℕ) → Rises report_cmp xs → i < length xs → y ≡ get_or xs i y → y ≡ x → IsPlace xs x (Ok i)
place_seen xs x y i o l is e = place_found xs x (Ok i) o l (λ d. ap (λ (z : ℕ). report_cmp z x) (get_or_default xs i d y l ∙ sym is ∙ e) ∙ tied_itself report_total x)

-- where one set stands before x, so do those before it, and where one stands after x, so do those after it
pub all_before : (xs : List ℕ) (x y : ℕ) (i : ℕ) → Rises report_cmp xs → i < length xs → y ≡ get_or xs i y → report_cmp y x ≡ Less → (k d : ℕ) → k < i + 1 → report_cmp (get_or xs k d) x ≡ Less
all_before xs x y i o l is e k d h =
    let there : get_or xs i d ≡ y = get_or_default xs i d y l ∙ sym is in
    elim (cases_lt k i) as (λ _. report_cmp (get_or xs k d) x ≡ Less) [
      | inl g ↦ report_total.trans (get_or xs k d) y x (ap (report_cmp (get_or xs k d)) (sym there) ∙ AllPairs-rises report_cmp xs o k i d g l) e
      | inr g ↦ ap (λ (j : ℕ). report_cmp (get_or xs j d) x) (let same : k ≡ i = omega (arith, g, h) in same) ∙ ap (λ (z : ℕ). report_cmp z x) there ∙ e
    ]

pub all_after : (xs : List ℕ) (x y : ℕ) (i : ℕ) → Rises report_cmp xs → i < length xs → y ≡ get_or xs i y → report_cmp x y ≡ Less → (k d : ℕ) → i ≤ k → k < length xs → report_cmp x (get_or xs k d) ≡ Less
all_after xs x y i o l is e k d h m =
    let there : get_or xs i d ≡ y = get_or_default xs i d y l ∙ sym is in
    elim (cases_lt i k) as (λ _. report_cmp x (get_or xs k d) ≡ Less) [
      | inl g ↦ report_total.trans x y (get_or xs k d) e (ap (λ (z : ℕ). report_cmp z (get_or xs k d)) (sym there) ∙ AllPairs-rises report_cmp xs o i k d g m)
      | inr g ↦ ap (λ (j : ℕ). report_cmp x (get_or xs j d)) (let same : k ≡ i = omega (arith, g, h) in same) ∙ ap (report_cmp x) there ∙ e
    ]

-- ---- the place among pairs
get_or-keys : (ps : List (ℕ × Mark)) (k : ℕ) (d : ℕ × Mark) → get_or (keys ps) k d.0 ≡ (get_or ps k d).0
get_or-keys [] k d = refl
get_or-keys (p ∷ ps) zero d = refl
get_or-keys (p ∷ ps) (suc k) d = get_or-keys ps k d

module _ (ps : List (ℕ × Mark)) (x : ℕ) where
  length-keys : length (keys ps) ≡ length ps
  length-keys = length-map ps (λ p. p.0)

  module _ (i j : ℕ) (s : Parts (keys ps) x i j) where
    less_before : (k : ℕ) (d : ℕ × Mark) → k < i → k < length ps → report_cmp (get_or ps k d).0 x ≡ Less
    less_before k d h l = ap (λ (y : ℕ). report_cmp y x) (sym (get_or-keys ps k d)) ∙ s.before k d.0 h (subst (λ (n : ℕ). k < n) (sym length-keys) l)

    less_after : (k : ℕ) (d : ℕ × Mark) → j ≤ k → k < length ps → report_cmp x (get_or ps k d).0 ≡ Less
    less_after k d h l = ap (report_cmp x) (sym (get_or-keys ps k d)) ∙ s.after k d.0 h (subst (λ (n : ℕ). k < n) (sym length-keys) l)

  -- ---- x is the key at the place
  module _ (i : ℕ) (s : Stands (keys ps) x i) where
    pub in_pairs : i < length ps
    in_pairs = subst (λ (n : ℕ). i < n) length-keys s.within

    same : (d : ℕ × Mark) → (get_or ps i d).0 ≡ x
    same d = sym (get_or-keys ps i d) ∙ s.same d.0

    others : (k : ℕ) (d : ℕ × Mark) → k ≢ i → k < length ps → eqb (get_or ps k d).0 x ≡ false
    others k d n l = elim (cases_lt k i) as (λ _. eqb (get_or ps k d).0 x ≡ false) [
      | inl h ↦ apart_from_less _ x (less_before i (i + 1) s.parts k d h l)
      | inr h ↦ apart_from_greater _ x (less_after i (i + 1) s.parts k d (omega arith) l)
    ]

    pub is_key-stands : is_key ps x ≡ true
    is_key-stands = any_at (λ p. eqb p.0 x) ps i in_pairs (λ d. eq-eqb _ x (same d))

    pub value_at-stands : (d : ℕ × Mark) → value_at ps x ≡ Some (get_or ps i d).1
    value_at-stands d = ap (option_map (λ p. p.1)) (found_at (λ p. eqb p.0 x) ps i in_pairs (λ k d h l. others k d (omega arith) l) (λ d. eq-eqb _ x (same d)) d)

    pub before-stands : before x ps ≡ take i ps
    before-stands = kept_front (λ p. is_lt (report_cmp p.0 x)) ps i (λ k d h l. less_is _ x (less_before i (i + 1) s.parts k d h l)) (λ k d h l. here_on k d h l)
      where
        here_on : (k : ℕ) (d : ℕ × Mark) → i ≤ k → k < length ps → is_lt (report_cmp (get_or ps k d).0 x) ≡ false
        here_on k d h l = elim (cases_eq k i) as (λ _. is_lt (report_cmp (get_or ps k d).0 x) ≡ false) [
          | inl e ↦ not_less_same _ x (ap (λ (j : ℕ). (get_or ps j d).0) e ∙ same d)
          | inr ne ↦ not_less _ x (less_after i (i + 1) s.parts k d (omega arith) l)
        ]

    pub after-stands : after x ps ≡ drop (suc i) ps
    after-stands = kept_back (λ p. is_lt (report_cmp x p.0)) ps (suc i) (λ k d h l. up_to_here k d h l) (λ k d h l. less_is x _ (less_after i (i + 1) s.parts k d (omega arith) l))
      where
        up_to_here : (k : ℕ) (d : ℕ × Mark) → k < suc i → k < length ps → is_lt (report_cmp x (get_or ps k d).0) ≡ false
        up_to_here k d h l = elim (cases_eq k i) as (λ _. is_lt (report_cmp x (get_or ps k d).0) ≡ false) [
          | inl e ↦ not_less_same x _ (sym (ap (λ (j : ℕ). (get_or ps j d).0) e ∙ same d))
          | inr ne ↦ not_less x _ (less_before i (i + 1) s.parts k d (omega arith) l)
        ]

    pub with_value-stands : (v : Mark) → with_value ps x v ≡ set ps i (x, v)
    with_value-stands v = sym (set-map (λ p. if eqb p.0 x then (x, v) else p) ps i (x, v) in_pairs
        (λ d. ap (λ b. if b then (x, v) else get_or ps i d) (eq-eqb _ x (same d)))
        (λ k d n l. ap (λ b. if b then (x, v) else get_or ps k d) (others k d n l)))

    pub from-stands : from x ps ≡ drop i ps
    from-stands = kept_back (λ p. not (is_lt (report_cmp p.0 x))) ps i (λ k d h l. ap not (less_is _ x (less_before i (i + 1) s.parts k d h l))) (λ k d h l. here_on k d h l)
      where
        here_on : (k : ℕ) (d : ℕ × Mark) → i ≤ k → k < length ps → not (is_lt (report_cmp (get_or ps k d).0 x)) ≡ true
        here_on k d h l = elim (cases_eq k i) as (λ _. not (is_lt (report_cmp (get_or ps k d).0 x)) ≡ true) [
          | inl e ↦ ap not (not_less_same _ x (ap (λ (j : ℕ). (get_or ps j d).0) e ∙ same d))
          | inr ne ↦ ap not (not_less _ x (less_after i (i + 1) s.parts k d (omega arith) l))
        ]

  -- ---- x is no key
  module _ (i : ℕ) (s : Lacks (keys ps) x i) where
    none : (k : ℕ) (d : ℕ × Mark) → k < length ps → eqb (get_or ps k d).0 x ≡ false
    none k d l = elim (cases_lt k i) as (λ _. eqb (get_or ps k d).0 x ≡ false) [
      | inl h ↦ apart_from_less _ x (less_before i i s.parts k d h l)
      | inr h ↦ apart_from_greater _ x (less_after i i s.parts k d h l)
    ]

    pub is_key-lacks : is_key ps x ≡ false
    is_key-lacks = list_any_none (λ p. eqb p.0 x) ps none

    pub value_at-lacks : value_at ps x ≡ None
    value_at-lacks = ap (option_map (λ p. p.1)) (found_none (λ p. eqb p.0 x) ps none)

    pub before-lacks : before x ps ≡ take i ps
    before-lacks = kept_front (λ p. is_lt (report_cmp p.0 x)) ps i (λ k d h l. less_is _ x (less_before i i s.parts k d h l)) (λ k d h l. not_less _ x (less_after i i s.parts k d h l))

    pub after-lacks : after x ps ≡ drop i ps
    after-lacks = kept_back (λ p. is_lt (report_cmp x p.0)) ps i (λ k d h l. not_less x _ (less_before i i s.parts k d h l)) (λ k d h l. less_is x _ (less_after i i s.parts k d h l))

    pub with_value-lacks : (v : Mark) → with_value ps x v ≡ ps
    with_value-lacks v = sym (map_same (λ p. if eqb p.0 x then (x, v) else p) ps (λ k d l. ap (λ b. if b then (x, v) else get_or ps k d) (none k d l)))

    pub from-lacks : from x ps ≡ drop i ps
    from-lacks = kept_back (λ p. not (is_lt (report_cmp p.0 x))) ps i (λ k d h l. ap not (less_is _ x (less_before i i s.parts k d h l))) (λ k d h l. ap not (not_less _ x (less_after i i s.parts k d h l)))

-- ---- what stays in order
pub IsInOrder-with_value : (ps : List (ℕ × Mark)) (x : ℕ) (v : Mark) → IsInOrder ps → IsInOrder (with_value ps x v)
IsInOrder-with_value ps x v r = Rises-map (λ p q. report_cmp p.0 q.0) (λ p q. report_cmp p.0 q.0) (λ p. if eqb p.0 x then (x, v) else p) ps r
    (λ p q h g e. ap₂ report_cmp (same p) (same q) ∙ e)
  where
    same : (p : ℕ × Mark) → (if eqb p.0 x then (x, v) else p).0 ≡ p.0
    same p = by (eqb p.0 x) refl
      where
        by : (b : Bool) → eqb p.0 x ≡ b → (if b then (x, v) else p).0 ≡ p.0
        by true e = sym (eqb-true p.0 x e)
        by false e = refl
