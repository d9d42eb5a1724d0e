-- The list of all column sets: each set of n columns once, in report order.
use Rattle.std.proofs.Common.{inl, inr, ◌≡◌, ℕ, zero, suc, ◌+◌, ◌^◌, ◌<◌, ◌≤◌, Bool, true, false, cond, eqb, refl, sym, ap, ap₂, ◌∙◌, subst, arith, List, [], ◌∷◌, length, map, Ordering, Less, Equal, Greater, Some}
use Rattle.std.specs.List.{filter, range_with_len, flat_map}
use Rattle.std.specs.Ordering.{nat_cmp, ordering_then, on, then_cmp, as_partial_cmp, eq_by_cmp, is_eq}
use Rattle.std.specs.Cmp.Lexicographic.{slice_cmp}
use Rattle.std.proofs.lemmas.Bool.{eqb-true, eq-eqb, false≢true, cases_eq, or_cases, or_left, or_right}
use Rattle.std.proofs.lemmas.Cmp.{nat_cmp_total, tied_itself}
use Rattle.std.proofs.lemmas.List.FromFn.{length-range_with_len}
use Rattle.std.specs.FinSet.{slice_cmp-IsAntisymmetric, nat_cmp-IsAntisymmetric}
use Rattle.col_set.specs.ColSet.{has, upto, columns, size, set_of, report_cmp, combinations, all_sets}
use Rattle.col_set.specs.Members.{has-empty, has-with, same_set}
use Rattle.col_set.specs.Columns.{nat_cmp-lt, columns_below, lt-pow}
pub use Rattle.col_set.specs.Columns.{report_total}
pub use Rattle.col_set.specs.Listing.{Ascends}
use Rattle.col_set.specs.Lists.{Listed, Rises, Listed-append_left, Listed-append_right, Listed-append_cases, Listed-filter, Listed-filter_parts, Listed-map, Listed-map_which, Listed-flat_map, Listed-flat_map_which, Rises-append, Rises-map}
use Rattle.col_set.specs.Subsets.{same_test, has_within, below_from}

-- ---- ascending lists
pub Ascends-weaker : (a c b : ℕ) (xs : List ℕ) → a ≤ c → Ascends c b xs → Ascends a b xs
Ascends-weaker a c b [] l h = tt
Ascends-weaker a c b (x ∷ xs) l h = ((let g = h.0 in omega arith), h.1, h.2)

pub Ascends-range : (n a b : ℕ) → a + n ≡ b → Ascends a b (range_with_len a n)
Ascends-range zero a b e = tt
Ascends-range (suc n) a b e = (omega arith, omega arith, Ascends-range n (a + 1) b (omega arith))

Listed-range : (n a k : ℕ) → a ≤ k → k < a + n → Listed k (range_with_len a n)
Listed-range zero a k l h = absurd (omega arith)
Listed-range (suc n) a k l h = elim (cases_eq k a) as (λ _. Listed k (range_with_len a (suc n))) [ inl e ↦ inl e | inr ne ↦ inr (Listed-range n (a + 1) k (omega arith) (omega arith)) ]

Listed-range_within : (n a k : ℕ) → Listed k (range_with_len a n) → (a ≤ k) × (k < a + n)
Listed-range_within zero a k h = absurd h
Listed-range_within (suc n) a k (inl e) = (omega arith, omega arith)
Listed-range_within (suc n) a k (inr h) = let w = Listed-range_within n (a + 1) k h in let p = w.0 in let q = w.1 in (omega arith, omega arith)

pub Listed-upto : (n k : ℕ) → k < n → Listed k (upto n)
Listed-upto n k h = Listed-range n 0 k (omega arith) (omega arith)

pub Listed-upto_within : (n k : ℕ) → Listed k (upto n) → k < n
Listed-upto_within n k h = let w = (Listed-range_within n 0 k h).1 in omega arith

pub Ascends_within : (a b k : ℕ) (xs : List ℕ) → Ascends a b xs → Listed k xs → (a ≤ k) × (k < b)
Ascends_within a b k [] r h = absurd h
Ascends_within a b k (x ∷ xs) r (inl e) = let p = r.0 in let q = r.1 in (omega arith, omega arith)
Ascends_within a b k (x ∷ xs) r (inr h) = let w = Ascends_within (x + 1) b k xs r.2 h in let p = r.0 in let q = w.0 in (omega arith, w.1)

-- ---- the set of a list
pub set_of-has : (k : ℕ) (cs : List ℕ) → has (set_of cs) k ≡ true → Listed k cs
unfolding set_of
set_of-has k [] e = absurd (false≢true (sym (has-empty k) ∙ e))
set_of-has k (c ∷ cs) e = elim (or_cases (has (set_of cs) k) (eqb k c) (sym (has-with (set_of cs) c k) ∙ e)) as (λ _. Listed k (c ∷ cs)) [
  | inl h ↦ inr (set_of-has k cs h)
  | inr h ↦ inl (eqb-true k c h)
]

pub has-set_of : (k : ℕ) (cs : List ℕ) → Listed k cs → has (set_of cs) k ≡ true
unfolding set_of
has-set_of k [] h = absurd h
has-set_of k (c ∷ cs) (inl e) = has-with (set_of cs) c k ∙ or_right (has (set_of cs) k) (eqb k c) (eq-eqb k c e)
has-set_of k (c ∷ cs) (inr h) = has-with (set_of cs) c k ∙ or_left (has (set_of cs) k) (eqb k c) (has-set_of k cs h)

-- an ascending list is what a test of membership keeps of its range
kept : (q : ℕ → Bool) (n a b : ℕ) (xs : List ℕ) → b ≤ a + n → Ascends a b xs → ((k : ℕ) → a ≤ k → q k ≡ true → Listed k xs) → ((k : ℕ) → Listed k xs → q k ≡ true) → filter q (range_with_len a n) ≡ xs
kept q zero a b [] e r f g = refl
kept q zero a b (x ∷ xs) e r f g = let l = r.0 in let h = r.1 in absurd (omega arith)
kept q (suc n) a b [] e r f g = at_empty (q a) refl (kept q n (a + 1) (a + 1) [] (omega arith) tt (λ k l h. f k (omega arith) h) (λ k h. absurd h))
  where
    at_empty : (t : Bool) → q a ≡ t → filter q (range_with_len (a + 1) n) ≡ [] → cond t (a ∷ filter q (range_with_len (a + 1) n)) (filter q (range_with_len (a + 1) n)) ≡ []
    at_empty true i rest = absurd (f a (omega arith) i)
    at_empty false i rest = rest
kept q (suc n) a b (x ∷ xs) e r f g = elim (cases_eq x a) as (λ _. filter q (range_with_len a (suc n)) ≡ x ∷ xs) [
  | inl i ↦
      ap (λ t. cond t (a ∷ filter q (range_with_len (a + 1) n)) (filter q (range_with_len (a + 1) n))) (g a (inl (sym i)))
      ∙ ap₂ (λ (y : ℕ) (ys : List ℕ). y ∷ ys) (sym i) (kept q n (a + 1) b xs (omega arith) (Ascends-weaker (a + 1) (x + 1) b xs (omega arith) r.2)
      (λ k l h. later k l (f k (omega arith) h) i) (λ k h. g k (inr h)))
  | inr ne ↦
      ap (λ t. cond t (a ∷ filter q (range_with_len (a + 1) n)) (filter q (range_with_len (a + 1) n))) (at_gap (q a) refl ne)
      ∙ kept q n (a + 1) b (x ∷ xs) (omega arith) ((let l = r.0 in omega arith), r.1, r.2) (λ k l h. f k (omega arith) h) g
]
  where
    later : (k : ℕ) → a + 1 ≤ k → Listed k (x ∷ xs) → x ≡ a → Listed k xs
    later k l (inl j) i = absurd (omega arith)
    later k l (inr h) i = h

    at_gap : (t : Bool) → q a ≡ t → (x ≡ a → ⊥) → q a ≡ false
    at_gap true i ne = let w = (Ascends_within x b a (x ∷ xs) (omega arith, r.1, r.2) (f a (omega arith) i)).0 in let l = r.0 in absurd (ne (omega arith))
    at_gap false i ne = i

pub set_of_below : (cs : List ℕ) (b : ℕ) → Ascends 0 b cs → set_of cs < 2 ^ b
set_of_below cs b r = below_from (set_of cs) b (λ k e. (Ascends_within 0 b k cs r (set_of-has k cs e)).1)

pub columns-set_of : (cs : List ℕ) (b : ℕ) → Ascends 0 b cs → columns (set_of cs) ≡ cs
columns-set_of cs b r = columns_below b (set_of cs) (set_of_below cs b r) ∙ kept (has (set_of cs)) b 0 b cs (omega arith) r (λ k l e. set_of-has k cs e) (λ k g. has-set_of k cs g)

pub set_of-kept : (n x : ℕ) → x < 2 ^ n → set_of (filter (has x) (upto n)) ≡ x
set_of-kept n x h = same_set _ x (λ k. same_test _ _
    (λ e. (Listed-filter_parts (has x) k (upto n) (set_of-has k _ e)).1)
    (λ e. has-set_of k _ (Listed-filter (has x) k (upto n) (Listed-upto n k (has_within x n k h e)) e)))

pub set_of-columns : (x : ℕ) → set_of (columns x) ≡ x
unfolding columns
set_of-columns x = set_of-kept x x (lt-pow x)

-- The report order ties no two sets.
pub report_cmp-same : (x y : ℕ) → report_cmp x y ≡ Equal → x ≡ y
unfolding report_cmp
report_cmp-same x y e = sym (set_of-columns x) ∙ ap set_of (slice_cmp-IsAntisymmetric nat_cmp-IsAntisymmetric (columns x) (columns y) (second (nat_cmp (size x) (size y)) e)) ∙ set_of-columns y
  where
    second : (o : Ordering) → ordering_then o (slice_cmp nat_cmp (columns x) (columns y)) ≡ Equal → slice_cmp nat_cmp (columns x) (columns y) ≡ Equal
    second Less e = cc
    second Equal e = e
    second Greater e = cc

-- the laws that `Ord` asks for
pub report_matches_partial : (x y : ℕ) → as_partial_cmp report_cmp x y ≡ Some (report_cmp x y)
report_matches_partial x y = refl

pub report_matches_eq : (x y : ℕ) → eqb x y ≡ eq_by_cmp report_cmp x y
report_matches_eq x y = same_test (eqb x y) (eq_by_cmp report_cmp x y)
    (λ e. ap (λ (z : ℕ). is_eq (report_cmp x z)) (sym (eqb-true x y e)) ∙ ap is_eq (tied_itself report_total x))
    (λ e. eq-eqb x y (report_cmp-same x y (tied (report_cmp x y) e)))
  where
    tied : (o : Ordering) → is_eq o ≡ true → o ≡ Equal
    tied Less e = absurd (false≢true e)
    tied Equal e = refl
    tied Greater e = absurd (false≢true e)

-- ---- combinations
length-filter_le : (p : ℕ → Bool) (xs : List ℕ) → length (filter p xs) ≤ length xs
length-filter_le p [] = omega arith
length-filter_le p (x ∷ xs) = by (p x) (length-filter_le p xs)
  where
    by : (b : Bool) → length (filter p xs) ≤ length xs → length (cond b (x ∷ filter p xs) (filter p xs)) ≤ suc (length xs)
    by true h = omega arith
    by false h = omega arith

skips : (k : ℕ) (l : List ℕ) (c : ℕ) (cs : List ℕ) → Listed l (combinations k cs) → Listed l (combinations k (c ∷ cs))
unfolding combinations
skips zero l c cs h = h
skips (suc k) l c cs h = Listed-append_right l (map (λ ds. c ∷ ds) (combinations k cs)) (combinations (suc k) cs) h

takes : (k : ℕ) (l : List ℕ) (c : ℕ) (cs : List ℕ) → Listed l (combinations k cs) → Listed (c ∷ l) (combinations (suc k) (c ∷ cs))
unfolding combinations
takes k l c cs h = Listed-append_left (c ∷ l) (map (λ ds. c ∷ ds) (combinations k cs)) (combinations (suc k) cs) (Listed-map (λ ds. c ∷ ds) l (combinations k cs) h)

Listed-combinations : (p : ℕ → Bool) (cs : List ℕ) → Listed (filter p cs) (combinations (length (filter p cs)) cs)
unfolding combinations
Listed-combinations p [] = inl refl
Listed-combinations p (c ∷ cs) = by (p c) (Listed-combinations p cs)
  where
    by : (b : Bool) → Listed (filter p cs) (combinations (length (filter p cs)) cs) → Listed (cond b (c ∷ filter p cs) (filter p cs)) (combinations (length (cond b (c ∷ filter p cs) (filter p cs))) (c ∷ cs))
    by true h = takes (length (filter p cs)) (filter p cs) c cs h
    by false h = skips (length (filter p cs)) (filter p cs) c cs h

-- each combination ascends, and has k columns
combination_parts : (k a b : ℕ) (cs l : List ℕ) → Ascends a b cs → Listed l (combinations k cs) → Ascends a b l × (length l ≡ k)
unfolding combinations
combination_parts zero a b cs l r (inl e) = (subst (Ascends a b) (sym e) tt, ap length e)
combination_parts zero a b cs l r (inr h) = absurd h
combination_parts (suc k) a b [] l r h = absurd h
combination_parts (suc k) a b (c ∷ cs) l r h = elim (Listed-append_cases l (map (λ ds. c ∷ ds) (combinations k cs)) (combinations (suc k) cs) h) as (λ _. Ascends a b l × (length l ≡ suc k)) [
  | inl g ↦ let w = Listed-map_which (λ ds. c ∷ ds) l (combinations k cs) g in let q = combination_parts k (c + 1) b cs w.0 r.2 w.1 in
      (subst (Ascends a b) (sym w.2) (r.0, r.1, q.0), ap length w.2 ∙ ap suc q.1)
  | inr g ↦ let q = combination_parts (suc k) (c + 1) b cs l r.2 g in let p = r.0 in (Ascends-weaker a (c + 1) b l (omega arith) q.0, q.1)
]

combinations_rise : (k a b : ℕ) (cs : List ℕ) → Ascends a b cs → Rises (slice_cmp nat_cmp) (combinations k cs)
unfolding combinations
combinations_rise zero a b cs r = ((λ y h. absurd h), tt)
combinations_rise (suc k) a b [] r = tt
combinations_rise (suc k) a b (c ∷ cs) r =
    Rises-append (slice_cmp nat_cmp) (map (λ ds. c ∷ ds) (combinations k cs)) (combinations (suc k) cs)
    (Rises-map (slice_cmp nat_cmp) (slice_cmp nat_cmp) (λ ds. c ∷ ds) (combinations k cs) (combinations_rise k (c + 1) b cs r.2) (λ x y h g e. ap (λ o. ordering_then o (slice_cmp nat_cmp x y)) (tied_itself nat_cmp_total c) ∙ e))
    (combinations_rise (suc k) (c + 1) b cs r.2)
    (λ x y h g. let w = Listed-map_which (λ ds. c ∷ ds) x (combinations k cs) h in let q = combination_parts (suc k) (c + 1) b cs y r.2 g in
    subst (λ z. slice_cmp nat_cmp z y ≡ Less) (sym w.2) (ahead w.0 y q.0 q.1))
  where
    ahead : (x y : List ℕ) → Ascends (c + 1) b y → length y ≡ suc k → slice_cmp nat_cmp (c ∷ x) y ≡ Less
    ahead x [] r e = absurd (omega arith)
    ahead x (d ∷ y) r e = ap (λ o. ordering_then o (slice_cmp nat_cmp x y)) (nat_cmp-lt c d (let l = r.0 in omega arith))

-- ---- all sets
pub Listed-all_sets : (n x : ℕ) → x < 2 ^ n → Listed x (all_sets n)
unfolding all_sets
Listed-all_sets n x h = subst (λ (z : ℕ). Listed z (map set_of (flat_map (λ k. combinations k (upto n)) (upto (n + 1))))) (set_of-kept n x h)
    (Listed-map set_of l _ (Listed-flat_map (λ k. combinations k (upto n)) (length l) l (upto (n + 1)) (Listed-upto (n + 1) (length l) short) (Listed-combinations (has x) (upto n))))
  where
    l : List ℕ
    l = filter (has x) (upto n)

    short : length (filter (has x) (upto n)) < n + 1
    short = let a = length-filter_le (has x) (upto n) in let b = length-range_with_len 0 n in omega arith

pub all_sets_below : (n x : ℕ) → Listed x (all_sets n) → x < 2 ^ n
unfolding all_sets
all_sets_below n x h =
    let w = Listed-map_which set_of x _ h in
    let v = Listed-flat_map_which (λ k. combinations k (upto n)) w.0 (upto (n + 1)) w.1 in
    let q = combination_parts v.0 0 n (upto n) w.0 (Ascends-range n 0 n (omega arith)) v.2 in
    below_from x n (λ k e. (Ascends_within 0 n k w.0 q.0 (set_of-has k w.0 (sym (ap (λ (z : ℕ). has z k) w.2) ∙ e))).1)

shorter : (x y : List ℕ) → length x < length y → then_cmp (on length nat_cmp) (slice_cmp nat_cmp) x y ≡ Less
shorter x y h = ap (λ o. ordering_then o (slice_cmp nat_cmp x y)) (nat_cmp-lt (length x) (length y) h)

as_long : (x y : List ℕ) → length x ≡ length y → slice_cmp nat_cmp x y ≡ Less → then_cmp (on length nat_cmp) (slice_cmp nat_cmp) x y ≡ Less
as_long x y e h = ap (λ o. ordering_then o (slice_cmp nat_cmp x y)) (ap (nat_cmp (length x)) (sym e) ∙ tied_itself nat_cmp_total (length x)) ∙ h

Rises-each : {X : Type 0} (R S : X → X → Ordering) (xs : List X) → Rises R xs → ((a b : X) → Listed a xs → Listed b xs → R a b ≡ Less → S a b ≡ Less) → Rises S xs
Rises-each R S [] r f = tt
Rises-each R S (x ∷ xs) r f = ((λ y h. f x y (inl refl) (inr h) (r.0 y h)), Rises-each R S xs r.1 (λ a b h g. f a b (inr h) (inr g)))

sizes_rise : (m n a : ℕ) → Rises (then_cmp (on length nat_cmp) (slice_cmp nat_cmp)) (flat_map (λ k. combinations k (upto n)) (range_with_len a m))
sizes_rise zero n a = tt
sizes_rise (suc m) n a =
    let long : (k : ℕ) (l : List ℕ) → Listed l (combinations k (upto n)) → length l ≡ k = λ k l h. (combination_parts k 0 n (upto n) l (Ascends-range n 0 n (omega arith)) h).1 in
    Rises-append (then_cmp (on length nat_cmp) (slice_cmp nat_cmp)) (combinations a (upto n)) (flat_map (λ k. combinations k (upto n)) (range_with_len (a + 1) m))
    (Rises-each (slice_cmp nat_cmp) (then_cmp (on length nat_cmp) (slice_cmp nat_cmp)) (combinations a (upto n)) (combinations_rise a 0 n (upto n) (Ascends-range n 0 n (omega arith)))
    (λ x y h g e. as_long x y (long a x h ∙ sym (long a y g)) e))
    (sizes_rise m n (a + 1))
    (λ x y h g. let v = Listed-flat_map_which (λ k. combinations k (upto n)) y (range_with_len (a + 1) m) g in
    let e = long a x h in let d = long v.0 y v.2 in let l = (Listed-range_within m (a + 1) v.0 v.1).0 in shorter x y (omega arith))

-- The list of all column sets is strictly sorted in report order.
pub Rises-all_sets : (n : ℕ) → Rises report_cmp (all_sets n)
unfolding all_sets report_cmp size
Rises-all_sets n = Rises-map (then_cmp (on length nat_cmp) (slice_cmp nat_cmp)) report_cmp set_of _ (sizes_rise (n + 1) n 0) (λ a b i j e.
    ap₂ (then_cmp (on length nat_cmp) (slice_cmp nat_cmp)) (back a i) (back b j) ∙ e)
  where
    back : (l : List ℕ) → Listed l (flat_map (λ k. combinations k (upto n)) (upto (n + 1))) → columns (set_of l) ≡ l
    back l i = let v = Listed-flat_map_which (λ k. combinations k (upto n)) l (upto (n + 1)) i in
        columns-set_of l n (combination_parts v.0 0 n (upto n) l (Ascends-range n 0 n (omega arith)) v.2).0
