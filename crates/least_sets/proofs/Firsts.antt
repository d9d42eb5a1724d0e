-- Sets with as many columns in report order, by the least column that only one of them has.
use Rattle.std.proofs.Common.{inl, inr, ◌≡◌, ◌≢◌, ◌⊎◌, ℕ, zero, suc, ◌+◌, ◌<◌, ◌≤◌, Bool, true, false, cond, not, ◌&&◌, ◌||◌, eqb, refl, sym, ap, ap₂, ◌∙◌, subst, arith, List, [], ◌∷◌, ◌++◌, length, get_or, set, take, replicate, Less, Equal, Greater, Some, None, IsPermutation}
use Rattle.std.specs.List.{filter, range_with_len}
use Rattle.std.specs.List.Sorted.{IsSortedBy}
use Rattle.std.specs.List.Retain.{IsFiltered, DiffersFromLast}
use Rattle.std.specs.Ordering.{nat_cmp, ordering_then, ordering_reverse, is_lt}
use Rattle.std.specs.Cmp.Lexicographic.{slice_cmp}
use Rattle.std.specs.Cmp.{IsStrictWeakOrder}
use Rattle.std.proofs.lemmas.Bool.{true≢false, false≢true, cases_eq, cases_lt, false_from_ne_true}
use Rattle.std.proofs.lemmas.List.{length-replicate, length-set, get_or-set_same, get_or-set_other, take_more}
use Rattle.std.proofs.lemmas.List.Sorted.{Contains-permutation, IsPermutation-sym}
use Rattle.std.proofs.lemmas.Cmp.{nat_cmp_total, nat_list_cmp_total, tied_itself}
use Rattle.std.proofs.lemmas.List.MinMax.{ranks_by}
use Rattle.col_set.specs.ColSet.{has, columns, size, first, minus, union, without, report_cmp, upto}
use Rattle.col_set.specs.Columns.{nat_cmp-lt, lt-pow, columns_below}
use Rattle.col_set.specs.Subsets.{below_from, has_within}
use Rattle.col_set.specs.Members.{has-minus, has-union, same_set}
use Rattle.col_set.specs.AllSets.{Ascends, Ascends_within}
use Rattle.col_set.specs.Lists.{Listed, Rises, Listed-append_left, Listed-append_right, Listed-append_cases, Rises-append}
use Rattle.col_set.proofs.EachColumn.{first-Some, first-None, Listed-columns, Ascends-columns}
use Rattle.least_sets.specs.BySize.{ended, first_cmp, AreSized, AreBySize}
use Rattle.col_set.proofs.Places.{Contains-listed, Listed-contained, Listed-get_or}
use Rattle.least_sets.specs.Members.{HasMembers}
use Rattle.least_sets.proofs.Sorting.{sorted_order}

-- ---- the first difference
nat_cmp-itself : (a : ℕ) → nat_cmp a a ≡ Equal
nat_cmp-itself a = tied_itself nat_cmp_total a

-- a number below all that pass and below the end stands first
before_rest : (q : ℕ → Bool) (n b a s : ℕ) (ys : List ℕ) → a < b → a < s → slice_cmp nat_cmp (a ∷ ys) (filter q (range_with_len b n) ++ s ∷ []) ≡ Less
before_rest q zero b a s ys l m = ap (λ o. ordering_then o (slice_cmp nat_cmp ys [])) (nat_cmp-lt a s m)
before_rest q (suc n) b a s ys l m = by (q b) (before_rest q n (b + 1) a s ys (omega arith) m)
  where
    by : (t : Bool) → slice_cmp nat_cmp (a ∷ ys) (filter q (range_with_len (b + 1) n) ++ s ∷ []) ≡ Less
        → slice_cmp nat_cmp (a ∷ ys) (cond t (b ∷ filter q (range_with_len (b + 1) n)) (filter q (range_with_len (b + 1) n)) ++ s ∷ []) ≡ Less
    by true rest = ap (λ o. ordering_then o (slice_cmp nat_cmp ys (filter q (range_with_len (b + 1) n) ++ s ∷ []))) (nat_cmp-lt a b l)
    by false rest = rest

least_first : (p q : ℕ → Bool) (n a t s : ℕ) → a ≤ t → t < a + n → t < s → ((k : ℕ) → k < t → p k ≡ q k) → p t ≡ true → q t ≡ false
    → slice_cmp nat_cmp (filter p (range_with_len a n) ++ s ∷ []) (filter q (range_with_len a n) ++ s ∷ []) ≡ Less
least_first p q zero a t s l h m same hit miss = absurd (omega arith)
least_first p q (suc n) a t s l h m same hit miss = elim (cases_eq a t) as (λ _. slice_cmp nat_cmp (filter p (range_with_len a (suc n)) ++ s ∷ []) (filter q (range_with_len a (suc n)) ++ s ∷ []) ≡ Less) [
  | inl eq ↦ at_once (p a) (q a) (ap p eq ∙ hit) (ap q eq ∙ miss)
  | inr ne ↦ later (p a) (q a) (same a (omega arith)) (least_first p q n (a + 1) t s (omega arith) (omega arith) m same hit miss)
]
  where
    at_once : (u v : Bool) → u ≡ true → v ≡ false
        → slice_cmp nat_cmp (cond u (a ∷ filter p (range_with_len (a + 1) n)) (filter p (range_with_len (a + 1) n)) ++ s ∷ []) (cond v (a ∷ filter q (range_with_len (a + 1) n)) (filter q (range_with_len (a + 1) n)) ++ s ∷ []) ≡ Less
    at_once true false i j = before_rest q n (a + 1) a s (filter p (range_with_len (a + 1) n) ++ s ∷ []) (omega arith) (omega arith)
    at_once true true i j = absurd (true≢false j)
    at_once false v i j = absurd (false≢true i)

    later : (u v : Bool) → u ≡ v → slice_cmp nat_cmp (filter p (range_with_len (a + 1) n) ++ s ∷ []) (filter q (range_with_len (a + 1) n) ++ s ∷ []) ≡ Less
        → slice_cmp nat_cmp (cond u (a ∷ filter p (range_with_len (a + 1) n)) (filter p (range_with_len (a + 1) n)) ++ s ∷ []) (cond v (a ∷ filter q (range_with_len (a + 1) n)) (filter q (range_with_len (a + 1) n)) ++ s ∷ []) ≡ Less
    later true true i rest = ap (λ o. ordering_then o (slice_cmp nat_cmp (filter p (range_with_len (a + 1) n) ++ s ∷ []) (filter q (range_with_len (a + 1) n) ++ s ∷ []))) (nat_cmp-itself a) ∙ rest
    later false false i rest = rest
    later true false i rest = absurd (true≢false i)
    later false true i rest = absurd (false≢true i)

-- the columns among any numbers that reach far enough
columns_among : (n x : ℕ) → x ≤ n → columns x ≡ filter (has x) (upto n)
columns_among n x l = columns_below n x (below_from x n (λ k h. let g : k < x = has_within x x k (lt-pow x) h in omega arith))

-- t is the least column that only one of them has
pub record Differ (x y t : ℕ) : Type 0 where
  pub within : t < 128
  pub below : (k : ℕ) → k < t → has x k ≡ has y k
  pub at : has y t ≡ not (has x t)

first_less : (x y t : ℕ) → Differ x y t → has x t ≡ true → first_cmp x y ≡ Less
first_less x y t d h =
    let l : t < x = has_within x x t (lt-pow x) h in
    ap₂ (λ (xs ys : List ℕ). slice_cmp nat_cmp (xs ++ 128 ∷ []) (ys ++ 128 ∷ [])) (columns_among (x + y) x (omega arith)) (columns_among (x + y) y (omega arith))
    ∙ least_first (has x) (has y) (x + y) 0 t 128 (omega arith) (omega arith) d.within d.below h (d.at ∙ ap not h)

pub cmp_less : (x y t : ℕ) → Differ x y t → has x t ≡ true → Less ≡ first_cmp x y
cmp_less x y t d h = sym (first_less x y t d h)

pub cmp_greater : (x y t : ℕ) → Differ x y t → has x t ≡ false → Greater ≡ first_cmp x y
cmp_greater x y t d h =
    let hit : has y t ≡ true = d.at ∙ ap not h in
    ap ordering_reverse (sym (first_less y x t (record { within = d.within; below = λ k l. sym (d.below k l); at = h ∙ sym (ap not hit) }) hit))
    ∙ sym (nat_list_cmp_total.antisymm (ended x) (ended y))

-- what the first column of both differences tells
abbrev pub differing : ℕ → ℕ → ℕ
differing x y = union (minus x y) (minus y x)

has_differing : (x y k : ℕ) → has (differing x y) k ≡ ((has x k && not (has y k)) || (has y k && not (has x k)))
has_differing x y k = has-union (minus x y) (minus y x) k ∙ ap₂ (λ a b. a || b) (has-minus x y k) (has-minus y x k)

first_least : (x t k : ℕ) → Some t ≡ first x → k < t → has x k ≡ false
first_least x t k e l = false_from_ne_true _ (λ h.
    let r = first-Some x t e in
    let whole : Ascends 0 x (t ∷ columns (without x t)) = subst (Ascends 0 x) r.columns_are (Ascends-columns x) in
    elim (subst (Listed k) r.columns_are (Listed-columns x k h)) as (λ _. ⊥) [
      | inl i ↦ omega arith
      | inr g ↦ let w = (Ascends_within (t + 1) x k (columns (without x t)) whole.2 g).0 in omega arith
    ])

pub differ_at : (x y t : ℕ) → t < 128 → Some t ≡ first (differing x y) → Differ x y t
differ_at x y t l e = record {
  within = l;
  below = λ k h. same (has x k) (has y k) (sym (has_differing x y k) ∙ first_least (differing x y) t k e h);
  at = other (has x t) (has y t) (sym (has_differing x y t) ∙ (first-Some (differing x y) t e).had);
}
  where
    same : (a b : Bool) → ((a && not b) || (b && not a)) ≡ false → a ≡ b
    same true true e = refl
    same false false e = refl
    same true false e = absurd (true≢false e)
    same false true e = absurd (true≢false e)

    other : (a b : Bool) → ((a && not b) || (b && not a)) ≡ true → b ≡ not a
    other true false e = refl
    other false true e = refl
    other true true e = absurd (false≢true e)
    other false false e = absurd (false≢true e)

pub cmp_equal : (x y : ℕ) → None ≡ first (differing x y) → Equal ≡ first_cmp x y
cmp_equal x y e = sym (tied_itself nat_list_cmp_total (ended x)) ∙ ap (λ (v : ℕ). first_cmp x v) (same_set x y (λ k. same (has x k) (has y k) (sym (has_differing x y k) ∙ none k)))
  where
    none : (k : ℕ) → has (differing x y) k ≡ false
    none k = false_from_ne_true _ (λ h. absurd (subst (Listed k) (first-None (differing x y) e) (Listed-columns (differing x y) k h)))

    same : (a b : Bool) → ((a && not b) || (b && not a)) ≡ false → a ≡ b
    same true true e = refl
    same false false e = refl
    same true false e = absurd (true≢false e)
    same false true e = absurd (true≢false e)

-- ---- sets with as many columns
same_ends : (xs ys zs : List ℕ) → length xs ≡ length ys → slice_cmp nat_cmp (xs ++ zs) (ys ++ zs) ≡ slice_cmp nat_cmp xs ys
same_ends [] [] zs e = tied_itself nat_list_cmp_total zs
same_ends [] (y ∷ ys) zs e = absurd (omega arith)
same_ends (x ∷ xs) [] zs e = absurd (omega arith)
same_ends (x ∷ xs) (y ∷ ys) zs e = ap (ordering_then (nat_cmp x y)) (same_ends xs ys zs (omega arith))

by_first : (x y : ℕ) → size x ≡ size y → report_cmp x y ≡ first_cmp x y
unfolding report_cmp size
by_first x y e = ap (λ o. ordering_then o (slice_cmp nat_cmp (columns x) (columns y))) (ap (nat_cmp (length (columns x))) (sym e) ∙ nat_cmp-itself (length (columns x))) ∙ sym (same_ends (columns x) (columns y) (128 ∷ []) e)

pub first_ranks : IsStrictWeakOrder (λ x y. is_lt (first_cmp x y))
first_ranks = ranks_by nat_list_cmp_total ended

fewer_first : (x y : ℕ) → size x < size y → report_cmp x y ≡ Less
unfolding report_cmp
fewer_first x y l = ap (λ o. ordering_then o (slice_cmp nat_cmp (columns x) (columns y))) (nat_cmp-lt (size x) (size y) l)

-- ---- a list for each size
none_listed : (m n x : ℕ) → Listed x (get_or (replicate m []) n []) → ⊥
none_listed zero n x h = absurd h
none_listed (suc m) zero x h = absurd h
none_listed (suc m) (suc n) x h = none_listed m n x h

pub by_size_none : (xs : List ℕ) (lists : List (List ℕ)) → xs ≡ [] → lists ≡ replicate 129 [] → AreBySize xs lists
by_size_none xs lists e f = record {
  count = ap length f ∙ length-replicate {A = List ℕ} 129 [];
  sized = λ n. record { each = λ x h. absurd (nothing n x h) };
  real = λ n x h. absurd (nothing n x h);
  every = λ x h. absurd (subst (Listed x) e h);
  bound = λ x h. absurd (subst (Listed x) e h);
}
  where
    nothing : (n x : ℕ) → Listed x (get_or lists n []) → ⊥
    nothing n x h = none_listed 129 n x (subst (λ ls. Listed x (get_or ls n [])) f h)

module _ (xs : List ℕ) (lists new : List (List ℕ)) (i x : ℕ) (l : i < length xs) (is : x ≡ get_or xs i x) (few : size x ≤ 128) (b : AreBySize (take i xs) lists) (e : new ≡ set lists (size x) (get_or lists (size x) [] ++ x ∷ [])) where
  front : take (i + 1) xs ≡ take i xs ++ x ∷ []
  front = take_more xs i x l ∙ ap (λ (y : ℕ). take i xs ++ y ∷ []) (sym is)

  here : get_or new (size x) [] ≡ get_or lists (size x) [] ++ x ∷ []
  here = ap (λ ls. get_or ls (size x) []) e ∙ get_or-set_same lists (size x) (get_or lists (size x) [] ++ x ∷ []) [] (let m = b.count in omega (arith, m, few))

  other : (n : ℕ) → n ≢ size x → get_or new n [] ≡ get_or lists n []
  other n ne = ap (λ ls. get_or ls n []) e ∙ get_or-set_other lists (size x) n (get_or lists (size x) [] ++ x ∷ []) [] ne

  -- what stands in a new list stood there, or is the new one
  which : (n y : ℕ) → Listed y (get_or new n []) → Listed y (get_or lists n []) ⊎ ((y ≡ x) × (n ≡ size x))
  which n y h = elim (cases_eq n (size x)) as (λ _. Listed y (get_or lists n []) ⊎ ((y ≡ x) × (n ≡ size x))) [
    | inl eq ↦ elim (Listed-append_cases y (get_or lists (size x) []) (x ∷ []) (subst (Listed y) (ap (λ (m : ℕ). get_or new m []) eq ∙ here) h)) as (λ _. Listed y (get_or lists n []) ⊎ ((y ≡ x) × (n ≡ size x))) [
      | inl g ↦ inl (subst (λ (m : ℕ). Listed y (get_or lists m [])) (sym eq) g)
      | inr g ↦ inr (only y g, eq)
    ]
    | inr ne ↦ inl (subst (Listed y) (other n ne) h)
  ]
    where
      only : (y : ℕ) → Listed y (x ∷ []) → y ≡ x
      only y (inl j) = j
      only y (inr j) = absurd j

  older : (y : ℕ) → Listed y (take (i + 1) xs) → Listed y (take i xs) ⊎ (y ≡ x)
  older y h = elim (Listed-append_cases y (take i xs) (x ∷ []) (subst (Listed y) front h)) as (λ _. Listed y (take i xs) ⊎ (y ≡ x)) [ inl g ↦ inl g | inr g ↦ inr (only y g) ]
    where
      only : (y : ℕ) → Listed y (x ∷ []) → y ≡ x
      only y (inl j) = j
      only y (inr j) = absurd j

  still : (n y : ℕ) → Listed y (get_or lists n []) → Listed y (get_or new n [])
  still n y h = elim (cases_eq n (size x)) as (λ _. Listed y (get_or new n [])) [
    | inl eq ↦ subst (Listed y) (sym (ap (λ (m : ℕ). get_or new m []) eq ∙ here)) (Listed-append_left y (get_or lists (size x) []) (x ∷ []) (subst (λ (m : ℕ). Listed y (get_or lists m [])) eq h))
    | inr ne ↦ subst (Listed y) (sym (other n ne)) h
  ]

  pub by_size_more : AreBySize (take (i + 1) xs) new
  by_size_more = record {
    count = ap length e ∙ length-set lists (size x) (get_or lists (size x) [] ++ x ∷ []) ∙ b.count;
    sized = λ n. record { each = λ y h. elim (which n y h) as (λ _. size y ≡ n) [ inl g ↦ (b.sized n).each y g | inr g ↦ ap size g.0 ∙ sym g.1 ] };
    real = λ n y h. subst (Listed y) (sym front) (elim (which n y h) as (λ _. Listed y (take i xs ++ x ∷ [])) [
      | inl g ↦ Listed-append_left y (take i xs) (x ∷ []) (b.real n y g)
      | inr g ↦ Listed-append_right y (take i xs) (x ∷ []) (inl g.0)
    ]);
    every = λ y h. elim (older y h) as (λ _. Listed y (get_or new (size y) [])) [
      | inl g ↦ still (size y) y (b.every y g)
      | inr g ↦ subst (λ (v : ℕ). Listed v (get_or new (size v) [])) (sym g) (subst (Listed x) (sym here) (Listed-append_right x (get_or lists (size x) []) (x ∷ []) (inl refl)))
    ];
    bound = λ y h. elim (older y h) as (λ _. size y ≤ 128) [ inl g ↦ b.bound y g | inr g ↦ subst (λ (v : ℕ). size v ≤ 128) (sym g) few ];
  }

-- ---- one size
pub run_order : (n : ℕ) (sets xs ys : List ℕ) → IsPermutation sets xs → IsSortedBy (λ x y. is_lt (first_cmp x y)) xs → IsFiltered (DiffersFromLast eqb) [] xs ys → AreSized n sets → Rises report_cmp ys
run_order n sets xs ys p s f a = sorted_order xs ys (λ k d l h. ap is_lt (by_first (get_or xs (k + 1) d) (get_or xs k d) (sized (k + 1) d (omega arith) ∙ sym (sized k d (omega arith)))) ∙ s k d l h) f
  where
    sized : (k d : ℕ) → k < length xs → size (get_or xs k d) ≡ n
    sized k d l = a.each (get_or xs k d) (Listed-contained (get_or xs k d) sets (Contains-permutation xs sets (get_or xs k d) (IsPermutation-sym sets xs p) (Contains-listed (get_or xs k d) xs (Listed-get_or xs k d l))))

-- ---- one size after another
-- the sets with fewer columns than k
pub record MadeSoFar (xs : List ℕ) (k : ℕ) (made : List ℕ) : Type 0 where
  pub order : Rises report_cmp made
  pub real : (x : ℕ) → Listed x made → Listed x xs
  pub small : (x : ℕ) → Listed x made → size x < k
  pub every : (x : ℕ) → Listed x xs → size x < k → Listed x made

pub made_none : (xs made : List ℕ) → made ≡ [] → MadeSoFar xs 0 made
made_none xs made e = record {
  order = subst (Rises report_cmp) (sym e) tt;
  real = λ x h. absurd (subst (Listed x) e h);
  small = λ x h. absurd (subst (Listed x) e h);
  every = λ x h l. absurd (omega arith);
}

pub made_more : (xs : List ℕ) (lists : List (List ℕ)) (k : ℕ) (list run made new : List ℕ) → AreBySize xs lists → list ≡ get_or lists k [] → ((n : ℕ) → AreSized n list → Rises report_cmp run) → HasMembers list run → new ≡ made ++ run → MadeSoFar xs k made → MadeSoFar xs (k + 1) new
made_more xs lists k list run made new b e o m f s = record {
  order = subst (Rises report_cmp) (sym f) (Rises-append report_cmp made run s.order (o k (subst (AreSized k) (sym e) (b.sized k))) (λ x y h g. fewer_first x y (let p = s.small x h in let q = sized y g in omega (arith, p, q))));
  real = λ x h. elim (parts x h) as (λ _. Listed x xs) [ inl g ↦ s.real x g | inr g ↦ b.real k x (subst (Listed x) e (m.each x g)) ];
  small = λ x h. elim (parts x h) as (λ _. size x < k + 1) [ inl g ↦ (let p = s.small x g in omega (arith, p)) | inr g ↦ (let q = sized x g in omega (arith, q)) ];
  every = λ x h l. elim (cases_lt (size x) k) as (λ _. Listed x new) [
    | inl g ↦ subst (Listed x) (sym f) (Listed-append_left x made run (s.every x h g))
    | inr g ↦ subst (Listed x) (sym f) (Listed-append_right x made run (m.every x (subst (Listed x) (sym e) (subst (λ (n : ℕ). Listed x (get_or lists n [])) (let same : size x ≡ k = omega (arith, l, g) in same) (b.every x h)))))
  ];
}
  where
    sized : (y : ℕ) → Listed y run → size y ≡ k
    sized y g = (b.sized k).each y (subst (Listed y) e (m.each y g))

    parts : (x : ℕ) → Listed x new → Listed x made ⊎ Listed x run
    parts x h = Listed-append_cases x made run (subst (Listed x) f h)

pub made_all : (xs : List ℕ) (lists : List (List ℕ)) (k : ℕ) (made : List ℕ) → AreBySize xs lists → length lists ≤ k → MadeSoFar xs k made → HasMembers xs made
made_all xs lists k made b l s = record { each = s.real; every = λ x h. s.every x h (let p = b.bound x h in let q = b.count in omega (arith, p, q, l)) }
