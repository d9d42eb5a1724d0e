-- Codes of rows: loops that gather them, ranks, and the table of groups by row.
use Rattle.std.proofs.Common.{inl, inr, ◌≡◌, ◌⊎◌, ℕ, zero, suc, ◌+◌, ◌-◌, ◌<◌, ◌≤◌, Bool, true, false, cond, ◌||◌, eqb, ltb, refl, sym, ap, ap₂, ◌∙◌, subst, arith, List, [], ◌∷◌, ◌++◌, length, get_or, set, map, take, count_by, append-nil}
use Rattle.std.specs.List.{filter, range_with_len, list_any, All}
use Rattle.std.specs.List.Sorted.{IsPermutation}
use Rattle.std.proofs.lemmas.Bool.{eqb-true, eq-eqb, ne_eqb, lt-ltb, le-ltb, cases_eq, cases_lt, cases_order, cases_Bool}
use Rattle.std.proofs.lemmas.List.{take_more, take_all, map-append, get_or-set_same, get_or-set_other, length-set}
use Rattle.std.proofs.lemmas.List.Elements.{filter-append}
use Rattle.std.proofs.lemmas.List.Folds.{list_any-append}
use Rattle.std.proofs.lemmas.List.Sums.{sum_by-cons}
use Rattle.std.proofs.lemmas.List.Sorted.{sum_by-IsPermutation}
use Rattle.col_set.specs.Lists.{Listed, Listed-append_cases, list_any_at, list_any_which}
use Rattle.col_set.proofs.Places.{Listed-contained, Listed-get_or}
use Rattle.stripped_partition.specs.Codes.{IsRecoded, IsTable}

-- ---- live rows
range_push : (n a : ℕ) → range_with_len a (n + 1) ≡ range_with_len a n ++ (a + n) ∷ []
range_push zero a = ap (λ (i : ℕ). i ∷ []) (let e : a ≡ a + 0 = omega arith in e)
range_push (suc n) a = ap (range_with_len a) (let e : suc n + 1 ≡ suc (n + 1) = omega arith in e) ∙ ap (λ is. a ∷ is) (range_push n (a + 1)) ∙ ap (λ (i : ℕ). (a ∷ range_with_len (a + 1) n) ++ i ∷ []) (let e : a + 1 + n ≡ a + suc n = omega arith in e)

live_more : (p : ℕ → Bool) (n : ℕ) → 1 ≤ n → filter p (range_with_len 1 (n + 1 - 1)) ≡ filter p (range_with_len 1 (n - 1)) ++ cond (p n) (n ∷ []) []
live_more p n l =
    ap (λ (m : ℕ). filter p (range_with_len 1 m)) (let e : n + 1 - 1 ≡ n - 1 + 1 = omega arith in e)
    ∙ ap (filter p) (range_push (n - 1) 1 ∙ ap (λ (m : ℕ). range_with_len 1 (n - 1) ++ m ∷ []) (let e : 1 + (n - 1) ≡ n = omega arith in e))
    ∙ filter-append p (range_with_len 1 (n - 1)) (n ∷ [])

pub live_yes : (p : ℕ → Bool) (rows : List ℕ) (n : ℕ) → 1 ≤ n → rows ≡ filter p (range_with_len 1 (n - 1)) → p n ≡ true → rows ++ n ∷ [] ≡ filter p (range_with_len 1 (n + 1 - 1))
live_yes p rows n l e t = ap (λ (xs : List ℕ). xs ++ n ∷ []) e ∙ sym (live_more p n l ∙ ap (λ b. filter p (range_with_len 1 (n - 1)) ++ cond b (n ∷ []) []) t)

pub live_not : (p : ℕ → Bool) (rows : List ℕ) (n : ℕ) → 1 ≤ n → rows ≡ filter p (range_with_len 1 (n - 1)) → p n ≡ false → rows ≡ filter p (range_with_len 1 (n + 1 - 1))
live_not p rows n l e f = e ∙ sym (live_more p n l ∙ ap (λ b. filter p (range_with_len 1 (n - 1)) ++ cond b (n ∷ []) []) f ∙ append-nil _)

-- ---- a code for each row
pub map_next : (f : ℕ → ℕ) (rows codes : List ℕ) (i code : ℕ) → i < length rows → codes ≡ map f (take i rows) → code ≡ f (get_or rows i 0) → codes ++ code ∷ [] ≡ map f (take (i + 1) rows)
map_next f rows codes i code l e c =
    ap₂ (λ (xs : List ℕ) (x : ℕ). xs ++ x ∷ []) e c ∙ sym (map-append f (take i rows) (get_or rows i 0 ∷ [])) ∙ ap (map f) (sym (take_more rows i 0 l))

pub map_done : (f : ℕ → ℕ) (rows codes : List ℕ) (i : ℕ) → length rows ≤ i → codes ≡ map f (take i rows) → codes ≡ map f rows
map_done f rows codes i l e = e ∙ ap (map f) (take_all i rows l)

-- ---- ranks
abbrev pub rank_of : List ℕ → ℕ → ℕ
rank_of codes c = count_by (λ d. ltb d c) codes

abbrev tally : Bool → ℕ
tally b = cond b 1 0

rank-cons : (d : ℕ) (codes : List ℕ) (c : ℕ) → rank_of (d ∷ codes) c ≡ tally (ltb d c) + rank_of codes c
rank-cons d codes c = sum_by-cons (λ d. cond (ltb d c) 1 0) d codes

tally-le : (d a b : ℕ) → a ≤ b → tally (ltb d a) ≤ tally (ltb d b)
tally-le d a b l = elim (cases_lt d a) as (λ _. tally (ltb d a) ≤ tally (ltb d b)) [
  | inl m ↦ let e : tally (ltb d a) ≡ 1 = ap tally (lt-ltb d a m) in let f : tally (ltb d b) ≡ 1 = ap tally (lt-ltb d b (omega arith)) in omega arith
  | inr m ↦ let e : tally (ltb d a) ≡ 0 = ap tally (le-ltb d a m) in omega arith
]

rank-le : (codes : List ℕ) (a b : ℕ) → a ≤ b → rank_of codes a ≤ rank_of codes b
rank-le [] a b l = omega arith
rank-le (d ∷ codes) a b l =
    let r = rank-le codes a b l in let t = tally-le d a b l in
    let e = rank-cons d codes a in let f = rank-cons d codes b in omega arith

-- a smaller code of the list has a smaller rank
rank-lt : (codes : List ℕ) (a b : ℕ) → Listed a codes → a < b → rank_of codes a < rank_of codes b
rank-lt [] a b h l = absurd h
rank-lt (d ∷ codes) a b (inl i) l =
    let r = rank-le codes a b (omega arith) in
    let e = rank-cons d codes a in let f = rank-cons d codes b in
    let x : tally (ltb d a) ≡ 0 = ap tally (le-ltb d a (let j : a ≡ d = i in omega arith)) in
    let y : tally (ltb d b) ≡ 1 = ap tally (lt-ltb d b (let j : a ≡ d = i in omega arith)) in omega arith
rank-lt (d ∷ codes) a b (inr h) l =
    let r = rank-lt codes a b h l in let t = tally-le d a b (omega arith) in
    let e = rank-cons d codes a in let f = rank-cons d codes b in omega arith

rank-short : (codes : List ℕ) (a : ℕ) → Listed a codes → rank_of codes a < length codes
rank-short [] a h = absurd h
rank-short (d ∷ codes) a (inl i) =
    let e = rank-cons d codes a in
    let x : tally (ltb d a) ≡ 0 = ap tally (le-ltb d a (let j : a ≡ d = i in omega arith)) in
    let s = rank_short codes in omega arith
  where
    rank_short : (codes : List ℕ) → rank_of codes a ≤ length codes
    rank_short [] = omega arith
    rank_short (c ∷ codes) = let e = rank-cons c codes a in let r = rank_short codes in let t = one c in omega arith
      where
        one : (c : ℕ) → tally (ltb c a) ≤ 1
        one c = elim (cases_Bool (ltb c a)) as (λ _. tally (ltb c a) ≤ 1) [
          | inl t ↦ let e : tally (ltb c a) ≡ 1 = ap tally t in omega arith
          | inr f ↦ let e : tally (ltb c a) ≡ 0 = ap tally f in omega arith
        ]
rank-short (d ∷ codes) a (inr h) =
    let e = rank-cons d codes a in let r = rank-short codes a h in
    elim (cases_Bool (ltb d a)) as (λ _. rank_of (d ∷ codes) a < suc (length codes)) [
      | inl t ↦ let x : tally (ltb d a) ≡ 1 = ap tally t in omega arith
      | inr f ↦ let x : tally (ltb d a) ≡ 0 = ap tally f in omega arith
    ]

-- a point before which all numbers are smaller, and none after it
pub count_point : (p : ℕ → Bool) (xs : List ℕ) (i : ℕ) → i ≤ length xs → ((k d : ℕ) → 0 ≤ k → k < i → p (get_or xs k d) ≡ true) → ((k d : ℕ) → i ≤ k → k < length xs → p (get_or xs k d) ≡ false) → count_by p xs ≡ i
count_point p [] i l f g = (let e : i ≡ 0 = omega arith in sym e)
count_point p (x ∷ xs) zero l f g =
    let r = count_point p xs zero (omega arith) (λ k d a b. absurd (omega arith)) (λ k d a b. g (suc k) d (omega arith) (omega arith)) in
    let s = sum_by-cons (λ y. cond (p y) 1 0) x xs in
    let t : tally (p x) ≡ 0 = ap tally (g 0 0 (omega arith) (omega arith)) in omega arith
count_point p (x ∷ xs) (suc i) l f g =
    let r = count_point p xs i (omega arith) (λ k d a b. f (suc k) d (omega arith) (omega arith)) (λ k d a b. g (suc k) d (omega arith) (omega arith)) in
    let s = sum_by-cons (λ y. cond (p y) 1 0) x xs in
    let t : tally (p x) ≡ 1 = ap tally (f 0 0 (omega arith) (omega arith)) in omega arith

pub ranks_recode : (codes ranks : List ℕ) (bound : ℕ) → ranks ≡ map (rank_of codes) codes → bound ≡ length codes → IsRecoded codes ranks bound
ranks_recode codes ranks bound is e = record {
  recode = rank_of codes;
  is = is;
  below = λ k d l. let s = rank-short codes (get_or codes k d) (Listed-get_or codes k d l) in omega arith;
  apart = λ c d h g same. elim (cases_order c d) as (λ _. c ≡ d) [
    | inl i ↦ i
    | inr (inl l) ↦ absurd (let r = rank-lt codes c d (Listed-contained c codes h) l in omega arith)
    | inr (inr l) ↦ absurd (let r = rank-lt codes d c (Listed-contained d codes g) l in omega arith)
  ];
}

pub same_recode : (codes : List ℕ) (bound : ℕ) → All (λ (c : ℕ). c < bound) codes → IsRecoded codes codes bound
same_recode codes bound below = record { recode = λ c. c; is = sym (map-id codes); below = below; apart = λ c d h g e. e }
  where
    map-id : (xs : List ℕ) → map (λ (c : ℕ). c) xs ≡ xs
    map-id [] = refl
    map-id (x ∷ xs) = ap (λ ys. x ∷ ys) (map-id xs)

-- the sorted codes have the same ranks
pub rank_sorted : (codes sorted : List ℕ) (c : ℕ) → IsPermutation codes sorted → rank_of sorted c ≡ rank_of codes c
rank_sorted codes sorted c p = sum_by-IsPermutation (λ d. cond (ltb d c) 1 0) codes sorted p

-- ---- the table of groups by row
abbrev pub has_row : List ℕ → ℕ → Bool
has_row rows i = list_any (λ row. eqb row i) rows

mark_cases : (a b : Bool) (place old : ℕ) → cond (a || (b || false)) place old ≡ cond b place (cond a place old)
mark_cases true true place old = refl
mark_cases true false place old = refl
mark_cases false true place old = refl
mark_cases false false place old = refl

pub mark_next : (old table rows : List ℕ) (k place : ℕ) → k < length rows → get_or rows k 0 < length table → ((i : ℕ) → i < length table → get_or table i 0 ≡ cond (has_row (take k rows) i) place (get_or old i 0))
    → (i : ℕ) → i < length (set table (get_or rows k 0) place) → get_or (set table (get_or rows k 0) place) i 0 ≡ cond (has_row (take (k + 1) rows) i) place (get_or old i 0)
mark_next old table rows k place l b inv i m =
    written (cases_eq i (get_or rows k 0))
    ∙ ap (λ (n : ℕ). cond (eqb (get_or rows k 0) i) place n) (inv i (let e = length-set table (get_or rows k 0) place in omega arith))
    ∙ sym (ap (λ (xs : List ℕ). cond (has_row xs i) place (get_or old i 0)) (take_more rows k 0 l)
    ∙ ap (λ b. cond b place (get_or old i 0)) (list_any-append (λ row. eqb row i) (take k rows) (get_or rows k 0 ∷ []))
    ∙ mark_cases (has_row (take k rows) i) (eqb (get_or rows k 0) i) place (get_or old i 0))
  where
    written : (i ≡ get_or rows k 0) ⊎ (i ≡ get_or rows k 0 → ⊥) → get_or (set table (get_or rows k 0) place) i 0 ≡ cond (eqb (get_or rows k 0) i) place (get_or table i 0)
    written (inl e) =
        ap (λ (j : ℕ). get_or (set table (get_or rows k 0) place) j 0) e ∙ get_or-set_same table (get_or rows k 0) place 0 b
        ∙ sym (ap (λ b. cond b place (get_or table i 0)) (eq-eqb (get_or rows k 0) i (sym e)))
    written (inr ne) =
        get_or-set_other table (get_or rows k 0) i place 0 ne
        ∙ sym (ap (λ b. cond b place (get_or table i 0)) (ne_eqb (get_or rows k 0) i (λ e. ne (sym e))))

-- the table after some groups were written
pub record Tabled (groups : List (List ℕ)) (table : List ℕ) (k : ℕ) : Type 0 where
  pub only : (i : ℕ) → i < length table → get_or table i 0 < length groups → Listed i (get_or groups (get_or table i 0) [])
  pub kept : (g : List ℕ) (i : ℕ) → Listed g (take k groups) → Listed i g → (i < length table) × (get_or table i 0 < length groups)

pub tabled_none : (groups : List (List ℕ)) (table : List ℕ) (n : ℕ) → length groups ≤ n → All (λ (place : ℕ). place ≡ n) table → Tabled groups table 0
tabled_none groups table n l f = record {
  only = λ i m b. let e : get_or table i 0 ≡ n = f i 0 m in absurd (omega arith);
  kept = λ g i h m. absurd h;
}

module _ (groups : List (List ℕ)) (table table_after : List ℕ) (k : ℕ) (l : k < length groups) (p : Tabled groups table k) (same : length table_after ≡ length table)
    (f : (i : ℕ) → i < length table_after → get_or table_after i 0 ≡ cond (has_row (get_or groups k []) i) k (get_or table i 0)) where
  marked : (i : ℕ) → i < length table_after → has_row (get_or groups k []) i ≡ true → get_or table_after i 0 ≡ k
  marked i m t = f i m ∙ ap (λ b. cond b k (get_or table i 0)) t

  unmarked : (i : ℕ) → i < length table_after → has_row (get_or groups k []) i ≡ false → get_or table_after i 0 ≡ get_or table i 0
  unmarked i m t = f i m ∙ ap (λ b. cond b k (get_or table i 0)) t

  holds : (i : ℕ) → has_row (get_or groups k []) i ≡ true → Listed i (get_or groups k [])
  holds i t = let w = list_any_which (λ row. eqb row i) (get_or groups k []) t in subst (λ (z : ℕ). Listed z (get_or groups k [])) (eqb-true w.0 i w.2) w.1

  still : (i : ℕ) → i < length table_after → get_or table i 0 < length groups → get_or table_after i 0 < length groups
  still i m b = elim (cases_Bool (has_row (get_or groups k []) i)) as (λ _. get_or table_after i 0 < length groups) [
    | inl t ↦ let e = marked i m t in omega arith
    | inr t ↦ let e = unmarked i m t in omega arith
  ]

  pub tabled_more : ((i : ℕ) → Listed i (get_or groups k []) → i < length table) → Tabled groups table_after (k + 1)
  tabled_more within = record {
    only = λ i m b. elim (cases_Bool (has_row (get_or groups k []) i)) as (λ _. Listed i (get_or groups (get_or table_after i 0) [])) [
      | inl t ↦ subst (λ (n : ℕ). Listed i (get_or groups n [])) (sym (marked i m t)) (holds i t)
      | inr t ↦ subst (λ (n : ℕ). Listed i (get_or groups n [])) (sym (unmarked i m t)) (let e = unmarked i m t in p.only i (omega arith) (omega arith))
    ];
    kept = λ g i h m. by g i m (Listed-append_cases g (take k groups) (get_or groups k [] ∷ []) (subst (Listed g) (take_more groups k [] l) h));
  }
    where
      by : (g : List ℕ) (i : ℕ) → Listed i g → Listed g (take k groups) ⊎ Listed g (get_or groups k [] ∷ []) → (i < length table_after) × (get_or table_after i 0 < length groups)
      by g i m (inl h) = let w = p.kept g i h m in let a = w.0 in let n : i < length table_after = omega arith in (n, still i n w.1)
      by g i m (inr (inl e)) =
          let h : Listed i (get_or groups k []) = subst (Listed i) e m in
          let a = within i h in let n : i < length table_after = omega arith in
          let t = marked i n (list_any_at (λ row. eqb row i) i (get_or groups k []) h (eq-eqb i i refl)) in (n, omega arith)
      by g i m (inr (inr h)) = absurd h

pub tabled_all : (groups : List (List ℕ)) (table : List ℕ) (k : ℕ) → length groups ≤ k → Tabled groups table k → IsTable groups table
tabled_all groups table k l p = record {
  only = p.only;
  kept = λ g i h m. p.kept g i (subst (Listed g) (sym (take_all k groups l)) h) m;
}
