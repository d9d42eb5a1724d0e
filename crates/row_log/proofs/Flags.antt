-- The numbers of flagged rows.
use Rattle.std.proofs.Common.{inl, inr, ◌≡◌, ◌≢◌, ◌⊎◌, ℕ, zero, suc, ◌+◌, ◌-◌, ◌<◌, ◌≤◌, Bool, true, false, not, eqb, refl, sym, ap, ◌∙◌, subst, arith, List, [], ◌∷◌, ◌++◌, length, get_or, set}
use Rattle.std.specs.Prelude.{replicate}
use Rattle.std.specs.List.{filter, list_any, range_with_len}
use Rattle.std.proofs.lemmas.Bool.{cases_eq, cases_lt, true≢false, eqb-true, eq-eqb, ne_eqb, not-true}
use Rattle.std.proofs.lemmas.List.{get_or-set_same, get_or-set_other, get_or_append_left, get_or_push, get_or_past, get_or-replicate, length-replicate, length_push}
use Rattle.std.proofs.lemmas.Cmp.{nat_cmp_total}
use Rattle.col_set.specs.Lists.{Listed, Listed-append_left, Listed-append_right, Listed-append_cases, Listed-filter, Listed-filter_parts, list_any_at, list_any_which}
use Rattle.col_set.specs.Subsets.{same_test}
use Rattle.col_set.specs.AllSets.{Ascends, Ascends-range, Ascends_within}
use Rattle.col_set.proofs.Places.{Climbs, same_rising}
use Rattle.rel_base.proofs.States.{Rises-Climbs, Climbs-append}
use Rattle.rel_base.proofs.Valid.{Climbs-filter}
use Rattle.row_log.specs.Table.{live_of}

Ascends-Climbs : (a b : ℕ) (xs : List ℕ) → Ascends a b xs → Climbs xs
Ascends-Climbs a b [] r = tt
Ascends-Climbs a b (x ∷ xs) r = ((λ y h. let w = (Ascends_within (x + 1) b y xs r.2 h).0 in omega arith), Ascends-Climbs (x + 1) b xs r.2)

pub Climbs-range : (a n : ℕ) → Climbs (range_with_len a n)
Climbs-range a n = Ascends-Climbs a (a + n) (range_with_len a n) (Ascends-range n a (a + n) refl)

pub Listed-range : (a n k : ℕ) → a ≤ k → k < a + n → Listed k (range_with_len a n)
Listed-range a zero k l h = absurd (omega arith)
Listed-range a (suc n) k l h = elim (cases_eq k a) as (λ _. Listed k (range_with_len a (suc n))) [ inl e ↦ inl e | inr ne ↦ inr (Listed-range (a + 1) n k (omega arith) (omega arith)) ]

pub Listed-range_within : (a n k : ℕ) → Listed k (range_with_len a n) → (a ≤ k) × (k < a + n)
Listed-range_within a n k h = Ascends_within a (a + n) k (range_with_len a n) (Ascends-range n a (a + n) refl) h

pub record IsFlagged (flags : List Bool) (i : ℕ) : Type 0 where
  pub positive : 0 < i
  pub within : i ≤ length flags
  pub flag : get_or flags (i - 1) false ≡ true

pub Listed-live_of : (flags : List Bool) (i : ℕ) → Listed i (live_of flags) → IsFlagged flags i
unfolding live_of
Listed-live_of flags i h =
    let w = Listed-filter_parts (λ i. get_or flags (i - 1) false) i (range_with_len 1 (length flags)) h in
    let r = Listed-range_within 1 (length flags) i w.0 in
    let a = r.0 in let b = r.1 in
    record { positive = omega arith; within = omega arith; flag = w.1 }

-- a flag that is set has a place
set_within : (flags : List Bool) (k : ℕ) → get_or flags k false ≡ true → (k < length flags) ⊎ (length flags ≤ k) → k < length flags
set_within flags k e (inl l) = l
set_within flags k e (inr l) = absurd (true≢false (sym e ∙ get_or_past flags k false l))

pub flag_within : (flags : List Bool) (k : ℕ) → get_or flags k false ≡ true → k < length flags
flag_within flags k e = set_within flags k e (cases_lt k (length flags))

pub live_of-Listed : (flags : List Bool) (i : ℕ) → 0 < i → get_or flags (i - 1) false ≡ true → Listed i (live_of flags)
unfolding live_of
live_of-Listed flags i p e =
    let l = flag_within flags (i - 1) e in
    Listed-filter (λ i. get_or flags (i - 1) false) i (range_with_len 1 (length flags)) (Listed-range 1 (length flags) i (omega arith) (omega arith)) e

pub Climbs-live_of : (flags : List Bool) → Climbs (live_of flags)
unfolding live_of
Climbs-live_of flags = Climbs-filter (λ i. get_or flags (i - 1) false) (range_with_len 1 (length flags)) (Climbs-range 1 (length flags))

-- an ascending list of the flagged numbers is the list of them
pub live_of-is : (flags : List Bool) (xs : List ℕ) → Climbs xs → ((i : ℕ) → IsFlagged flags i → Listed i xs) → ((i : ℕ) → Listed i xs → (0 < i) × (get_or flags (i - 1) false ≡ true)) → live_of flags ≡ xs
live_of-is flags xs up there back =
    same_rising nat_cmp_total (live_of flags) xs (Rises-Climbs _ (Climbs-live_of flags)) (Rises-Climbs _ up)
    (λ i h. there i (Listed-live_of flags i h)) (λ i h. let w = back i h in live_of-Listed flags i w.0 w.1)

pub any-live_of : (flags : List Bool) (number : ℕ) → 0 < number → list_any (eqb number) (live_of flags) ≡ get_or flags (number - 1) false
any-live_of flags number p = same_test _ _
    (λ e. let w = list_any_which (eqb number) (live_of flags) e in
    let s : number ≡ w.0 = eqb-true number w.0 w.2 in
    subst (λ (i : ℕ). get_or flags (i - 1) false ≡ true) (sym s) (Listed-live_of flags w.0 w.1).flag)
    (λ e. list_any_at (eqb number) number (live_of flags) (live_of-Listed flags number p e) (eq-eqb number number refl))

pub live_of-all : (n : ℕ) (flags : List Bool) → flags ≡ replicate n true → live_of flags ≡ range_with_len 1 n
live_of-all n flags e =
    let l : length flags ≡ n = ap length e ∙ length-replicate n true in
    live_of-is flags (range_with_len 1 n) (Climbs-range 1 n)
    (λ i h. let a = h.positive in let b = h.within in Listed-range 1 n i (omega arith) (omega arith))
    (λ i h. let w = Listed-range_within 1 n i h in let a = w.0 in let b = w.1 in
    (omega arith, ap (λ (xs : List Bool). get_or xs (i - 1) false) e ∙ get_or-replicate n (i - 1) true false (omega arith)))

-- ---- one row more, or one that ends
pub live_of-pushed : (flags : List Bool) → live_of (flags ++ true ∷ []) ≡ live_of flags ++ (length flags + 1) ∷ []
live_of-pushed flags = live_of-is (flags ++ true ∷ []) (live_of flags ++ (length flags + 1) ∷ [])
    (Climbs-append (live_of flags) (length flags + 1) (Climbs-live_of flags) (λ y h. let w = (Listed-live_of flags y h).within in omega arith))
    (λ i h. there i h (cases_lt (i - 1) (length flags)))
    (λ i h. back i (Listed-append_cases i (live_of flags) ((length flags + 1) ∷ []) h))
  where
    there : (i : ℕ) → IsFlagged (flags ++ true ∷ []) i → (i - 1 < length flags) ⊎ (length flags ≤ i - 1) → Listed i (live_of flags ++ (length flags + 1) ∷ [])
    there i h (inl l) = Listed-append_left i (live_of flags) ((length flags + 1) ∷ []) (live_of-Listed flags i h.positive (sym (get_or_append_left flags (true ∷ []) false (i - 1) l) ∙ h.flag))
    there i h (inr l) =
        let p = length_push flags true in let w = h.within in let a = h.positive in
        let e : i ≡ length flags + 1 = omega arith in Listed-append_right i (live_of flags) ((length flags + 1) ∷ []) (inl e)

    last : (i : ℕ) → Listed i ((length flags + 1) ∷ []) → i ≡ length flags + 1
    last i (inl e) = e
    last i (inr h) = absurd h

    back : (i : ℕ) → Listed i (live_of flags) ⊎ Listed i ((length flags + 1) ∷ []) → (0 < i) × (get_or (flags ++ true ∷ []) (i - 1) false ≡ true)
    back i (inl h) = let w = Listed-live_of flags i h in let a = w.positive in let b = w.within in (w.positive, get_or_append_left flags (true ∷ []) false (i - 1) (omega arith) ∙ w.flag)
    back i (inr h) = let e = last i h in let s : length flags ≡ i - 1 = omega arith in (omega arith, get_or_push flags true false (i - 1) s)

pub live_of-ended : (flags : List Bool) (n : ℕ) → 0 < n → n ≤ length flags → live_of (set flags (n - 1) false) ≡ filter (λ i. not (eqb n i)) (live_of flags)
live_of-ended flags n p l = live_of-is (set flags (n - 1) false) (filter (λ i. not (eqb n i)) (live_of flags))
    (Climbs-filter (λ i. not (eqb n i)) (live_of flags) (Climbs-live_of flags))
    (λ i h. there i h (cases_eq i n))
    (λ i h. back i (Listed-filter_parts (λ i. not (eqb n i)) i (live_of flags) h))
  where
    cleared : get_or (set flags (n - 1) false) (n - 1) false ≡ false
    cleared = get_or-set_same flags (n - 1) false false (omega arith)

    there : (i : ℕ) → IsFlagged (set flags (n - 1) false) i → (i ≡ n) ⊎ (i ≢ n) → Listed i (filter (λ i. not (eqb n i)) (live_of flags))
    there i h (inl e) = absurd (true≢false (sym h.flag ∙ ap (λ (k : ℕ). get_or (set flags (n - 1) false) (k - 1) false) e ∙ cleared))
    there i h (inr ne) =
        let a = h.positive in
        let o : i - 1 ≢ n - 1 = λ s. ne (omega arith) in
        Listed-filter (λ i. not (eqb n i)) i (live_of flags) (live_of-Listed flags i h.positive (sym (get_or-set_other flags (n - 1) (i - 1) false false o) ∙ h.flag)) (ap not (ne_eqb n i (λ s. ne (sym s))))

    differs : (i : ℕ) → not (eqb n i) ≡ true → i - 1 ≡ n - 1 → 0 < i → ⊥
    differs i e s a = let t : n ≡ i = omega arith in true≢false (sym (eq-eqb n i t) ∙ not-true _ e)

    back : (i : ℕ) → Listed i (live_of flags) × (not (eqb n i) ≡ true) → (0 < i) × (get_or (set flags (n - 1) false) (i - 1) false ≡ true)
    back i w = let g = Listed-live_of flags i w.0 in (g.positive, get_or-set_other flags (n - 1) (i - 1) false false (λ s. differs i w.1 s g.positive) ∙ g.flag)
