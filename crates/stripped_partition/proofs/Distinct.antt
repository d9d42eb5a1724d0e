-- Codes of which no two are equal, and what they make of a group: nothing.
use Rattle.std.proofs.Common.{◌≡◌, ℕ, ◌+◌, ◌<◌, ◌≤◌, Bool, true, false, cond, ◌&&◌, ◌||◌, eqb, ltb, leb, refl, sym, ap, ◌∙◌, subst, arith, List, [], ◌∷◌, length, get_or, take, map, zip}
use Rattle.std.specs.List.{filter, list_any}
use Rattle.std.proofs.lemmas.Bool.{true≢false, eqb-true, lt-leb}
use Rattle.std.proofs.lemmas.List.{length-take}
use Rattle.std.proofs.lemmas.List.Sums.{count_by_more_yes, count_by_more_no, count_by-le-length, length-filter}
use Rattle.stripped_partition.specs.Splits.{firsts, rows_with, repeated_codes, parts}
use Rattle.stripped_partition.proofs.Counts.{counted, length-with}

-- none of the first k codes stands twice
abbrev pub Differing : List ℕ → ℕ → Type 0
Differing codes k = (c : ℕ) → counted (take k codes) c ≤ 1

none_kept : (codes : List ℕ) (c : ℕ) → list_any (λ d. eqb d c) codes ≡ false → filter (λ d. eqb d c) codes ≡ []
none_kept [] c e = refl
none_kept (d ∷ codes) c e = by (eqb d c) e (none_kept codes c)
  where
    by : (b : Bool) → (b || list_any (λ x. eqb x c) codes) ≡ false → (list_any (λ x. eqb x c) codes ≡ false → filter (λ x. eqb x c) codes ≡ []) → cond b (d ∷ filter (λ x. eqb x c) codes) (filter (λ x. eqb x c) codes) ≡ []
    by true e r = absurd (true≢false e)
    by false e r = r e

none_counted : (codes : List ℕ) (c : ℕ) → list_any (λ d. eqb d c) codes ≡ false → counted codes c ≡ 0
none_counted codes c e = sym (length-filter (λ d. eqb d c) codes) ∙ ap (λ (xs : List ℕ). length xs) (none_kept codes c e)

pub differing_first : (codes : List ℕ) → Differing codes 1
differing_first codes c = let l = count_by-le-length (λ d. eqb d c) (take 1 codes) in let m = length-take 1 codes in omega arith

pub differing_more : (codes : List ℕ) (k : ℕ) → k < length codes → list_any (λ d. eqb d (get_or codes k 0)) (take k codes) ≡ false → Differing codes k → Differing codes (k + 1)
differing_more codes k l none before c = by (eqb (get_or codes k 0) c) refl
  where
    by : (b : Bool) → eqb (get_or codes k 0) c ≡ b → counted (take (k + 1) codes) c ≤ 1
    by true e =
        let same = eqb-true (get_or codes k 0) c e in
        let z = subst (λ (x : ℕ). counted (take k codes) x ≡ 0) same (none_counted (take k codes) (get_or codes k 0) none) in
        let m = count_by_more_yes (λ d. eqb d c) codes k 0 l e in omega arith
    by false e = let m = count_by_more_no (λ d. eqb d c) codes k 0 l e in let b = before c in omega arith

no_repeats : (bound : ℕ) (es : List (ℕ × ℕ)) → ((c : ℕ) → counted (map (λ (e : ℕ × ℕ). e.1) es) c ≤ 1) → (cs : List ℕ) → filter (λ c. ltb c bound && leb 2 (length (rows_with es c))) cs ≡ []
no_repeats bound es once [] = refl
no_repeats bound es once (c ∷ cs) =
    ap (λ (b : Bool). cond (ltb c bound && b) (c ∷ filter (λ c. ltb c bound && leb 2 (length (rows_with es c))) cs) (filter (λ c. ltb c bound && leb 2 (length (rows_with es c))) cs)) alone
    ∙ by (ltb c bound) (no_repeats bound es once cs)
  where
    alone : leb 2 (length (rows_with es c)) ≡ false
    alone = let l = length-with es c in let o = once c in lt-leb 2 (length (rows_with es c)) (omega arith)

    by : (b : Bool) → filter (λ c. ltb c bound && leb 2 (length (rows_with es c))) cs ≡ [] → cond (b && false) (c ∷ filter (λ c. ltb c bound && leb 2 (length (rows_with es c))) cs) (filter (λ c. ltb c bound && leb 2 (length (rows_with es c))) cs) ≡ []
    by true r = r
    by false r = r

-- rows of which no two have one code are no part
pub distinct_parts : (bound : ℕ) (rows codes : List ℕ) → map (λ (e : ℕ × ℕ). e.1) (zip rows codes) ≡ codes → ((c : ℕ) → counted codes c ≤ 1) → parts bound (zip rows codes) ≡ []
unfolding parts repeated_codes
distinct_parts bound rows codes seconds once = ap (map (rows_with (zip rows codes))) (no_repeats bound (zip rows codes) (λ c. subst (λ (xs : List ℕ). counted xs c ≤ 1) (sym seconds) (once c)) (firsts (map (λ (e : ℕ × ℕ). e.1) (zip rows codes))))
