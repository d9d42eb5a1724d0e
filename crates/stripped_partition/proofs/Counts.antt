-- Counts of codes in the slots.
use Rattle.std.proofs.Common.{inl, inr, ◌≡◌, ◌≢◌, ℕ, suc, ◌+◌, ◌<◌, ◌≤◌, Bool, true, false, cond, eqb, refl, sym, ap, ◌∙◌, arith, List, [], ◌∷◌, length, get_or, set, drop, replicate, count_by, map}
use Rattle.std.specs.List.{filter}
use Rattle.std.proofs.lemmas.Bool.{ne_eqb, cases_eq}
use Rattle.std.proofs.lemmas.List.{get_or-set_same, get_or-set_other, drop_all, length-map, length-set, length-replicate, get_or-replicate}
use Rattle.std.proofs.lemmas.List.Sums.{sum_by-drop_more, length-filter}
use Rattle.std.proofs.lemmas.Grind.{same_number_lists}
use Rattle.stripped_partition.specs.Splits.{rows_with}

abbrev pub counted : List ℕ → ℕ → ℕ
counted codes c = count_by (λ d. eqb d c) codes

counted-drop : (codes : List ℕ) (i c : ℕ) → i < length codes → counted (drop i codes) c ≡ cond (eqb (get_or codes i 0) c) 1 0 + counted (drop (i + 1) codes) c
counted-drop codes i c l = sum_by-drop_more (λ d. cond (eqb d c) 1 0) codes i 0 l

-- a slot of a code that does not come again is clear
abbrev pub Clears : List ℕ → List ℕ → ℕ → Type 0
Clears slots codes i = (c : ℕ) → c < length slots → counted (drop i codes) c ≡ 0 → get_or slots c 0 ≡ 0

other_count : (codes : List ℕ) (i c : ℕ) → i < length codes → (get_or codes i 0 ≢ c) → counted (drop (i + 1) codes) c ≡ 0 → counted (drop i codes) c ≡ 0
other_count codes i c l ne z = counted-drop codes i c l ∙ ap (λ b. cond b 1 0 + counted (drop (i + 1) codes) c) (ne_eqb (get_or codes i 0) c ne) ∙ (let e : 0 + counted (drop (i + 1) codes) c ≡ 0 = omega arith in e)

pub clears_set : (slots codes : List ℕ) (i : ℕ) → i < length codes → get_or codes i 0 < length slots → Clears slots codes i → Clears (set slots (get_or codes i 0) 0) codes (i + 1)
clears_set slots codes i l b inv c m z = elim (cases_eq c (get_or codes i 0)) as (λ _. get_or (set slots (get_or codes i 0) 0) c 0 ≡ 0) [
  | inl e ↦ ap (λ (j : ℕ). get_or (set slots (get_or codes i 0) 0) j 0) e ∙ get_or-set_same slots (get_or codes i 0) 0 0 b
  | inr ne ↦ get_or-set_other slots (get_or codes i 0) c 0 0 ne ∙ inv c (inside m) (other_count codes i c l (λ e. ne (sym e)) z)
]
  where
    inside : c < length (set slots (get_or codes i 0) 0) → c < length slots
    inside m = let e = length-set slots (get_or codes i 0) 0 in omega arith

pub clears_skip : (slots codes : List ℕ) (i : ℕ) → i < length codes → length slots ≤ get_or codes i 0 → Clears slots codes i → Clears slots codes (i + 1)
clears_skip slots codes i l b inv c m z = inv c m (other_count codes i c l (λ e. let d : get_or codes i 0 ≡ c = e in absurd (omega arith)) z)

pub clears_all : (slots codes : List ℕ) (i : ℕ) → length codes ≤ i → Clears slots codes i → slots ≡ replicate (length slots) 0
clears_all slots codes i l inv = same_number_lists slots (replicate (length slots) 0) (sym (length-replicate (length slots) 0)) (λ k m. inv k m (ap (λ (xs : List ℕ). counted xs k) (drop_all i codes l)) ∙ sym (get_or-replicate (length slots) k 0 0 m))

-- ---- counts of pairs
pub length-with : (es : List (ℕ × ℕ)) (c : ℕ) → length (rows_with es c) ≡ counted (map (λ (e : ℕ × ℕ). e.1) es) c
unfolding rows_with
length-with es c = length-map (filter (λ (e : ℕ × ℕ). eqb e.1 c) es) (λ (e : ℕ × ℕ). e.0) ∙ by es ∙ length-filter (λ d. eqb d c) (map (λ (e : ℕ × ℕ). e.1) es)
  where
    by : (es : List (ℕ × ℕ)) → length (filter (λ (e : ℕ × ℕ). eqb e.1 c) es) ≡ length (filter (λ d. eqb d c) (map (λ (e : ℕ × ℕ). e.1) es))
    by [] = refl
    by (e ∷ es) = here (eqb e.1 c) (by es)
      where
        here : (b : Bool) → length (filter (λ (e : ℕ × ℕ). eqb e.1 c) es) ≡ length (filter (λ d. eqb d c) (map (λ (e : ℕ × ℕ). e.1) es))
            → length (cond b (e ∷ filter (λ (e : ℕ × ℕ). eqb e.1 c) es) (filter (λ (e : ℕ × ℕ). eqb e.1 c) es)) ≡ length (cond b (e.1 ∷ filter (λ d. eqb d c) (map (λ (e : ℕ × ℕ). e.1) es)) (filter (λ d. eqb d c) (map (λ (e : ℕ × ℕ). e.1) es)))
        here true r = ap suc r
        here false r = r
