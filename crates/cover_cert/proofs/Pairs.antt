-- The first pair that does not name two rows.
use Rattle.std.proofs.Common.{inl, inr, ◌≡◌, ◌≢◌, ◌⊎◌, ℕ, zero, suc, ◌+◌, ◌<◌, ◌≤◌, true, false, not, sym, ap, ◌∙◌, arith, List, [], ◌∷◌, length, get_or, Some, None}
use Rattle.std.proofs.lemmas.Bool.{cases_eq}
use Rattle.rel_base.specs.CodeTable.{CodeTable}
use Rattle.cover_cert.specs.declared.line.RowPair.{RowPair}
use Rattle.cover_cert.specs.Comparing.{first_where}
use Rattle.cover_cert.specs.Certificates.{rows_in, names_rows}
use Rattle.cover_cert.proofs.Firsts.{first_where-at, first_where-none}

module _ (s : CodeTable) (pairs : List RowPair) (place : ℕ) where
  abbrev AllNamed : ℕ → Type 0
  AllNamed n = (k : ℕ) (d : RowPair) → k < n → names_rows (rows_in s) (get_or pairs k d) ≡ true

  pub odd-at : (d : RowPair) → place < length pairs → names_rows (rows_in s) (get_or pairs place d) ≡ false → AllNamed place → Some (place + 2) ≡ first_where (λ p. not (names_rows (rows_in s) p)) 2 pairs
  odd-at d l e f = ap Some (let s : place + 2 ≡ 2 + place = omega arith in s)
      ∙ sym (first_where-at (λ p. not (names_rows (rows_in s) p)) 2 pairs place d l (ap not e) (λ k g m. ap not (f k g m)))

  pub odd-none : length pairs ≤ place → AllNamed place → None ≡ first_where (λ p. not (names_rows (rows_in s) p)) 2 pairs
  odd-none l f = sym (first_where-none (λ p. not (names_rows (rows_in s) p)) 2 pairs (λ k d m. ap not (f k d (omega arith))))

  same_default : (xs : List RowPair) (k : ℕ) (d e : RowPair) → k < length xs → get_or xs k d ≡ get_or xs k e
  same_default [] k d e l = absurd (omega arith)
  same_default (x ∷ xs) zero d e l = λ i. x
  same_default (x ∷ xs) (suc k) d e l = same_default xs k d e (omega arith)

  pub all-more : (d : RowPair) → place < length pairs → names_rows (rows_in s) (get_or pairs place d) ≡ true → AllNamed place → AllNamed (place + 1)
  all-more d l e f k g m = by (cases_eq k place)
    where
      by : (k ≡ place) ⊎ (k ≢ place) → names_rows (rows_in s) (get_or pairs k g) ≡ true
      by (inl i) = ap (λ (j : ℕ). names_rows (rows_in s) (get_or pairs j g)) i ∙ ap (names_rows (rows_in s)) (same_default pairs place g d l) ∙ e
      by (inr other) = f k g (omega arith)
