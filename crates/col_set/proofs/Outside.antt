-- Columns of a set that another has not.
use Rattle.std.proofs.Common.{inl, inr, ◌≡◌, ℕ, ◌^◌, ◌<◌, true, false, not, ◌&&◌, sym, ◌∙◌}
use Rattle.std.specs.List.{list_any}
use Rattle.std.proofs.lemmas.Bool.{and_parts, and_from, cases_Bool, true≢false, not-true, not_from_false}
use Rattle.col_set.specs.ColSet.{has, subset, upto}
use Rattle.col_set.specs.Lists.{list_any_at, list_any_which}
use Rattle.col_set.specs.Subsets.{has_within, true-subset}
use Rattle.col_set.specs.AllSets.{Listed-upto}

-- a column of y that z has not
pub record Outside (y z : ℕ) : Type 0 where
  pub column : ℕ
  pub inside : has y column ≡ true
  pub out : has z column ≡ false

pub outside_of : (n y z : ℕ) → y < 2 ^ n → subset y z ≡ false → Outside y z
outside_of n y z b e = elim (cases_Bool (list_any (λ k. has y k && not (has z k)) (upto n))) as (λ _. Outside y z) [
  | inl some ↦ let w = list_any_which (λ k. has y k && not (has z k)) (upto n) some in let q = and_parts (has y w.0) (not (has z w.0)) w.2 in record { column = w.0; inside = q.0; out = not-true _ q.1 }
  | inr none ↦ absurd (true≢false (sym (true-subset (record { each = λ k h. each k h none })) ∙ e))
]
  where
    each : (k : ℕ) → has y k ≡ true → list_any (λ k. has y k && not (has z k)) (upto n) ≡ false → has z k ≡ true
    each k h none = elim (cases_Bool (has z k)) as (λ _. has z k ≡ true) [
      | inl g ↦ g
      | inr g ↦ absurd (true≢false (sym (list_any_at (λ k. has y k && not (has z k)) k (upto n) (Listed-upto n k (has_within y n k b h)) (and_from _ _ h (not_from_false _ g))) ∙ none))
    ]
