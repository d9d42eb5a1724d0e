-- Minimal sets among those that pass a test: what `is_minimal` means, and that below each set that passes there is a minimal one.
use Rattle.std.proofs.Common.{inl, inr, ◌≡◌, ℕ, zero, suc, ◌^◌, ◌<◌, ◌≤◌, Bool, true, false, not, ◌&&◌, refl, sym, ◌∙◌, arith}
use Rattle.std.specs.List.{list_any}
use Rattle.std.proofs.lemmas.Bool.{and_parts, and_from, cases_eq, cases_Bool, true≢false}
use Rattle.col_set.specs.ColSet.{upto, all_sets}
use Rattle.col_set.specs.Minimal.{proper_subset, is_minimal}
pub use Rattle.col_set.specs.Minimal.{IsMinimal}
use Rattle.col_set.specs.Lists.{list_all_at, list_all_from, list_any_at, list_any_which}
use Rattle.col_set.specs.Subsets.{IsSubset, IsSubset-refl, IsSubset-trans, IsSubset-le, proper_from, proper_parts, subset_below}
use Rattle.col_set.specs.AllSets.{Listed-all_sets, Listed-upto}

fails : (a b : Bool) → not (a && b) ≡ true → a ≡ true → b ≡ true → ⊥
fails true true e f g = true≢false (sym e)
fails true false e f g = true≢false (sym g)
fails false b e f g = true≢false (sym f)

not_both : (a b : Bool) → (a ≡ true → b ≡ true → ⊥) → not (a && b) ≡ true
not_both true true f = absurd (f refl refl)
not_both true false f = refl
not_both false b f = refl

pub IsMinimal-from_test : (n : ℕ) (p : ℕ → Bool) (x : ℕ) → x < 2 ^ n → is_minimal n p x ≡ true → IsMinimal p x
unfolding is_minimal
IsMinimal-from_test n p x h e = let w = and_parts (p x) _ e in record {
  passes = w.0;
  smallest = λ y s g. elim (cases_eq y x) as (λ _. y ≡ x) [
    | inl i ↦ i
    | inr ne ↦ absurd (fails (proper_subset y x) (p y) (list_all_at (λ y. not (proper_subset y x && p y)) y (all_sets n) w.1 (Listed-all_sets n y (subset_below n s h))) (proper_from s ne) g)
  ];
}

pub test_from_IsMinimal : (n : ℕ) (p : ℕ → Bool) (x : ℕ) → IsMinimal p x → is_minimal n p x ≡ true
unfolding is_minimal
test_from_IsMinimal n p x m = and_from (p x) _ m.passes (list_all_from (λ y. not (proper_subset y x && p y)) (all_sets n) (λ y l. not_both (proper_subset y x) (p y) (λ e g.
    let w = proper_parts e in w.1 (m.smallest y w.0 g))))

-- below a set that passes there is a minimal one: a proper subset is a smaller number
pub record HasMinimal (p : ℕ → Bool) (x : ℕ) : Type 0 where
  pub set : ℕ
  pub inside : IsSubset set x
  pub minimal : IsMinimal p set

alone : (p : ℕ → Bool) (x y : ℕ) → p x ≡ true → list_any (λ y. proper_subset y x && p y) (upto x) ≡ false → IsSubset y x → p y ≡ true → y ≡ x
alone p x y e none s g = elim (cases_eq y x) as (λ _. y ≡ x) [
  | inl i ↦ i
  | inr ne ↦ let l = IsSubset-le s in
      absurd (true≢false (sym (list_any_at (λ y. proper_subset y x && p y) y (upto x) (Listed-upto x y (omega arith)) (and_from _ _ (proper_from s ne) g)) ∙ none))
]

minimal_within : (fuel : ℕ) (p : ℕ → Bool) (x : ℕ) → x ≤ fuel → p x ≡ true → HasMinimal p x
minimal_within zero p x h e = record {
  set = x;
  inside = IsSubset-refl x;
  minimal = record { passes = e; smallest = λ y s g. let l = IsSubset-le s in omega arith };
}
minimal_within (suc fuel) p x h e =
    elim (cases_Bool (list_any (λ y. proper_subset y x && p y) (upto x))) as (λ _. HasMinimal p x) [
      | inl some ↦
          let w = list_any_which (λ y. proper_subset y x && p y) (upto x) some in
          let q = and_parts (proper_subset w.0 x) (p w.0) w.2 in
          let s = proper_parts q.0 in
          let i = s.0 in let ne = s.1 in let l = IsSubset-le i in
          let m = minimal_within fuel p w.0 (omega arith) q.1 in
          record { set = m.set; inside = IsSubset-trans m.inside i; minimal = m.minimal }
      | inr none ↦ record { set = x; inside = IsSubset-refl x; minimal = record { passes = e; smallest = λ y s g. alone p x y e none s g } }
    ]

pub minimal_below : (p : ℕ → Bool) (x : ℕ) → p x ≡ true → HasMinimal p x
minimal_below p x e = minimal_within x p x (omega arith) e
