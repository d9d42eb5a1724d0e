-- More on least sets: of no agree set at all, of lists with the same members, and the test by dropping one column.
use Rattle.std.proofs.Common.{inl, inr, ◌≡◌, ◌⊎◌, ℕ, Bool, true, false, not, ◌&&◌, refl, sym, ap, ◌∙◌, subst, List, [], ◌∷◌}
use Rattle.std.specs.List.{filter}
use Rattle.std.proofs.lemmas.Bool.{true≢false, false≢true, and_from, cases_Bool, ne_eqb}
use Rattle.std.proofs.lemmas.Nat.{pow_pos}
use Rattle.col_set.specs.declared.target.Target.{Target}
use Rattle.col_set.specs.declared.target.Target.TheVariants.{Col, RowId}
use Rattle.col_set.specs.ColSet.{IsSubset, has, subset, without, report_cmp, all_sets}
use Rattle.col_set.specs.Target.{has_target}
use Rattle.col_set.specs.Minimal.{IsMinimal, is_minimal}
use Rattle.col_set.specs.Evidence.{IsLeast, refuted, least}
use Rattle.col_set.specs.Members.{has-empty, has-without}
use Rattle.col_set.specs.Columns.{report_total}
use Rattle.col_set.specs.Lists.{Listed, Rises, Rises-filter, list_any_at, list_any_which}
use Rattle.col_set.proofs.Places.{same_rising}
use Rattle.col_set.specs.Subsets.{IsSubset-antisymm, same_test}
use Rattle.col_set.specs.AllSets.{Rises-all_sets}
use Rattle.col_set.proofs.Least.{Listed-least, IsLeast-listed}

pub Rises-least : (n : ℕ) (ws : List ℕ) (t : Target) → Rises report_cmp (least n ws t)
unfolding least
Rises-least n ws t = Rises-filter report_cmp (λ x. not (has_target x t) && is_minimal n (λ y. not (refuted ws t y)) x) (all_sets n) (Rises-all_sets n)

-- With no agree set the empty set is the one candidate.
pub IsLeast-empty : (n : ℕ) (t : Target) → IsLeast n [] t 0
unfolding refuted has_target
IsLeast-empty n (Col a) = record { below = pow_pos n; lacks = has-empty a; stands = refl; smallest = λ y s e. IsSubset-antisymm s (record { each = λ k h. absurd (false≢true (sym (has-empty k) ∙ h)) }) }
IsLeast-empty n RowId = record { below = pow_pos n; lacks = refl; stands = refl; smallest = λ y s e. IsSubset-antisymm s (record { each = λ k h. absurd (false≢true (sym (has-empty k) ∙ h)) }) }

nothing_refuted : (t : Target) (x : ℕ) → refuted [] t x ≡ false
unfolding refuted
nothing_refuted t x = refl

pub least-empty : (n : ℕ) (t : Target) → least n [] t ≡ 0 ∷ []
least-empty n t = same_rising report_total (least n [] t) (0 ∷ []) (Rises-least n [] t) ((λ y g. absurd g), tt)
    (λ x g. let l = IsLeast-listed n [] t x g in inl (sym (l.smallest 0 (record { each = λ k e. absurd (false≢true (sym (has-empty k) ∙ e)) }) (nothing_refuted t 0))))
    (λ x g. by x g)
  where
    by : (x : ℕ) → Listed x (0 ∷ []) → Listed x (least n [] t)
    by x (inl e) = subst (λ (z : ℕ). Listed z (least n [] t)) (sym e) (Listed-least n [] t 0 (IsLeast-empty n t))
    by x (inr g) = absurd g

-- what is refuted depends on the members of the list alone
pub refuted_more : (vs ws : List ℕ) (t : Target) (x : ℕ) → ((w : ℕ) → Listed w vs → Listed w ws) → refuted vs t x ≡ true → refuted ws t x ≡ true
unfolding refuted
refuted_more vs ws t x f e = let w = list_any_which (λ w. subset x w && not (has_target w t)) vs e in list_any_at (λ w. subset x w && not (has_target w t)) w.0 ws (f w.0 w.1) w.2

pub least_of_same : (n : ℕ) (vs ws : List ℕ) (t : Target) → ((w : ℕ) → Listed w vs → Listed w ws) → ((w : ℕ) → Listed w ws → Listed w vs) → least n vs t ≡ least n ws t
unfolding least
least_of_same n vs ws t f g = ap (λ (p : ℕ → Bool). filter (λ x. not (has_target x t) && is_minimal n p x) (all_sets n)) (λ i x. not (same_test (refuted vs t x) (refuted ws t x) (refuted_more vs ws t x f) (refuted_more ws vs t x g) i))

-- Where each set above one that passes passes too, a set is minimal where it passes and no set of one column less does.
pub IsMinimal-from_dropped : (p : ℕ → Bool) (x : ℕ) → ((y z : ℕ) → IsSubset y z → p y ≡ true → p z ≡ true) → p x ≡ true → ((k : ℕ) → has x k ≡ true → p (without x k) ≡ false) → IsMinimal p x
IsMinimal-from_dropped p x up e drops = record { passes = e; smallest = λ y s g. IsSubset-antisymm s (record { each = λ k h. by y s g k h (cases_Bool (has y k)) }) }
  where
    by : (y : ℕ) → IsSubset y x → p y ≡ true → (k : ℕ) → has x k ≡ true → ((has y k ≡ true) ⊎ (has y k ≡ false)) → has y k ≡ true
    by y s g k h (inl e) = e
    by y s g k h (inr e) = absurd (true≢false (sym (up y (without x k) (record { each = λ j i. has-without x k j ∙ and_from _ _ (s.each j i) (ap not (ne_eqb j k (λ m. true≢false (sym i ∙ ap (has y) m ∙ e)))) }) g) ∙ drops k h))
