-- Evidence: sets that fail. They refute what lies inside them, and what they leave is all that holds as soon as all of it holds.
use Rattle.std.proofs.Common.{inl, inr, ◌≡◌, ◌⊎◌, ℕ, ◌<◌, ◌≤◌, Bool, true, false, cond, not, ◌&&◌, refl, sym, ap, ◌∙◌, subst, arith, List, [], ◌∷◌, ◌++◌, length}
use Rattle.std.specs.List.{All, filter}
use Rattle.std.proofs.lemmas.Bool.{and_parts, and_from, true≢false, not-true, not_from_false, false_from_ne_true, leb-true, le-leb}
use Rattle.col_set.specs.declared.target.Target.{Target}
use Rattle.col_set.specs.ColSet.{IsSubset, subset, all_sets}
use Rattle.col_set.specs.Target.{has_target}
use Rattle.col_set.specs.Columns.{report_total}
use Rattle.col_set.specs.Evidence.{refuted, least}
use Rattle.col_set.specs.Lists.{Listed, Listed-append_left, Listed-append_right, Listed-append_cases, list_any_at, list_any_which}
use Rattle.col_set.specs.Subsets.{subset-true, true-subset}
use Rattle.col_set.specs.AllSets.{Listed-all_sets}
use Rattle.col_set.proofs.Least.{Listed-least, IsLeast-listed, least_below}
use Rattle.col_set.proofs.More.{Rises-least, refuted_more}
use Rattle.col_set.proofs.Places.{same_rising}
use Rattle.rel_base.specs.CodeTable.{CodeTable}
use Rattle.rel_base.specs.Shows.{live_numbers, code_sets}
use Rattle.rel_base.specs.Validity.{determined}
use Rattle.rel_base.proofs.States.{All-listed, All-from}
use Rattle.rel_base.proofs.Valid.{determined-more}
use Rattle.approx_fd.specs.Removal.{removed_in}
use Rattle.approx_fd.specs.Approximate.{nearly_least}
use Rattle.approx_fd.specs.Search.{IsFailing, IsNews, standing}
use Rattle.approx_fd.proofs.Sublists.{removed-weaker}
use Rattle.approx_fd.proofs.Removing.{none-in}
use Rattle.approx_fd.proofs.Listing.{nearly-parts, nearly-from, Rises-nearly}

-- more columns on the left never raise what is to be removed
pub removed_in-more : (s : CodeTable) (x y : ℕ) (t : Target) → IsSubset x y → removed_in s y t ≤ removed_in s x t
unfolding removed_in
removed_in-more s x y t sub = removed-weaker (λ kept. determined (code_sets s kept) x t) (λ kept. determined (code_sets s kept) y t) (live_numbers s) (none-in s x t) (none-in s y t) (λ kept l e. determined-more (code_sets s kept) x y t sub e)

-- a set around x refutes it
pub refuted-by : (ws : List ℕ) (t : Target) (x w : ℕ) → Listed w ws → IsSubset x w → has_target w t ≡ false → refuted ws t x ≡ true
unfolding refuted
refuted-by ws t x w l s e = list_any_at (λ w. subset x w && not (has_target w t)) w ws l (and_from _ _ (true-subset s) (not_from_false _ e))

module _ (s : CodeTable) (most : ℕ) (t : Target) where
  pub failing-stands : (ws : List ℕ) (x : ℕ) → All (IsFailing s most t) ws → removed_in s x t ≤ most → refuted ws t x ≡ false
  unfolding refuted
  failing-stands ws x a l = false_from_ne_true _ (λ e.
      let w = list_any_which (λ w. subset x w && not (has_target w t)) ws e in
      let q = and_parts (subset x w.0) (not (has_target w.0 t)) w.2 in
      let f = (All-listed (IsFailing s most t) w.0 ws a w.1).above in
      let m = removed_in-more s x w.0 t (subset-true q.0) in absurd (omega arith))

  -- where all that evidence leaves passes, that is all that is minimal
  module _ (n : ℕ) (ws : List ℕ) (fail : All (IsFailing s most t) ws) (pass : (x : ℕ) → Listed x (least n ws t) → removed_in s x t ≤ most) where
    there : (x : ℕ) → Listed x (least n ws t) → Listed x (nearly_least n (λ x. removed_in s x t) most t)
    there x h =
        let l = IsLeast-listed n ws t x h in
        nearly-from n (λ x. removed_in s x t) most t x (record {
          below = l.below;
          lacks = l.lacks;
          minimal = record {
            passes = le-leb _ _ (pass x h);
            smallest = λ y sub e. l.smallest y sub (failing-stands ws y fail (leb-true _ _ e));
          };
        })

    back : (x : ℕ) → Listed x (nearly_least n (λ x. removed_in s x t) most t) → Listed x (least n ws t)
    back x h =
        let l = nearly-parts n (λ x. removed_in s x t) most t x h in
        let m = least_below n ws t x l.below l.lacks (failing-stands ws x fail (leb-true _ _ l.minimal.passes)) in
        let g = Listed-least n ws t m.0 m.1 in
        subst (λ (z : ℕ). Listed z (least n ws t)) (l.minimal.smallest m.0 m.2 (le-leb _ _ (pass m.0 g))) g

    pub least-nearly : least n ws t ≡ nearly_least n (λ x. removed_in s x t) most t
    least-nearly = same_rising report_total (least n ws t) (nearly_least n (λ x. removed_in s x t) most t) (Rises-least n ws t) (Rises-nearly n (λ x. removed_in s x t) most t) there back

-- ---- more evidence leaves fewer sets
-- a test that passes less keeps fewer
module _ (p q : ℕ → Bool) (f : (y : ℕ) → q y ≡ true → p y ≡ true) where
  kept_no_more : (xs : List ℕ) → length (filter q xs) ≤ length (filter p xs)
  kept_no_more [] = omega arith
  kept_no_more (y ∷ xs) = at (p y) (q y) refl refl (kept_no_more xs)
    where
      at : (a b : Bool) → p y ≡ a → q y ≡ b → length (filter q xs) ≤ length (filter p xs) → length (cond b (y ∷ filter q xs) (filter q xs)) ≤ length (cond a (y ∷ filter p xs) (filter p xs))
      at true true g h l = omega arith
      at true false g h l = omega arith
      at false true g h l = absurd (true≢false (sym (f y h) ∙ g))
      at false false g h l = l

  filter_fewer : (x : ℕ) (xs : List ℕ) → Listed x xs → p x ≡ true → q x ≡ false → length (filter q xs) < length (filter p xs)
  filter_fewer x [] h i j = absurd h
  filter_fewer x (y ∷ xs) (inl e) i j = at (p y) (q y) (sym (ap p e) ∙ i) (sym (ap q e) ∙ j) (kept_no_more xs)
    where
      at : (a b : Bool) → a ≡ true → b ≡ false → length (filter q xs) ≤ length (filter p xs) → length (cond b (y ∷ filter q xs) (filter q xs)) < length (cond a (y ∷ filter p xs) (filter p xs))
      at true false g h l = omega arith
      at true true g h l = absurd (true≢false h)
      at false b g h l = absurd (true≢false (sym g))
  filter_fewer x (y ∷ xs) (inr h) i j = at (p y) (q y) refl refl (filter_fewer x xs h i j)
    where
      at : (a b : Bool) → p y ≡ a → q y ≡ b → length (filter q xs) < length (filter p xs) → length (cond b (y ∷ filter q xs) (filter q xs)) < length (cond a (y ∷ filter p xs) (filter p xs))
      at true true g h l = omega arith
      at true false g h l = omega arith
      at false true g h l = absurd (true≢false (sym (f y h) ∙ g))
      at false false g h l = l

pub standing-less : (s : CodeTable) (most n : ℕ) (t : Target) (ws xs news more : List ℕ) → xs ≡ least n ws t → All (IsNews s most t xs) news → (news ≡ [] → ⊥) → more ≡ ws ++ news → standing n more t < standing n ws t
unfolding standing
standing-less s most n t ws xs [] more e a some m = absurd (some refl)
standing-less s most n t ws xs (w ∷ news) more e a some m =
    let new = a 0 w (omega arith) in
    let x = new.candidate in
    let k = IsLeast-listed n ws t x (subst (Listed x) e new.listed) in
    let gone : refuted more t x ≡ true = refuted-by more t x w (subst (Listed w) (sym m) (Listed-append_right w ws (w ∷ news) (inl refl))) new.inside new.failing.lacks in
    filter_fewer (λ x. not (refuted ws t x)) (λ x. not (refuted more t x))
    (λ y h. not_from_false _ (false_from_ne_true _ (λ g. true≢false (sym (refuted_more ws more t y (λ v l. subst (Listed v) (sym m) (Listed-append_left v ws (w ∷ news) l)) g) ∙ not-true _ h))))
    x (all_sets n) (Listed-all_sets n x k.below) (not_from_false _ k.stands) (ap not gone)

pub failing-more : (s : CodeTable) (most : ℕ) (t : Target) (ws xs news more : List ℕ) → All (IsFailing s most t) ws → All (IsNews s most t xs) news → more ≡ ws ++ news → All (IsFailing s most t) more
failing-more s most t ws xs news more a b m = subst (All (IsFailing s most t)) (sym m) (All-from (IsFailing s most t) (ws ++ news) (λ w l. at w (Listed-append_cases w ws news l)))
  where
    at : (w : ℕ) → Listed w ws ⊎ Listed w news → IsFailing s most t w
    at w (inl l) = All-listed (IsFailing s most t) w ws a l
    at w (inr l) = (All-listed (IsNews s most t xs) w news b l).failing
