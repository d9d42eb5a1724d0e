-- The first entry that passes a test, found target by target.
use Rattle.std.proofs.Common.{inl, inr, ◌≡◌, ℕ, zero, suc, ◌+◌, ◌<◌, ◌≤◌, Bool, true, false, cond, refl, ap, ◌∙◌, subst, arith, List, [], ◌∷◌, ◌++◌, map, Option, Some, None}
use Rattle.std.specs.List.{find, flat_map, range_with_len}
use Rattle.std.specs.Option.{option_map, option_or}
use Rattle.std.proofs.lemmas.Bool.{cases_eq}
use Rattle.std.proofs.lemmas.List.Folds.{find-append}
use Rattle.col_set.specs.declared.target.Target.{Target}
use Rattle.col_set.specs.declared.target.Target.TheVariants.{Col, RowId}
use Rattle.candidate_cover.specs.declared.cand.Cand.{Cand}
use Rattle.candidate_cover.specs.Lists.{CandLists}
use Rattle.candidate_cover.specs.Cands.{cands_of}
use Rattle.cover_steps.specs.Core.{entries_in}
use Rattle.cover_core.specs.Tests.{on_cand}

-- the entries of a target
abbrev pub entries_of : CandLists → Target → List (Target × Cand)
entries_of s t = map (λ (c : Cand). (t, c)) (cands_of s t)

find-entries_of : (s : CandLists) (t : Target) (p : Cand → Bool) (cs : List Cand) → find (on_cand p) (map (λ (c : Cand). (t, c)) cs) ≡ option_map (λ (c : Cand). (t, c)) (find p cs)
find-entries_of s t p [] = refl
find-entries_of s t p (c ∷ cs) = by (p c) (find-entries_of s t p cs)
  where
    by : (b : Bool) → find (on_cand p) (map (λ (c : Cand). (t, c)) cs) ≡ option_map (λ (c : Cand). (t, c)) (find p cs)
        → cond b (Some (t, c)) (find (on_cand p) (map (λ (c : Cand). (t, c)) cs)) ≡ option_map (λ (c : Cand). (t, c)) (cond b (Some c) (find p cs))
    by true e = refl
    by false e = e

module _ (n : ℕ) (s : CandLists) (p : Cand → Bool) where
  none_here : (t : Target) → find p (cands_of s t) ≡ None → find (on_cand p) (entries_of s t) ≡ None
  none_here t e = find-entries_of s t p (cands_of s t) ∙ ap (option_map (λ (c : Cand). (t, c))) e

  some_here : (t : Target) (c : Cand) → find p (cands_of s t) ≡ Some c → find (on_cand p) (entries_of s t) ≡ Some (t, c)
  some_here t c e = find-entries_of s t p (cands_of s t) ∙ ap (option_map (λ (c : Cand). (t, c))) e

  or_none : (xs ys : List (Target × Cand)) → find (on_cand p) xs ≡ None → find (on_cand p) (xs ++ ys) ≡ find (on_cand p) ys
  or_none xs ys e = find-append (on_cand p) xs ys ∙ ap (λ (o : Option (Target × Cand)). option_or o (find (on_cand p) ys)) e

  or_some : (xs ys : List (Target × Cand)) (e : Target × Cand) → find (on_cand p) xs ≡ Some e → find (on_cand p) (xs ++ ys) ≡ Some e
  or_some xs ys e i = find-append (on_cand p) xs ys ∙ ap (λ (o : Option (Target × Cand)). option_or o (find (on_cand p) ys)) i

  columns_none : (m a : ℕ) → ((k : ℕ) → a ≤ k → k < a + m → find p (cands_of s (Col k)) ≡ None) → find (on_cand p) (flat_map (entries_of s) (map (λ (a : ℕ). let f : ℕ → Target = λ a. Col a in f a) (range_with_len a m))) ≡ None
  columns_none zero a f = refl
  columns_none (suc m) a f = or_none (entries_of s (Col a)) _ (none_here (Col a) (f a (omega arith) (omega arith))) ∙ columns_none m (a + 1) (λ k l o. f k (omega arith) (omega arith))

  columns_some : (m a k : ℕ) (c : Cand) → a ≤ k → k < a + m → ((j : ℕ) → a ≤ j → j < k → find p (cands_of s (Col j)) ≡ None) → find p (cands_of s (Col k)) ≡ Some c
      → find (on_cand p) (flat_map (entries_of s) (map (λ (a : ℕ). let f : ℕ → Target = λ a. Col a in f a) (range_with_len a m))) ≡ Some (Col k, c)
  columns_some zero a k c l o f e = absurd (omega arith)
  columns_some (suc m) a k c l o f e = elim (cases_eq k a) as (λ _. find (on_cand p) (flat_map (entries_of s) (map (λ (a : ℕ). let f : ℕ → Target = λ a. Col a in f a) (range_with_len a (suc m)))) ≡ Some (Col k, c)) [
    | inl i ↦ or_some (entries_of s (Col a)) _ (Col k, c) (subst (λ (b : ℕ). find (on_cand p) (entries_of s (Col b)) ≡ Some (Col k, c)) i (some_here (Col k) c e))
    | inr ne ↦ or_none (entries_of s (Col a)) _ (none_here (Col a) (f a (omega arith) (omega arith))) ∙ columns_some m (a + 1) k c (omega arith) (omega arith) (λ j u v. f j (omega arith) v) e
  ]

  -- Where neither the row's identity nor a column has one that passes, there is none.
  pub find-none : find p (cands_of s RowId) ≡ None → ((k : ℕ) → k < n → find p (cands_of s (Col k)) ≡ None) → find (on_cand p) (entries_in n s) ≡ None
  find-none e f = or_none (entries_of s RowId) _ (none_here RowId e) ∙ columns_none (n) 0 (λ k l m. f k (omega arith))

  pub find-row_id : (c : Cand) → find p (cands_of s RowId) ≡ Some c → find (on_cand p) (entries_in n s) ≡ Some (RowId, c)
  find-row_id c e = or_some (entries_of s RowId) _ (RowId, c) (some_here RowId c e)

  pub find-column : (k : ℕ) (c : Cand) → find p (cands_of s RowId) ≡ None → ((j : ℕ) → j < k → find p (cands_of s (Col j)) ≡ None) → k < n → find p (cands_of s (Col k)) ≡ Some c → find (on_cand p) (entries_in n s) ≡ Some (Col k, c)
  find-column k c e f l i = or_none (entries_of s RowId) _ (none_here RowId e) ∙ columns_some (n) 0 k c (omega arith) (omega arith) (λ j u v. f j v) i
