-- The loops over columns: what is reached so far, and what is yet to be looked at.
use Rattle.std.proofs.Common.{inl, inr, ◌≡◌, ◌≢◌, ◌⊎◌, ℕ, ◌<◌, Bool, true, false, not, ◌&&◌, eqb, sym, ap, ◌∙◌, subst, arith, List, length, get_or, Some, None, Result, Ok, Err}
use Rattle.std.specs.Result.{is_ok}
use Rattle.std.specs.List.Sorted.{IsBinarySearchResult, IsSearchInRange}
use Rattle.std.proofs.lemmas.Bool.{true≢false, false≢true, cases_eq, cases_Bool, and_parts, and_from, or_cases, or_left, or_right, not-true, not_from_false, lt-ltb, ne_eqb, eqb-true, eq-eqb, false_from_ne_true}
use Rattle.col_set.specs.ColSet.{Columns, IsSubset, has, all, subset, minus, with, without, first}
use Rattle.col_set.specs.Members.{has-all, has-minus, has-with, has-without}
use Rattle.col_set.specs.Subsets.{IsSubset-refl, IsSubset-antisymm, IsSubset-with, with_subset, subset-true}
use Rattle.col_set.specs.Lists.{Listed, list_any_which}
use Rattle.col_set.proofs.EachColumn.{Listed-columns, first-Some, first-None}
use Rattle.col_set.proofs.Places.{Listed-get_or}
use Rattle.rel_base.specs.declared.dependency.Fd.{Fd}
use Rattle.rel_base.proofs.States.{All-listed}
use Rattle.rel_base.specs.Covers.{fd_cmp, IsInOrder}
use Rattle.fd_closure.specs.Closure.{closure_of, has_left_inside}
use Rattle.fd_closure.proofs.Closing.{has-closure_of}
use Rattle.fd_closure.proofs.Grouping.{inside-some, fd_equal}

-- ---- one column
pub left_side-inside : (fds : List Fd) (x column : ℕ) (found : Result ℕ ℕ) (answer : Bool) → IsSearchInRange found (length fds) →
    IsBinarySearchResult (λ (fd : Fd). fd_cmp fd (record { left = x; right = column })) fds found → answer ≡ is_ok found → answer ≡ true → has_left_inside fds x column ≡ true
left_side-inside fds x column (Ok k) answer l p e t =
    let fd : Fd = get_or fds k (record { left = x; right = column }) in
    let w = fd_equal fd x column (p (record { left = x; right = column })) in
    inside-some fds x column fd (Listed-get_or fds k (record { left = x; right = column }) l) w.0 w.1
left_side-inside fds x column (Err k) answer l p e t = absurd (false≢true (sym e ∙ t))

pub first_none-has : (rest k : ℕ) → None ≡ first rest → has rest k ≡ true → ⊥
first_none-has rest k e h = subst (Listed k) (first-None rest e) (Listed-columns rest k h)

without-other : (x c k : ℕ) → k ≢ c → has x k ≡ true → has (without x c) k ≡ true
without-other x c k ne h = has-without x c k ∙ and_from _ _ h (ap not (ne_eqb k c ne))

-- a column that is in the rest stays there, or is the one that is taken
rest_cases : (rest less c k : ℕ) → less ≡ without rest c → has rest k ≡ true → (k ≡ c) ⊎ (has less k ≡ true)
rest_cases rest less c k i h = elim (cases_eq k c) as (λ _. (k ≡ c) ⊎ (has less k ≡ true)) [
  | inl e ↦ inl e
  | inr ne ↦ inr (ap (λ (z : ℕ). has z k) i ∙ without-other rest c k ne h)
]

pub rest_smaller : (rest less c : ℕ) → Some c ≡ first rest → less ≡ without rest c → less < rest
rest_smaller rest less c e i = let l = (first-Some rest c e).smaller in omega arith

module _ (fds : List Fd) (x : Columns) where
  closure_has-own : (k : ℕ) → has x k ≡ true → has (closure_of fds x) k ≡ true
  closure_has-own k h = has-closure_of fds x k ∙ or_left _ _ h

  closure_has-left : (k : ℕ) → has_left_inside fds x k ≡ true → has (closure_of fds x) k ≡ true
  closure_has-left k h = has-closure_of fds x k ∙ or_right (has x k) _ h

  closure-cases : (k : ℕ) → has (closure_of fds x) k ≡ true → (has x k ≡ true) ⊎ (has_left_inside fds x k ≡ true)
  closure-cases k h = or_cases _ _ (sym (has-closure_of fds x k) ∙ h)

  closure-narrow : (k : ℕ) → IsInOrder fds → has_left_inside fds x k ≡ true → k < 128
  unfolding has_left_inside
  closure-narrow k order e =
      let w = list_any_which (λ (fd : Fd). eqb fd.right k && subset fd.left x) fds e in
      let i = eqb-true w.0.right k (and_parts (eqb w.0.right k) (subset w.0.left x) w.2).0 in
      let l = All-listed (λ (fd : Fd). fd.right < 128) w.0 fds order.narrow w.1 in
      omega arith

  -- ---- the columns that are reached
  pub record Reaching (reached rest : Columns) : Type 0 where
    pub own : IsSubset x reached
    pub only : IsSubset reached (closure_of fds x)
    pub every : (k : ℕ) → has (closure_of fds x) k ≡ true → (has reached k ≡ true) ⊎ (has rest k ≡ true)

  pub reaching-none : (rest : ℕ) → IsInOrder fds → rest ≡ minus (all 128) x → Reaching x rest
  reaching-none rest order e = record {
    own = IsSubset-refl x;
    only = record { each = closure_has-own };
    every = λ k h. elim (cases_Bool (has x k)) as (λ _. (has x k ≡ true) ⊎ (has rest k ≡ true)) [
      | inl g ↦ inl g
      | inr g ↦ elim (closure-cases k h) as (λ _. (has x k ≡ true) ⊎ (has rest k ≡ true)) [
        | inl own ↦ inl own
        | inr left ↦ inr (ap (λ (z : ℕ). has z k) e ∙ has-minus (all 128) x k ∙ and_from _ _ (has-all 128 k ∙ lt-ltb k 128 (closure-narrow k order left)) (not_from_false _ g))
      ]
    ];
  }

  pub reaching-more : (reached rest more less c : ℕ) → Reaching reached rest → more ≡ with reached c → less ≡ without rest c → has_left_inside fds x c ≡ true → Reaching more less
  reaching-more reached rest more less c p e i h = record {
    own = record { each = λ k g. kept k (p.own.each k g) };
    only = subst (λ (z : ℕ). IsSubset z (closure_of fds x)) (sym e) (with_subset c p.only (closure_has-left c h));
    every = λ k g. next k (p.every k g);
  }
    where
      kept : (k : ℕ) → has reached k ≡ true → has more k ≡ true
      kept k g = ap (λ (z : ℕ). has z k) e ∙ (IsSubset-with reached c).each k g

      taken : (k : ℕ) → k ≡ c → has more k ≡ true
      taken k g = ap (λ (z : ℕ). has z k) e ∙ has-with reached c k ∙ or_right (has reached k) _ (eq-eqb k c g)

      next : (k : ℕ) → (has reached k ≡ true) ⊎ (has rest k ≡ true) → (has more k ≡ true) ⊎ (has less k ≡ true)
      next k (inl g) = inl (kept k g)
      next k (inr g) = elim (rest_cases rest less c k i g) as (λ _. (has more k ≡ true) ⊎ (has less k ≡ true)) [ inl same ↦ inl (taken k same) | inr other ↦ inr other ]

  pub reaching-not : (reached rest less c : ℕ) → Reaching reached rest → less ≡ without rest c → has_left_inside fds x c ≡ false → Reaching reached less
  reaching-not reached rest less c p i h = record {
    own = p.own;
    only = p.only;
    every = λ k g. next k g (p.every k g);
  }
    where
      next : (k : ℕ) → has (closure_of fds x) k ≡ true → (has reached k ≡ true) ⊎ (has rest k ≡ true) → (has reached k ≡ true) ⊎ (has less k ≡ true)
      next k g (inl e) = inl e
      next k g (inr e) = elim (rest_cases rest less c k i e) as (λ _. (has reached k ≡ true) ⊎ (has less k ≡ true)) [
        | inl same ↦ elim (closure-cases k g) as (λ _. (has reached k ≡ true) ⊎ (has less k ≡ true)) [
          | inl own ↦ inl (p.own.each k own)
          | inr left ↦ absurd (true≢false (sym left ∙ ap (has_left_inside fds x) same ∙ h))
        ]
        | inr other ↦ inr other
      ]

  pub reaching-end : (reached rest : ℕ) → Reaching reached rest → None ≡ first rest → reached ≡ closure_of fds x
  reaching-end reached rest p e = IsSubset-antisymm p.only (record { each = λ k h. last k (p.every k h) })
    where
      last : (k : ℕ) → (has reached k ≡ true) ⊎ (has rest k ≡ true) → has reached k ≡ true
      last k (inl h) = h
      last k (inr h) = absurd (first_none-has rest k e h)

  -- ---- whether all of s is reached
  pub record Covering (s rest : Columns) : Type 0 where
    pub inside : IsSubset rest (minus s x)
    pub done : (k : ℕ) → has s k ≡ true → (has (closure_of fds x) k ≡ true) ⊎ (has rest k ≡ true)

  pub covering-none : (s rest : ℕ) → rest ≡ minus s x → Covering s rest
  covering-none s rest e = record {
    inside = subst (λ (z : ℕ). IsSubset z (minus s x)) (sym e) (IsSubset-refl (minus s x));
    done = λ k h. elim (cases_Bool (has x k)) as (λ _. (has (closure_of fds x) k ≡ true) ⊎ (has rest k ≡ true)) [
      | inl g ↦ inl (closure_has-own k g)
      | inr g ↦ inr (ap (λ (z : ℕ). has z k) e ∙ has-minus s x k ∙ and_from _ _ h (not_from_false _ g))
    ];
  }

  pub covering-more : (s rest less c : ℕ) → Covering s rest → less ≡ without rest c → has_left_inside fds x c ≡ true → Covering s less
  covering-more s rest less c p i h = record {
    inside = record { each = λ k g. p.inside.each k ((and_parts (has rest k) (not (eqb k c)) (sym (has-without rest c k) ∙ sym (ap (λ (z : ℕ). has z k) i) ∙ g)).0) };
    done = λ k g. next k (p.done k g);
  }
    where
      next : (k : ℕ) → (has (closure_of fds x) k ≡ true) ⊎ (has rest k ≡ true) → (has (closure_of fds x) k ≡ true) ⊎ (has less k ≡ true)
      next k (inl e) = inl e
      next k (inr e) = elim (rest_cases rest less c k i e) as (λ _. (has (closure_of fds x) k ≡ true) ⊎ (has less k ≡ true)) [
        | inl same ↦ inl (closure_has-left k (ap (has_left_inside fds x) same ∙ h))
        | inr other ↦ inr other
      ]

  pub covering-all : (s rest : ℕ) → Covering s rest → None ≡ first rest → IsSubset s (closure_of fds x)
  covering-all s rest p e = record { each = λ k h. last k (p.done k h) }
    where
      last : (k : ℕ) → (has (closure_of fds x) k ≡ true) ⊎ (has rest k ≡ true) → has (closure_of fds x) k ≡ true
      last k (inl h) = h
      last k (inr h) = absurd (first_none-has rest k e h)

  pub covering-not : (s rest c : ℕ) → Covering s rest → Some c ≡ first rest → has_left_inside fds x c ≡ false → subset s (closure_of fds x) ≡ false
  covering-not s rest c p e h = false_from_ne_true _ (λ g.
      let w = and_parts (has s c) (not (has x c)) (sym (has-minus s x c) ∙ p.inside.each c (first-Some rest c e).had) in
      missed (not-true _ w.1) (closure-cases c ((subset-true g).each c w.0)))
    where
      missed : has x c ≡ false → (has x c ≡ true) ⊎ (has_left_inside fds x c ≡ true) → ⊥
      missed i (inl g) = true≢false (sym g ∙ i)
      missed i (inr g) = true≢false (sym g ∙ h)

-- ---- what the call for one column tells of equal lists
pub told : (fds gs : List Fd) (x column : ℕ) (answer b : Bool) → gs ≡ fds → answer ≡ has_left_inside gs x column → answer ≡ b → has_left_inside fds x column ≡ b
told fds gs x column answer b same h t = ap (λ (f : List Fd). has_left_inside f x column) (sym same) ∙ sym h ∙ t
