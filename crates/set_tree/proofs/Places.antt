-- Places: how often they are used or spare.
use Rattle.std.proofs.Common.{IfSome, option_to_list, if◌then◌else◌, inl, inr, ◌≡◌, ◌⊎◌, ℕ, ◌+◌, ◌<◌, ◌≤◌, Bool, true, false, eqb, cond, refl, sym, ap, ◌∙◌, subst, arith, List, [], ◌∷◌, ◌++◌, length, Option, Some, None}
use Rattle.std.specs.List.{slice_get}
use Rattle.std.specs.Option.{is_some}
use Rattle.std.proofs.lemmas.Bool.{eqb-true, eq-eqb, lt-ltb, le-ltb, cases_lt, true≢false}
use Rattle.std.proofs.lemmas.Option.{slice_get-get_or}
use Rattle.std.proofs.Math.ListN.{get_or, get_or-append}
use Rattle.std.proofs.lemmas.List.{length-append}
use Rattle.set_tree.specs.Tree.{one, behind, times, spare}

pub one_same : (k : ℕ) → one k k ≡ 1
unfolding one
one_same k = ap (λ (b : Bool). cond b 1 0) (eq-eqb k k refl)

pub one_cases : (at k : ℕ) → ((at ≡ k) × (one at k ≡ 1)) ⊎ (one at k ≡ 0)
unfolding one
one_cases at k = by (eqb at k) refl
  where
    by : (b : Bool) → eqb at k ≡ b → ((at ≡ k) × (◌≡◌ {A = ℕ} (cond b 1 0) 1)) ⊎ (◌≡◌ {A = ℕ} (cond b 1 0) 0)
    by true e = inl (eqb-true at k e, refl)
    by false e = inr refl

pub behind_in : (n k : ℕ) → k < n → behind n k ≡ 0
unfolding behind
behind_in n k l = ap (λ (b : Bool). cond b 0 1) (lt-ltb k n l)

pub behind_out : (n k : ℕ) → n ≤ k → behind n k ≡ 1
unfolding behind
behind_out n k l = ap (λ (b : Bool). cond b 0 1) (le-ltb k n l)

pub times-append : (us : List ℕ) (place k : ℕ) → times (us ++ place ∷ []) k ≡ one place k + times us k
unfolding times
times-append [] place k = refl
times-append (u ∷ us) place k = let e : times (us ++ place ∷ []) k ≡ one place k + times us k = times-append us place k in omega (arith, e)

pub spare_none : (k : ℕ) → spare 0 [] k ≤ 1
unfolding spare times
spare_none k = let e : behind 0 k ≡ 1 = behind_out 0 k (omega arith) in omega (arith, e)

-- what is spare no more than once stands among the nodes
pub spare_within : (n : ℕ) (us : List ℕ) (place : ℕ) → times us place ≡ 1 → spare n us place ≤ 1 → place < n
unfolding spare
spare_within n us place e l = elim (cases_lt place n) as (λ _. place < n) [
  | inl h ↦ h
  | inr h ↦ absurd (let b : behind n place ≡ 1 = behind_out n place h in omega (arith, e, b, l))
]

-- one place more, behind all others
pub spare_pushed : (n : ℕ) (us : List ℕ) (k : ℕ) → one n k + spare (n + 1) us k ≤ spare n us k
unfolding spare
spare_pushed n us k = elim (one_cases n k) as (λ _. one n k + (times us k + behind (n + 1) k) ≤ times us k + behind n k) [
  | inl h ↦ let b : behind n k ≡ 1 = behind_out n k (omega (arith, h.0)) in let d : behind (n + 1) k ≡ 0 = behind_in (n + 1) k (omega (arith, h.0)) in omega (arith, h.1, b, d)
  | inr h ↦ elim (cases_lt k n) as (λ _. one n k + (times us k + behind (n + 1) k) ≤ times us k + behind n k) [
    | inl l ↦ let b : behind n k ≡ 0 = behind_in n k l in let d : behind (n + 1) k ≡ 0 = behind_in (n + 1) k (omega (arith, l)) in omega (arith, h, b, d)
    | inr l ↦ let b : behind n k ≡ 1 = behind_out n k l in elim (cases_lt k (n + 1)) as (λ _. one n k + (times us k + behind (n + 1) k) ≤ times us k + behind n k) [
      | inl m ↦ let d : behind (n + 1) k ≡ 0 = behind_in (n + 1) k m in omega (arith, h, b, d)
      | inr m ↦ let d : behind (n + 1) k ≡ 1 = behind_out (n + 1) k m in omega (arith, h, b, d)
    ]
  ]
]

module _ {X : Type 0} where
  pub get_in : (xs : List X) (x : X) (k : ℕ) → k < length xs → slice_get (xs ++ x ∷ []) k ≡ slice_get xs k
  get_in xs x k l =
      slice_get-get_or (xs ++ x ∷ []) k x (let e : length (xs ++ x ∷ []) ≡ length xs + 1 = length-append xs (x ∷ []) in omega (arith, e, l))
      ∙ ap (λ z. Some z) (get_or-append xs (x ∷ []) x k l) ∙ sym (slice_get-get_or xs k x l)

  last : (xs : List X) (x : X) → get_or (xs ++ x ∷ []) (length xs) x ≡ x
  last [] x = refl
  last (y ∷ xs) x = last xs x

  pub get_last : (xs : List X) (x : X) → slice_get (xs ++ x ∷ []) (length xs) ≡ Some x
  get_last xs x = slice_get-get_or (xs ++ x ∷ []) (length xs) x (let e : length (xs ++ x ∷ []) ≡ length xs + 1 = length-append xs (x ∷ []) in omega (arith, e)) ∙ ap (λ z. Some z) (last xs x)

pub noted : (n : ℕ) (us new : List ℕ) (place : ℕ) (b : Bool) → new ≡ (if b then us ++ place ∷ [] else us) → (k : ℕ) → spare n new k ≤ one place k + spare n us k
unfolding spare
noted n us new place true e k = let t : times new k ≡ one place k + times us k = ap (λ (ws : List ℕ). times ws k) e ∙ times-append us place k in omega (arith, t)
noted n us new place false e k = let t : times new k ≡ times us k = ap (λ (ws : List ℕ). times ws k) e in omega (arith, t)

pub taken : (old new : List ℕ) (o : Option ℕ) → old ≡ new ++ option_to_list o → IfSome o (λ place. (k : ℕ) → one place k + times new k ≡ times old k)
taken old new None e = tt
taken old new (Some place) e = λ k. sym (ap (λ (ws : List ℕ). times ws k) e ∙ times-append new place k)

pub taken_within : (n : ℕ) (old new : List ℕ) (place : ℕ) → ((k : ℕ) → one place k + times new k ≡ times old k) → ((k : ℕ) → spare n old k ≤ 1) → place < n
unfolding spare
taken_within n old new place e once = elim (cases_lt place n) as (λ _. place < n) [
  | inl h ↦ h
  | inr h ↦ absurd (let b : behind n place ≡ 1 = behind_out n place h in let o : one place place ≡ 1 = one_same place in let t = e place in let w = once place in omega (arith, b, o, t, w))
]

pub taken_fewer : (n : ℕ) (old new : List ℕ) (place : ℕ) → ((k : ℕ) → one place k + times new k ≡ times old k) → (k : ℕ) → one place k + spare n new k ≤ spare n old k
unfolding spare
taken_fewer n old new place e k = let t = e k in omega (arith, t)

pub taken_other : (n : ℕ) (old new : List ℕ) (place : ℕ) → ((k : ℕ) → one place k + times new k ≡ times old k) → (k : ℕ) → spare n old k ≡ 0 → k ≡ place → ⊥
unfolding spare
taken_other n old new place e k z i = let t = e k in let o : one place place ≡ 1 = one_same place in let w : one place k ≡ 1 = subst (λ (j : ℕ). one place j ≡ 1) (sym i) o in omega (arith, t, w, z)

pub spare_nothing : (n : ℕ) (us : List ℕ) (k : ℕ) → spare n us k ≡ 0 → k < n
unfolding spare
spare_nothing n us k z = elim (cases_lt k n) as (λ _. k < n) [ inl h ↦ h | inr h ↦ absurd (let b : behind n k ≡ 1 = behind_out n k h in omega (arith, b, z)) ]

pub not_some : {A : Type 0} (o : Option A) → is_some o ≡ false → o ≡ None
not_some None e = refl
not_some (Some x) e = absurd (true≢false e)
