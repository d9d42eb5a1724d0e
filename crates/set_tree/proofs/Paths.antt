-- Paths: the columns of a set, the first one and the rest.
use Rattle.std.proofs.Common.{inl, inr, ◌≡◌, ◌≢◌, ◌<◌, ◌≤◌, ◌&&◌, ◌||◌, not, ℕ, Bool, true, false, eqb, refl, sym, ap, ap₂, ◌∙◌, subst, arith, ◌∷◌, Some, None, Result, Ok, Err, IfOk, OnOk, OnErr}
use Rattle.std.proofs.Common.{Less, Equal, Greater, nat_cmp}
use Rattle.std.specs.Cmp.{nat_cmp_is}
use Rattle.std.specs.Ordering.{is_lt, is_le}
use Rattle.std.proofs.lemmas.Bool.{eqb-true, eq-eqb, ne_eqb, true≢false, and_parts, cases_lt}
use Rattle.col_set.specs.ColSet.{has, with, without, empty, columns, first}
use Rattle.col_set.specs.Members.{has-empty, has-with, has-without, same_set}
use Rattle.col_set.specs.Lists.{Listed}
use Rattle.col_set.specs.AllSets.{Ascends, Ascends_within}
use Rattle.col_set.proofs.EachColumn.{first-Some, first-None, Listed-columns, Ascends-columns}
use Rattle.set_tree.specs.Tree.{AreBehind}

pub first_least : (x k j : ℕ) → Some k ≡ first x → has x j ≡ true → k ≤ j
first_least x k j e h =
    (Ascends_within k x j (columns x) (subst (Ascends k x) (sym r.columns_are) (omega arith, ascends.1, ascends.2)) (Listed-columns x j h)).0
  where
    r : Rattle.col_set.proofs.EachColumn.Rest x k
    r = first-Some x k e

    ascends : Ascends 0 x (k ∷ columns (without x k))
    ascends = subst (Ascends 0 x) r.columns_are (Ascends-columns x)

-- what follows the first column of what is behind a column
pub first_behind : (rest below : ℕ) → Some below ≡ first rest → AreBehind below (without rest below)
first_behind rest below e k h =
    let both = and_parts (has rest k) (not (eqb k below)) (sym (has-without rest below k) ∙ h) in
    let l : below ≤ k = first_least rest below k e both.0 in
    other l (eqb k below) refl both.1
  where
    other : below ≤ k → (b : Bool) → eqb k below ≡ b → not b ≡ true → below < k
    other l true i n = absurd (true≢false (sym n))
    other l false i n = elim (cases_lt below k) as (λ _. below < k) [ inl m ↦ m | inr m ↦ absurd (true≢false (sym (eq-eqb k below (omega (arith, l, m))) ∙ i)) ]

pub first_whole : (rest below : ℕ) → Some below ≡ first rest → with (without rest below) below ≡ rest
first_whole rest below e = same_set (with (without rest below) below) rest (λ k. has-with (without rest below) below k ∙ ap (λ (b : Bool). b || eqb k below) (has-without rest below k) ∙ by k (eqb k below) refl)
  where
    by : (k : ℕ) (b : Bool) → eqb k below ≡ b → ((has rest k && not b) || b) ≡ has rest k
    by k true i = both (has rest k) ∙ sym (ap (has rest) (eqb-true k below i) ∙ (first-Some rest below e).had)
      where
        both : (p : Bool) → ((p && false) || true) ≡ true
        both true = refl
        both false = refl
    by k false i = both (has rest k)
      where
        both : (p : Bool) → ((p && true) || false) ≡ p
        both true = refl
        both false = refl

pub first_lacks : (rest below : ℕ) → has (without rest below) below ≡ false
first_lacks rest below = has-without rest below below ∙ ap (λ (b : Bool). has rest below && not b) (eq-eqb below below refl) ∙ both (has rest below)
  where
    both : (p : Bool) → (p && false) ≡ false
    both true = refl
    both false = refl

pub first_further : (column rest below : ℕ) → AreBehind column rest → Some below ≡ first rest → column < below
first_further column rest below f e = f below (first-Some rest below e).had

pub behind_lacks : (column rest : ℕ) → AreBehind column rest → has rest column ≡ false
behind_lacks column rest f = by (has rest column) refl
  where
    by : (b : Bool) → has rest column ≡ b → has rest column ≡ false
    by true e = absurd (let l : column < column = f column e in omega (arith, l))
    by false e = e

-- with no first column there is none
pub first_none : (rest : ℕ) → None ≡ first rest → rest ≡ empty
first_none rest e = same_set rest empty (λ k. by k (has rest k) refl ∙ sym (has-empty k))
  where
    by : (k : ℕ) (b : Bool) → has rest k ≡ b → has rest k ≡ false
    by k true h = absurd (subst (Listed k) (first-None rest e) (Listed-columns rest k h))
    by k false h = h

pub first_some : (rest below : ℕ) → Some below ≡ first rest → rest ≢ empty
first_some rest below e i = true≢false (sym (first-Some rest below e).had ∙ ap (λ x. has x below) i ∙ has-empty below)

-- what two clauses of a success say together
pub on_both : {A E : Type 0} {P Q R : A → Type 0} (r : Result A E) → ((x : A) → P x → Q x → R x) → IfOk r P → IfOk r Q → IfOk r R
on_both (Ok x) f p q = f x p q
on_both (Err e) f p q = p

pub on_refused : {A E : Type 0} {P Q : Type 0} (r : Result A E) → (P → Q) → OnErr r P → OnErr r Q
on_refused (Ok x) f p = p
on_refused (Err e) f p = f p

pub on_success : {A E : Type 0} {P Q : A → Type 0} (r : Result A E) → ((x : A) → P x → Q x) → IfOk r P → IfOk r Q
on_success (Ok x) f p = f x p
on_success (Err e) f p = p

-- ---- what a comparison tells
pub cmp_less : (a b : ℕ) → Less ≡ nat_cmp a b → a < b
cmp_less a b h = elim (cases_lt a b) as (λ _. a < b) [
  | inl l ↦ l
  | inr m ↦ absurd (elim (cases_lt b a) as (λ _. ⊥) [
    | inl g ↦ true≢false (ap is_lt (h ∙ sym (nat_cmp_is a b Greater g)))
    | inr n ↦ true≢false (ap is_lt (h ∙ sym (nat_cmp_is a b Equal (omega (arith, m, n)))))
  ])
]

pub cmp_greater : (a b : ℕ) → Greater ≡ nat_cmp a b → b < a
cmp_greater a b h = elim (cases_lt b a) as (λ _. b < a) [
  | inl l ↦ l
  | inr m ↦ absurd (elim (cases_lt a b) as (λ _. ⊥) [
    | inl g ↦ true≢false (sym (ap is_lt (h ∙ sym (nat_cmp_is a b Less g))))
    | inr n ↦ true≢false (sym (ap is_le (h ∙ sym (nat_cmp_is a b Equal (omega (arith, m, n))))))
  ])
]

pub cmp_same : (a b : ℕ) → Equal ≡ nat_cmp a b → a ≡ b
cmp_same a b h = elim (cases_lt a b) as (λ _. a ≡ b) [
  | inl g ↦ absurd (true≢false (sym (ap is_lt (h ∙ sym (nat_cmp_is a b Less g)))))
  | inr m ↦ elim (cases_lt b a) as (λ _. a ≡ b) [
    | inl g ↦ absurd (true≢false (ap is_le (h ∙ sym (nat_cmp_is a b Greater g))))
    | inr n ↦ omega (arith, m, n)
  ]
]

-- a path lacks what stands before its first column
pub behind_lacks_with : (column rest k : ℕ) → AreBehind column rest → k < column → has (with rest column) k ≡ false
behind_lacks_with column rest k f l = has-with rest column k ∙ ap₂ (λ (p q : Bool). p || q) (by (has rest k) refl) (ne_eqb k column (λ e. omega (arith, e, l)))
  where
    by : (b : Bool) → has rest k ≡ b → has rest k ≡ false
    by true e = absurd (let m : column < k = f k e in omega (arith, l, m))
    by false e = e

pub path_begins : (column rest : ℕ) → has (with rest column) column ≡ true
path_begins column rest = has-with rest column column ∙ ap (λ (b : Bool). has rest column || b) (eq-eqb column column refl) ∙ both (has rest column)
  where
    both : (p : Bool) → (p || true) ≡ true
    both true = refl
    both false = refl

pub on_done : {A E : Type 0} {P Q : Type 0} (r : Result A E) → (P → Q) → OnOk r P → OnOk r Q
on_done (Ok x) f p = f p
on_done (Err e) f p = p

pub on_err_any : {A E : Type 0} {P : Type 0} (r : Result A E) → P → OnErr r P
on_err_any (Ok x) p = tt
on_err_any (Err e) p = p
