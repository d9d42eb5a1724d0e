-- Closures under two lists of dependencies together.
use Rattle.std.proofs.Common.{inl, inr, ◌≡◌, ◌≢◌, ◌⊎◌, ℕ, ◌<◌, true, false, not, sym, ap, ◌∙◌, arith, List, ◌++◌}
use Rattle.std.specs.List.{All}
use Rattle.std.proofs.lemmas.Bool.{true≢false, cases_Bool, and_parts, and_from, or_cases, or_left, or_right, not-true, not_from_false, lt-ltb}
use Rattle.col_set.specs.ColSet.{Columns, IsSubset, has, all, minus, union}
use Rattle.col_set.specs.Members.{has-all, has-minus, has-union}
use Rattle.col_set.specs.Lists.{Listed, Listed-append_left, Listed-append_right, Listed-append_cases}
use Rattle.col_set.specs.Subsets.{IsSubset-antisymm, IsSubset-le}
use Rattle.col_set.proofs.Places.{Contains-listed, Listed-contained}
use Rattle.rel_base.proofs.States.{All-listed}
use Rattle.rel_base.specs.declared.dependency.Fd.{Fd}
use Rattle.fd_closure.specs.Under.{IsClosed}

-- ---- a set with all columns
pub with_all : Columns → Columns
with_all x = union x (all 128)

has-with_all : (x k : ℕ) → k < 128 → has (with_all x) k ≡ true
unfolding with_all
has-with_all x k l = has-union x (all 128) k ∙ or_right (has x k) (has (all 128) k) (has-all 128 k ∙ lt-ltb k 128 l)

pub with_all-own : (x : ℕ) → IsSubset x (with_all x)
unfolding with_all
with_all-own x = record { each = λ k h. has-union x (all 128) k ∙ or_left (has x k) (has (all 128) k) h }

pub with_all-closed : (fds : List Fd) (x : ℕ) → All (λ fd. fd.right < 128) fds → IsClosed fds (with_all x)
with_all-closed fds x narrow = record { each = λ fd h s. has-with_all x fd.right (All-listed (λ (fd : Fd). fd.right < 128) fd fds narrow (Listed-contained fd fds h)) }

-- what is added are columns, so that fewer are left outside
pub fewer-outside : (x y : ℕ) → IsSubset x y → IsSubset y (with_all x) → (y ≢ x) → minus (all 128) y < minus (all 128) x
unfolding with_all
fewer-outside x y s w ne = let l = IsSubset-le inside in let d : minus (all 128) y ≢ minus (all 128) x = apart in omega arith
  where
    lacks : (k : ℕ) → has y k ≡ false → has x k ≡ false
    lacks k e = elim (cases_Bool (has x k)) as (λ _. has x k ≡ false) [ inl g ↦ absurd (true≢false (sym (s.each k g) ∙ e)) | inr g ↦ g ]

    inside : IsSubset (minus (all 128) y) (minus (all 128) x)
    inside = record {
      each = λ k g.
          let q = and_parts (has (all 128) k) (not (has y k)) (sym (has-minus (all 128) y k) ∙ g) in
          has-minus (all 128) x k ∙ and_from _ _ q.0 (not_from_false _ (lacks k (not-true _ q.1)));
    }

    back : minus (all 128) y ≡ minus (all 128) x → IsSubset y x
    back e = record { each = λ k h. by k h (or_cases (has x k) (has (all 128) k) (sym (has-union x (all 128) k) ∙ w.each k h)) }
      where
        by : (k : ℕ) → has y k ≡ true → (has x k ≡ true) ⊎ (has (all 128) k ≡ true) → has x k ≡ true
        by k h (inl g) = g
        by k h (inr g) = elim (cases_Bool (has x k)) as (λ _. has x k ≡ true) [
          | inl i ↦ i
          | inr i ↦
              let p : has (minus (all 128) x) k ≡ true = has-minus (all 128) x k ∙ and_from _ _ g (not_from_false _ i) in
              let q = and_parts (has (all 128) k) (not (has y k)) (sym (has-minus (all 128) y k) ∙ ap (λ (z : ℕ). has z k) e ∙ p) in
              absurd (true≢false (sym h ∙ not-true _ q.1))
        ]

    apart : minus (all 128) y ≢ minus (all 128) x
    apart e = ne (IsSubset-antisymm (back e) s)

pub left_closed : (first second : List Fd) (z : ℕ) → IsClosed (first ++ second) z → IsClosed first z
left_closed first second z c = record { each = λ fd h s. c.each fd (Contains-listed fd (first ++ second) (Listed-append_left fd first second (Listed-contained fd first h))) s }

pub right_closed : (first second : List Fd) (z : ℕ) → IsClosed (first ++ second) z → IsClosed second z
right_closed first second z c = record { each = λ fd h s. c.each fd (Contains-listed fd (first ++ second) (Listed-append_right fd first second (Listed-contained fd second h))) s }

pub both_closed : (first second : List Fd) (z : ℕ) → IsClosed first z → IsClosed second z → IsClosed (first ++ second) z
both_closed first second z a b = record { each = λ fd h s. by fd s (Listed-append_cases fd first second (Listed-contained fd (first ++ second) h)) }
  where
    by : (fd : Fd) → IsSubset fd.left z → Listed fd first ⊎ Listed fd second → has z fd.right ≡ true
    by fd s (inl h) = a.each fd (Contains-listed fd first h) s
    by fd s (inr h) = b.each fd (Contains-listed fd second h) s

-- what steps from x reached, and one step more
pub record Closing (first second : List Fd) (a x reached next : ℕ) : Type 0 where
  pub contains : IsSubset x reached
  pub inside : (z : ℕ) → IsSubset x z → IsClosed (first ++ second) z → IsSubset reached z
  pub lacks : has reached a ≡ false
  pub grown : IsSubset reached next
  pub within : (z : Columns) → IsClosed (first ++ second) z → IsSubset reached z → IsSubset next z
  pub settled : next ≡ reached → IsClosed (first ++ second) reached
  pub fewer : (next ≢ reached) → minus (all 128) next < minus (all 128) reached
