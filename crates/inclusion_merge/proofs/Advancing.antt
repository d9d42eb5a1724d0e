-- A step of a pass, list by list.
use Rattle.std.proofs.Common.{◌≡◌, ◌∙◌, ◌&&◌, ◌+◌, ◌<◌, ◌≤◌, ◌⊎◌, ℕ, arith, Bool, true, false, cond, inl, inr, refl, sym, ap, subst, List, [], length, drop, set, below_more}
use Rattle.std.proofs.lemmas.Bool.{cases_eq}
use Rattle.std.proofs.lemmas.List.{get_or-set_other, get_or-set_same}
use Rattle.rel_base.specs.Cells.{Cell}
use Rattle.inclusion_merge.specs.Sharing.{list_at}

-- of the marked ones among the first so many lists, the first value was taken off
pub record Moved (shared : ℕ → Bool) (initial now : List (List Cell)) (count : ℕ) : Type 0 where
  pub done : (k : ℕ) → k < count → list_at now k ≡ cond (shared k) (drop 1 (list_at initial k)) (list_at initial k)
  pub ahead : (k : ℕ) → count ≤ k → list_at now k ≡ list_at initial k

-- to the marked ones among the first so many columns, the marked columns alone are left
pub record Narrowed (shared : ℕ → Bool) (columns : ℕ) (initial now : ℕ → ℕ → Bool) (count : ℕ) : Type 0 where
  pub done : (c d : ℕ) → c < count → d < columns → now c d ≡ (initial c d && cond (shared c) (shared d) true)
  pub ahead : (c d : ℕ) → count ≤ c → c < columns → d < columns → now c d ≡ initial c d

and-true : (b : Bool) → b ≡ (b && true)
and-true true = refl
and-true false = refl

module _ (shared : ℕ → Bool) (initial now : List (List Cell)) (i : ℕ) (moved : Moved shared initial now i) where
  pub Moved-marked : (now' : List (List Cell)) (rest : List Cell) → i < length now → shared i ≡ true → now' ≡ set now i rest → rest ≡ drop 1 (list_at now i) → Moved shared initial now' (i + 1)
  Moved-marked now' rest l marked is behind = record {
    done = below_more (λ k. list_at now' k ≡ cond (shared k) (drop 1 (list_at initial k)) (list_at initial k)) i (λ k m. other k (omega arith) ∙ moved.done k m) here;
    ahead = λ k m. other k (omega arith) ∙ moved.ahead k (omega arith);
  }
    where
      other : (k : ℕ) → (k ≡ i → ⊥) → list_at now' k ≡ list_at now k
      other k h = ap (λ (xs : List (List Cell)). list_at xs k) is ∙ get_or-set_other now i k rest [] h

      here : list_at now' i ≡ cond (shared i) (drop 1 (list_at initial i)) (list_at initial i)
      here =
          ap (λ (xs : List (List Cell)). list_at xs i) is ∙ get_or-set_same now i rest [] l ∙ behind ∙ ap (λ (xs : List Cell). drop 1 xs) (moved.ahead i (omega arith))
          ∙ sym (ap (λ b. cond b (drop 1 (list_at initial i)) (list_at initial i)) marked)

  pub Moved-unmarked : shared i ≡ false → Moved shared initial now (i + 1)
  Moved-unmarked unmarked = record {
    done = below_more (λ k. list_at now k ≡ cond (shared k) (drop 1 (list_at initial k)) (list_at initial k)) i moved.done
        (moved.ahead i (omega arith) ∙ sym (ap (λ b. cond b (drop 1 (list_at initial i)) (list_at initial i)) unmarked));
    ahead = λ k m. moved.ahead k (omega arith);
  }

module _ (shared : ℕ → Bool) (columns : ℕ) (initial now : ℕ → ℕ → Bool) (i : ℕ) (narrowed : Narrowed shared columns initial now i) where
  pub Narrowed-marked : (now' : ℕ → ℕ → Bool) → i < columns → shared i ≡ true
      → ((c d : ℕ) → c < columns → d < columns → (c ≡ i → ⊥) → now' c d ≡ now c d)
      → ((d : ℕ) → d < columns → now' i d ≡ (now i d && shared d)) → Narrowed shared columns initial now' (i + 1)
  Narrowed-marked now' l marked others kept = record {
    done = λ c d m k. by c d m k (cases_eq c i);
    ahead = λ c d m k j. others c d k j (omega arith) ∙ narrowed.ahead c d (omega arith) k j;
  }
    where
      by : (c d : ℕ) → c < i + 1 → d < columns → (c ≡ i) ⊎ (c ≡ i → ⊥) → now' c d ≡ (initial c d && cond (shared c) (shared d) true)
      by c d m k (inr other) = others c d (omega arith) k other ∙ narrowed.done c d (omega arith) k
      by c d m k (inl same) =
          let here : now' i d ≡ (initial i d && cond (shared i) (shared d) true) =
          kept d k ∙ ap (λ b. b && shared d) (narrowed.ahead i d (omega arith) l k)
          ∙ sym (ap (λ b. initial i d && cond b (shared d) true) marked) in
          subst (λ (n : ℕ). now' n d ≡ (initial n d && cond (shared n) (shared d) true)) (sym same) here

  pub Narrowed-unmarked : i < columns → shared i ≡ false → Narrowed shared columns initial now (i + 1)
  Narrowed-unmarked l unmarked = record {
    done = λ c d m k. by c d m k (cases_eq c i);
    ahead = λ c d m k j. narrowed.ahead c d (omega arith) k j;
  }
    where
      by : (c d : ℕ) → c < i + 1 → d < columns → (c ≡ i) ⊎ (c ≡ i → ⊥) → now c d ≡ (initial c d && cond (shared c) (shared d) true)
      by c d m k (inr other) = narrowed.done c d (omega arith) k
      by c d m k (inl same) =
          let here : now i d ≡ (initial i d && cond (shared i) (shared d) true) =
          narrowed.ahead i d (omega arith) l k ∙ and-true (initial i d)
          ∙ sym (ap (λ b. initial i d && cond b (shared d) true) unmarked) in
          subst (λ (n : ℕ). now n d ≡ (initial n d && cond (shared n) (shared d) true)) (sym same) here
