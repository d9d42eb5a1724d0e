-- The numbers of a pass, when it is split and joined.
use Rattle.std.proofs.Common.{◌⊎◌, ◌↔◌, ℕ, ◌<◌, ◌≤◌, List, [], ◌∷◌, ◌++◌, inl, inr, ⊎_elim, arith}
use mathlib.Core.Logic.{dite}
use native.Mathlib.Decide.{dec_le}
use Rattle.desk_lock.specs.declared.view.View.{View}
use Rattle.desk_lock.specs.Views.{Among, InHome, kept_of, given_of, united}

pub among-append : (n : ℕ) (xs ys : List (ℕ × ℕ)) → Among n (xs ++ ys) → Among n xs ⊎ Among n ys
among-append n [] ys h = inr h
among-append n (x ∷ xs) ys h = ⊎_elim (λ a. inl (inl a)) (λ a. ⊎_elim (λ b. inl (inr b)) inr (among-append n xs ys a)) h

pub among-left : (n : ℕ) (xs ys : List (ℕ × ℕ)) → Among n xs → Among n (xs ++ ys)
among-left n [] ys h = absurd h
among-left n (x ∷ xs) ys h = ⊎_elim inl (λ a. inr (among-left n xs ys a)) h

pub among-right : (n : ℕ) (xs ys : List (ℕ × ℕ)) → Among n ys → Among n (xs ++ ys)
among-right n [] ys h = h
among-right n (x ∷ xs) ys h = inr (among-right n xs ys h)

module _ {T C R : Type 0} where
  pub in_united-left : (v w : View T C R) (n : ℕ) → InHome v n → InHome (united v w) n
  in_united-left v w n = ⊎_elim inl (λ a. inr (among-left n v.joined ((w.low, w.high) ∷ w.joined) a))

  pub in_united-right : (v w : View T C R) (n : ℕ) → InHome w n → InHome (united v w) n
  in_united-right v w n h = inr (among-right n v.joined ((w.low, w.high) ∷ w.joined) h)

  pub united-either : (v w : View T C R) (n : ℕ) → InHome (united v w) n → InHome v n ⊎ InHome w n
  united-either v w n = ⊎_elim (λ i. inl (inl i)) (λ a. ⊎_elim (λ b. inl (inr b)) (λ b. inr b) (among-append n v.joined ((w.low, w.high) ∷ w.joined) a))

  pub homes_unite : (v w : View T C R) (n : ℕ) → InHome (united v w) n ↔ (InHome v n ⊎ InHome w n)
  homes_unite v w n = (united-either v w n, ⊎_elim (in_united-left v w n) (in_united-right v w n))

  pub split-either : (v : View T C R) (at n : ℕ) → InHome v n → InHome (kept_of at v) n ⊎ InHome (given_of at v) n
  split-either v at n = ⊎_elim
      (λ (i : (v.low ≤ n) × (n < v.high)). dite (dec_le at n) (λ up. inr (inl (up, i.1))) (λ down. inl (inl (i.0, omega arith))))
      (λ a. inl (inr a))

  pub split-within : (v : View T C R) (at n : ℕ) → v.low < at → at < v.high → InHome (kept_of at v) n ⊎ InHome (given_of at v) n → InHome v n
  split-within v at n above below = ⊎_elim
      (⊎_elim (λ (i : (v.low ≤ n) × (n < at)). (let under : n < at = i.1 in inl (i.0, omega arith))) (λ a. inr a))
      (⊎_elim (λ (i : (at ≤ n) × (n < v.high)). (let over : at ≤ n = i.0 in inl (omega arith, i.1))) (λ a. absurd a))

  pub homes_divide : (v : View T C R) (at n : ℕ) → v.low < at → at < v.high → InHome v n ↔ (InHome (kept_of at v) n ⊎ InHome (given_of at v) n)
  homes_divide v at n above below = (split-either v at n, split-within v at n above below)
