-- What is left of a column set where columns are dropped while the rest passes a test.
use Rattle.std.proofs.Common.{inl, inr, ◌≡◌, ℕ, zero, suc, ◌<◌, ◌≤◌, ◌^◌, Bool, true, false, cond, not, ◌&&◌, eqb, refl, sym, ap, ◌∙◌, subst, arith}
use Rattle.std.proofs.lemmas.Bool.{true≢false, and_parts, and_from, cases_eq, eq-eqb, false_from_ne_true}
use Rattle.col_set.specs.ColSet.{IsSubset, has, without}
use Rattle.col_set.specs.Members.{has-without, has_above}
use Rattle.col_set.specs.Minimal.{IsMinimal}
use Rattle.col_set.specs.Subsets.{IsSubset-refl, IsSubset-trans, has_within}
use Rattle.col_set.proofs.More.{IsMinimal-from_dropped}
use Rattle.fd_closure.specs.Keys.{shrunk}

pub without-subset : (x c : ℕ) → IsSubset (without x c) x
without-subset x c = record { each = λ k e. (and_parts (has x k) (not (eqb k c)) (sym (has-without x c k) ∙ e)).0 }

without-lacks : (x c : ℕ) → has (without x c) c ≡ true → ⊥
without-lacks x c e = true≢false (sym (and_parts (has x c) (not (eqb c c)) (sym (has-without x c c) ∙ e)).1 ∙ ap not (eq-eqb c c refl))

without-inside : (x y c : ℕ) → IsSubset x y → IsSubset (without x c) (without y c)
without-inside x y c s = record { each = λ k e. let w = and_parts (has x k) (not (eqb k c)) (sym (has-without x c k) ∙ e) in has-without y c k ∙ and_from _ _ (s.each k w.0) w.1 }

module _ (p : ℕ → Bool) where
  -- what is tried at the column n
  tried : ℕ → ℕ → ℕ
  tried n x = cond (has x n && p (without x n)) (without x n) x

  tried_inside : (n x : ℕ) → IsSubset (tried n x) x
  unfolding tried
  tried_inside n x = by (has x n && p (without x n))
    where
      by : (b : Bool) → IsSubset (cond b (without x n) x) x
      by true = without-subset x n
      by false = IsSubset-refl x

  pub shrunk-inside : (n x : ℕ) → IsSubset (shrunk p n x) x
  unfolding shrunk tried
  shrunk-inside zero x = IsSubset-refl x
  shrunk-inside (suc n) x = IsSubset-trans (shrunk-inside n (tried n x)) (tried_inside n x)

  tried_passes : (n x : ℕ) → p x ≡ true → p (tried n x) ≡ true
  unfolding tried
  tried_passes n x e = by (has x n && p (without x n)) refl
    where
      by : (b : Bool) → (has x n && p (without x n)) ≡ b → p (cond b (without x n) x) ≡ true
      by true i = (and_parts _ _ i).1
      by false i = e

  pub shrunk-passes : (n x : ℕ) → p x ≡ true → p (shrunk p n x) ≡ true
  unfolding shrunk tried
  shrunk-passes zero x e = e
  shrunk-passes (suc n) x e = shrunk-passes n (tried n x) (tried_passes n x e)

  -- no column at n or above: nothing is tried
  tried_nothing : (n x : ℕ) → has x n ≡ false → tried n x ≡ x
  unfolding tried
  tried_nothing n x e = ap (λ b. cond (b && p (without x n)) (without x n) x) e

  pub shrunk-above : (m n x : ℕ) → x < 2 ^ n → n ≤ m → shrunk p m x ≡ shrunk p n x
  unfolding shrunk tried
  shrunk-above zero n x b l = let e : zero ≡ n = omega arith in ap (λ k. shrunk p k x) e
  shrunk-above (suc m) n x b l = elim (cases_eq n (suc m)) as (λ _. shrunk p (suc m) x ≡ shrunk p n x) [
    | inl e ↦ ap (λ k. shrunk p k x) (sym e)
    | inr ne ↦ ap (shrunk p m) (tried_nothing m x (has_above x n m b (omega arith))) ∙ shrunk-above m n x b (omega arith)
  ]

  -- one step of the loop
  pub shrunk-dropped : (m n x less : ℕ) → m ≡ suc n → has x n ≡ true → p less ≡ true → less ≡ without x n → shrunk p n less ≡ shrunk p m x
  unfolding shrunk tried
  shrunk-dropped m n x less e h g i =
      ap (shrunk p n) (i ∙ sym (ap (λ b. cond b (without x n) x) (and_from _ _ h (ap p (sym i) ∙ g))))
      ∙ ap (λ k. shrunk p k x) (sym e)

  pub shrunk-kept : (m n x : ℕ) → m ≡ suc n → (has x n && p (without x n)) ≡ false → shrunk p n x ≡ shrunk p m x
  unfolding shrunk tried
  shrunk-kept m n x e h = ap (shrunk p n) (sym (ap (λ b. cond b (without x n) x) h)) ∙ ap (λ k. shrunk p k x) (sym e)

  pub shrunk-end : (m x : ℕ) → m ≤ 0 → shrunk p m x ≡ x
  unfolding shrunk
  shrunk-end zero x l = refl
  shrunk-end (suc m) x l = absurd (omega arith)

  -- where more columns pass where fewer do, no column of what is left can be spared
  module _ (more : (x y : ℕ) → IsSubset x y → p x ≡ true → p y ≡ true) where
    needed : (n x c : ℕ) → c < n → has (shrunk p n x) c ≡ true → p (without (shrunk p n x) c) ≡ false
    unfolding shrunk tried
    needed zero x c l h = absurd (omega arith)
    needed (suc n) x c l h = elim (cases_eq c n) as (λ _. p (without (shrunk p n (tried n x)) c) ≡ false) [
      | inl e ↦ false_from_ne_true _ (λ g. kept n x (subst (λ (k : ℕ). has (shrunk p n (tried n x)) k ≡ true) e h) (subst (λ (k : ℕ). p (without (shrunk p n (tried n x)) k) ≡ true) e g))
      | inr ne ↦ needed n (tried n x) c (omega arith) h
    ]
      where
        kept : (n x : ℕ) → has (shrunk p n (tried n x)) n ≡ true → p (without (shrunk p n (tried n x)) n) ≡ true → ⊥
        kept n x h g = by (has x n && p (without x n)) refl
            (let i = shrunk-inside n (tried n x) in i.each n h)
          where
            inside : IsSubset (shrunk p n (tried n x)) x
            inside = IsSubset-trans (shrunk-inside n (tried n x)) (tried_inside n x)

            by : (b : Bool) → (has x n && p (without x n)) ≡ b → has (cond b (without x n) x) n ≡ true → ⊥
            by true i j = without-lacks x n j
            by false i j = true≢false (sym (and_from _ _ (inside.each n h) (more _ _ (without-inside _ x n inside) g)) ∙ i)

    pub shrunk-minimal : (n x : ℕ) → x < 2 ^ n → p x ≡ true → IsMinimal p (shrunk p n x)
    shrunk-minimal n x b e = IsMinimal-from_dropped p (shrunk p n x) more (shrunk-passes n x e)
        (λ c h. needed n x c (has_within x n c b ((shrunk-inside n x).each c h)) h)

-- tests that say the same of each set inside x leave the same
pub shrunk-same : (p q : ℕ → Bool) (n x : ℕ) → ((y : ℕ) → IsSubset y x → p y ≡ q y) → shrunk p n x ≡ shrunk q n x
unfolding shrunk tried
shrunk-same p q zero x f = refl
shrunk-same p q (suc n) x f =
    ap (λ b. shrunk p n (cond (has x n && b) (without x n) x)) (f (without x n) (without-subset x n))
    ∙ shrunk-same p q n (tried q n x) (λ y s. f y (IsSubset-trans s (tried_inside q n x)))
