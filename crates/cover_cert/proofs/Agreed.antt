-- The columns in which two rows have equal codes, column by column.
use Rattle.std.proofs.Common.{inl, inr, ◌≡◌, ◌≢◌, ◌⊎◌, ℕ, ◌+◌, ◌<◌, Bool, true, false, ◌||◌, refl, sym, ap, ◌∙◌, subst, arith, length}
use Rattle.std.proofs.lemmas.Bool.{false≢true, eq-eqb, ne_eqb, cases_eq}
use Rattle.col_set.specs.ColSet.{empty, has, with}
use Rattle.col_set.specs.Members.{has-empty, has-with, same_set}
use Rattle.col_set.specs.Subsets.{IsSubset-with, same_test}
use Rattle.rel_base.specs.CodeTable.{CodeTable, code_at}
use Rattle.rel_base.specs.Shows.{code_agree}
use Rattle.stripped_partition.proofs.Agreeing.{code_agree-parts, code_agree-from}

or_false : (b : Bool) → (b || false) ≡ b
or_false true = refl
or_false false = refl

or_true : (b : Bool) → (b || true) ≡ true
or_true true = refl
or_true false = refl

-- ---- the columns below n in which two rows have equal codes
pub record Agreed (s : CodeTable) (i j n x : ℕ) : Type 0 where
  pub only : (k : ℕ) → has x k ≡ true → (k < n) × (code_at s i k ≡ code_at s j k)
  pub every : (k : ℕ) → k < n → code_at s i k ≡ code_at s j k → has x k ≡ true

module _ (s : CodeTable) (i j : ℕ) where
  pub agreed_none : (x : ℕ) → x ≡ empty → Agreed s i j 0 x
  agreed_none x e = record {
    only = λ k h. absurd (false≢true (sym (has-empty k) ∙ ap (λ (z : ℕ). has z k) (sym e) ∙ h));
    every = λ k l c. absurd (omega arith);
  }

  pub agreed_with : (n x more : ℕ) → Agreed s i j n x → code_at s i n ≡ code_at s j n → more ≡ with x n → Agreed s i j (n + 1) more
  agreed_with n x more p same e = subst (Agreed s i j (n + 1)) (sym e) (record { only = λ k h. out k (cases_eq k n) h; every = λ k l c. in_ k (cases_eq k n) l c })
    where
      out : (k : ℕ) → (k ≡ n) ⊎ (k ≢ n) → has (with x n) k ≡ true → (k < n + 1) × (code_at s i k ≡ code_at s j k)
      out k (inl e) h = ((omega arith), subst (λ (z : ℕ). code_at s i z ≡ code_at s j z) (sym e) same)
      out k (inr ne) h =
          let w = p.only k (sym (ap (λ b. has x k || b) (ne_eqb k n ne) ∙ or_false (has x k)) ∙ sym (has-with x n k) ∙ h) in
          let l = w.0 in ((omega arith), w.1)

      in_ : (k : ℕ) → (k ≡ n) ⊎ (k ≢ n) → k < n + 1 → code_at s i k ≡ code_at s j k → has (with x n) k ≡ true
      in_ k (inl e) l c = has-with x n k ∙ ap (λ b. has x k || b) (eq-eqb k n e) ∙ or_true (has x k)
      in_ k (inr ne) l c = (IsSubset-with x n).each k (p.every k (omega arith) c)

  pub agreed_not : (n x : ℕ) → Agreed s i j n x → code_at s i n ≢ code_at s j n → Agreed s i j (n + 1) x
  agreed_not n x p ne = record { only = λ k h. let w = p.only k h in let l = w.0 in ((omega arith), w.1); every = λ k l c. here k (cases_eq k n) l c }
    where
      here : (k : ℕ) → (k ≡ n) ⊎ (k ≢ n) → k < n + 1 → code_at s i k ≡ code_at s j k → has x k ≡ true
      here k (inl e) l c = absurd (ne (subst (λ (z : ℕ). code_at s i z ≡ code_at s j z) e c))
      here k (inr other) l c = p.every k (omega arith) c

  pub agreed_all : (n x : ℕ) → Agreed s i j n x → n ≡ length s.codes → x ≡ code_agree s i j
  agreed_all n x p e = same_set _ _ (λ k. same_test _ _
      (λ h. let w = p.only k h in code_agree-from s i j k (subst (λ (m : ℕ). k < m) e w.0) w.1)
      (λ h. let w = code_agree-parts s i j k h in p.every k (subst (λ (m : ℕ). k < m) (sym e) w.0) w.1))
