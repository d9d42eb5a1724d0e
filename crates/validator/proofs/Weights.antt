-- The weights of columns, learnt one after another.
use Rattle.std.proofs.Common.{inl, inr, ◌≡◌, ◌≢◌, ◌⊎◌, ◌<◌, ◌^◌, ℕ, Bool, true, false, not, ◌&&◌, refl, sym, ap, ◌∙◌, subst, List, length, set, get_or, get_or-set_same, get_or-set_other, None}
use Rattle.std.proofs.lemmas.Bool.{false≢true, cases_eq, ne_eqb, lt-ltb, ltb-true}
use Rattle.std.proofs.lemmas.List.{length-set}
use Rattle.col_set.specs.ColSet.{all, first, has, without}
use Rattle.col_set.specs.Members.{has-all, has-empty, has-without}
use Rattle.col_set.specs.Subsets.{below_from}
use Rattle.rel_base.specs.CodeTable.{CodeTable}
use Rattle.validator.specs.Kept.{AreKnown, AreWeights, weight_of}
use Rattle.validator.proofs.Refinements.{no_columns}

-- one more weight
module _ (s : CodeTable) (weights now : List ℕ) (column : ℕ) (l : column < length weights) (e : now ≡ set weights column (weight_of s column)) where
  pub set_known : get_or now column 0 ≡ weight_of s column
  set_known = ap (λ (w : List ℕ). get_or w column 0) e ∙ get_or-set_same weights column (weight_of s column) 0 l

  pub set_other : (k : ℕ) → k ≢ column → get_or now k 0 ≡ get_or weights k 0
  set_other k ne = ap (λ (w : List ℕ). get_or w k 0) e ∙ get_or-set_other weights column k (weight_of s column) 0 ne

  pub set_weights : AreWeights s weights → AreWeights s now
  set_weights p k m ne = here k (cases_eq k column) m ne
    where
      here : (k : ℕ) → (k ≡ column) ⊎ (k ≢ column) → k < length now → get_or now k 0 ≢ 4294967295 → get_or now k 0 ≡ weight_of s k
      here k (inl is) m ne = ap (λ (i : ℕ). get_or now i 0) is ∙ set_known ∙ ap (weight_of s) (sym is)
      here k (inr other) m ne =
          set_other k other ∙ p k (subst (λ (n : ℕ). k < n) (ap length e ∙ length-set weights column (weight_of s column)) m) (λ u. ne (set_other k other ∙ u))

-- the weights of those of the columns that are not left are known
pub record Weighing (s : CodeTable) (columns : ℕ) (weights : List ℕ) (left : ℕ) : Type 0 where
  pub are : AreWeights s weights
  pub known : (k : ℕ) → has columns k ≡ true → has left k ≡ false → get_or weights k 0 ≡ weight_of s k

pub weighing_start : (s : CodeTable) (columns : ℕ) (weights : List ℕ) → AreWeights s weights → Weighing s columns weights columns
weighing_start s columns weights p = record { are = p; known = λ k h f. absurd (false≢true (sym f ∙ h)) }

and_true : (b : Bool) → (b && true) ≡ b
and_true true = refl
and_true false = refl

module _ (s : CodeTable) (columns : ℕ) (weights : List ℕ) (left : ℕ) (p : Weighing s columns weights left) where
  pub weighing_end : None ≡ first left → AreKnown s columns weights
  weighing_end e k h = p.known k h (ap (λ (x : ℕ). has x k) (no_columns left e) ∙ has-empty k)

  module _ (column rest : ℕ) (r : rest ≡ without left column) where
    not_left : (k : ℕ) → k ≢ column → has rest k ≡ false → has left k ≡ false
    not_left k ne f = sym (and_true (has left k)) ∙ ap (λ b. has left k && not b) (sym (ne_eqb k column ne)) ∙ sym (has-without left column k) ∙ ap (λ (x : ℕ). has x k) (sym r) ∙ f

    pub weighing_more : (now : List ℕ) → AreWeights s now → get_or now column 0 ≡ weight_of s column → ((k : ℕ) → k ≢ column → get_or now k 0 ≡ get_or weights k 0) → Weighing s columns now rest
    weighing_more now are here same = record { are = are; known = λ k h f. each k (cases_eq k column) h f }
      where
        each : (k : ℕ) → (k ≡ column) ⊎ (k ≢ column) → has columns k ≡ true → has rest k ≡ false → get_or now k 0 ≡ weight_of s k
        each k (inl is) h f = ap (λ (i : ℕ). get_or now i 0) is ∙ here ∙ ap (weight_of s) (sym is)
        each k (inr other) h f = same k other ∙ p.known k h (not_left k other f)

-- ---- all columns below n
pub all_below : (n : ℕ) → all n < 2 ^ n
all_below n = below_from (all n) n (λ k h. ltb-true k n (sym (has-all n k) ∙ h))

pub has_each : (n k : ℕ) → k < n → has (all n) k ≡ true
has_each n k l = has-all n k ∙ lt-ltb k n l
