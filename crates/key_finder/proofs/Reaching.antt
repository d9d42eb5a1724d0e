-- The columns of a set up to the last one.
use Rattle.std.proofs.Common.{inl, inr, ◌≡◌, ◌≢◌, ◌⊎◌, ℕ, ◌^◌, ◌<◌, ◌≤◌, true, not, eqb, sym, ap, ◌∙◌, subst, arith, None}
use Rattle.std.proofs.lemmas.Bool.{and_from, ne_eqb, cases_eq}
use Rattle.col_set.specs.ColSet.{has, without, first}
use Rattle.col_set.specs.Members.{has-without}
use Rattle.col_set.specs.Lists.{Listed}
use Rattle.col_set.specs.Subsets.{below_from}
use Rattle.col_set.proofs.EachColumn.{first-None, Listed-columns}

-- each column is among those that are left, or stands before the bound
pub record Reached (columns reach left : ℕ) : Type 0 where
  pub column : (k : ℕ) → has columns k ≡ true → (has left k ≡ true) ⊎ (k < reach)
  pub bound : reach ≤ 128

pub reached_start : (columns : ℕ) → Reached columns 0 columns
reached_start columns = record { column = λ k h. inl h; bound = omega arith }

pub reached_next : (columns reach left column rest new : ℕ) → Reached columns reach left → rest ≡ without left column → column < new → reach ≤ new → new ≤ 128 → Reached columns new rest
reached_next columns reach left column rest new p r over more bound = record { column = λ k h. at k (cases_eq k column) (p.column k h); bound = bound }
  where
    at : (k : ℕ) → (k ≡ column) ⊎ (k ≢ column) → (has left k ≡ true) ⊎ (k < reach) → (has rest k ≡ true) ⊎ (k < new)
    at k (inl e) h = inr (omega (arith, e, over))
    at k (inr ne) (inl h) = inl (ap (λ (z : ℕ). has z k) r ∙ has-without left column k ∙ and_from _ _ h (ap not (ne_eqb k column ne)))
    at k (inr ne) (inr l) = inr (omega (arith, l, more))

pub reached_end : (columns reach left : ℕ) → Reached columns reach left → None ≡ first left → columns < 2 ^ reach
reached_end columns reach left p e = below_from columns reach (λ k h. at k (p.column k h))
  where
    at : (k : ℕ) → (has left k ≡ true) ⊎ (k < reach) → k < reach
    at k (inl h) = absurd (subst (Listed k) (first-None left e) (Listed-columns left k h))
    at k (inr l) = l
