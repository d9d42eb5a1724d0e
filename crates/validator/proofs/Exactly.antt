-- A pair of rows shows that a dependency does not hold.
use Rattle.std.proofs.Common.{inl, ◌≡◌, ℕ, ◌<◌, ◌↔◌, true, refl, ap, sym, ◌∙◌, arith, List, [], ◌∷◌}
use Rattle.std.proofs.lemmas.Bool.{true≢false}
use Rattle.std.specs.List.{All}
use Rattle.rel_base.proofs.States.{All-listed}
use Rattle.rel_base.specs.JobParts.{JobParts}
use Rattle.rel_base.specs.Shows.{holds_in}
use Rattle.rel_base.proofs.Shown.{HoldsIn-tested}
use Rattle.validator.specs.Verdicts.{AreFound, AreApart, IsViolation, IsVerdict}
use Rattle.validator.specs.declared.verdict.Verdict.{Verdict}
use Rattle.validator.specs.declared.verdict.Verdict.TheVariants.{Holds, Broken}

apart : (i j : ℕ) → i < j → i ≡ j → ⊥
apart i j l e = omega arith

pub violated : (job : JobParts) (i j : ℕ) → IsViolation job.snapshot job.left job.target i j → holds_in job.snapshot job.left job.target ≡ true → ⊥
violated job i j b e =
    true≢false (sym ((HoldsIn-tested job.snapshot job.left job.target e).each i j b.first b.second (apart i j b.rising) b.left) ∙ b.target)

-- a verdict holds exactly where the dependency does
pub exactly : (job : JobParts) (verdict : Verdict) → IsVerdict job verdict → (verdict ≡ Holds job.to) ↔ (holds_in job.snapshot job.left job.target ≡ true)
exactly job (Holds to) v = ((λ e. v.1), (λ e. ap Holds v.0))
exactly job (Broken i j) b = ((λ e. absurd (cc)), (λ e. absurd (violated job i j b e)))

-- no pair is found exactly where it does
pub none_exactly : (job : JobParts) (pairs : List (ℕ × ℕ)) → AreFound job.snapshot job.left job.target pairs → (pairs ≡ []) ↔ (holds_in job.snapshot job.left job.target ≡ true)
none_exactly job [] found = (found.none, (λ e. refl))
none_exactly job (p ∷ pairs) found =
    (found.none, (λ e. absurd (violated job p.0 p.1 (All-listed (λ (q : ℕ × ℕ). IsViolation job.snapshot job.left job.target q.0 q.1) p (p ∷ pairs) found.each (inl refl)) e)))

-- pairs that break the dependency, of groups of their own, and none exactly where it holds
pub found_of : (job : JobParts) (pairs : List (ℕ × ℕ)) → All (λ p. IsVerdict job (Broken p.0 p.1)) pairs → AreApart job.snapshot job.left pairs
    → (pairs ≡ []) ↔ (holds_in job.snapshot job.left job.target ≡ true) → AreFound job.snapshot job.left job.target pairs
found_of job pairs each apart exactly = record { each = each; apart = apart; none = exactly.0 }
