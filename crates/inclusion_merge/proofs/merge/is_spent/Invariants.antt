use Rattle.std.proofs.Common.{◌≡◌, ◌⊎◌, ◌<◌, ℕ, [], false}
use Rattle.inclusion_merge.specs.Candidates.{may}
use Rattle.inclusion_merge.specs.Sharing.{list_at, lists_of}
use Rattle.inclusion_merge.proofs.merge.is_spent.Given as goal

abbrev pub invariant-loop-other : goal.invariant-loop-other
invariant-loop-other l = (k : ℕ) → k < l.other → (k ≡ l.place → ⊥) → (may l.kept l.place k ≡ false) × ((may l.kept k l.place ≡ false) ⊎ (list_at (lists_of l.rests) k ≡ []))
