-- Left sides in blocks.
use Rattle.std.specs.Prelude.{if◌then◌else◌, ◌≡◌, ◌<◌, ◌≤◌, ◌+◌, ℕ, zero, suc, List, Some, None, slice_get}
use Rattle.std.specs.List.{Contains}
use Rattle.col_set.specs.ColSet.{Columns, IsSubset, subset, union}
use Rattle.fd_closure.specs.declared.block.Block.{Block}

-- what is reached with the columns beside the left side at a place, where there is one and it lies inside X
unfoldable pub with_side : List (Columns × Columns) → Columns → ℕ → Columns → Columns
with_side sides x k reached = elim (slice_get sides k) [ None ↦ reached | Some side ↦ if subset side.0 x then union reached side.1 else reached ]

-- the same of so many places from one on
unfoldable pub with_sides : List (Columns × Columns) → Columns → ℕ → ℕ → Columns → Columns
with_sides sides x start zero reached = reached
with_sides sides x start (suc n) reached = with_side sides x (start + n) (with_sides sides x start n reached)

-- some block has the place, under columns that the left side there has
pub record IsFiled (blocks : List (Columns × Block)) (k : ℕ) (left : Columns) : Type 0 where
  pub block : Columns × Block
  pub listed : Contains blocks block
  pub inside : IsSubset block.0 left
  pub from : block.1.start ≤ k
  pub until : k < block.1.end

-- each left side at a place below n is filed
abbrev pub AreFiled : List (Columns × Columns) → List (Columns × Block) → ℕ → Type 0
AreFiled sides blocks n = (k : ℕ) (side : Columns × Columns) → k < n → slice_get sides k ≡ Some side → IsFiled blocks k side.0

-- the left sides between two places have these columns
abbrev pub HaveCommon : List (Columns × Columns) → Columns → ℕ → ℕ → Type 0
HaveCommon sides common start end = (k : ℕ) (side : Columns × Columns) → start ≤ k → k < end → slice_get sides k ≡ Some side → IsSubset common side.0
