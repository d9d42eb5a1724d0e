-- Minimal dependencies and minimal keys.
use Rattle.std.specs.Prelude.{◌≡◌, ◌<◌, ◌^◌, ℕ, Bool, false, not, ◌&&◌}
use Rattle.col_set.specs.declared.target.Target.TheVariants.{Col, RowId}
use Rattle.col_set.specs.ColSet.{Columns, IsSubset, has}
use Rattle.col_set.specs.Minimal.{is_minimal}
use Rattle.rel_base.specs.RowState.{RowState, width}
use Rattle.rel_base.specs.Validity.{Holds, holds, unique}

-- X -> a is minimal: a is not in X, X determines a, and no proper subset of X does.
-- A test for sets and columns within the width: of others it says nothing that is meant, as the fact below does not hold of them.
unfoldable pub min_fd : RowState → Columns → ℕ → Bool
min_fd r x a = not (has x a) && is_minimal (width r) (λ y. holds r y (Col a)) x

-- the same as a fact, which no set or column beyond the width meets
pub record MinFd (r : RowState) (x : Columns) (a : ℕ) : Type 0 where
  pub column : a < width r
  pub below : x < 2 ^ width r
  pub lacks : has x a ≡ false
  pub determines : Holds r x (Col a)
  pub smallest : (y : Columns) → IsSubset y x → Holds r y (Col a) → y ≡ x

-- X is a minimal key: it is unique, and no proper subset of it is. As above, a test for sets within the width.
unfoldable pub min_key : RowState → Columns → Bool
min_key r x = is_minimal (width r) (unique r) x

-- the same as a fact, which no set beyond the width meets
pub record MinKey (r : RowState) (x : Columns) : Type 0 where
  pub below : x < 2 ^ width r
  pub determines : Holds r x RowId
  pub smallest : (y : Columns) → IsSubset y x → Holds r y RowId → y ≡ x
