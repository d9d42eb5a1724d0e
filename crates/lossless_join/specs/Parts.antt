-- Dependencies and keys of a projection: what its parts of rows say, with the columns numbered as in the relation.
use Rattle.std.specs.Prelude.{◌≡◌, ◌≢◌, ℕ, nat_lt, Bool, true, ◌&&◌, List, length, map}
use Rattle.std.specs.List.{filter, Contains}
use Rattle.col_set.specs.declared.target.Target.{Target}
use Rattle.col_set.specs.declared.target.Target.TheVariants.{RowId}
use Rattle.col_set.specs.ColSet.{Columns, IsSubset, subset, columns, set_of, all_sets}
use Rattle.col_set.specs.Target.{has_target}
use Rattle.col_set.specs.Minimal.{is_minimal}
use Rattle.rel_base.specs.Cells.{Cell, Row, cell}
use Rattle.rel_base.specs.Agreement.{same_cell}
use Rattle.rel_base.specs.RowState.{RowState, width}
use Rattle.rel_base.specs.Validity.{pairs, determined}
use Rattle.rel_base.specs.Projection.{projection}

-- the cell of a part on these columns in one of them: it stands behind the cells of those before it
unfoldable pub part_cell : Columns → Row → ℕ → Cell
part_cell s p k = cell p (length (filter (λ j. nat_lt j k) (columns s)))

-- the columns in which two parts have equal cells
unfoldable pub part_agree : Columns → Row → Row → Columns
part_agree s p q = set_of (filter (λ k. same_cell (part_cell s p k) (part_cell s q k)) (columns s))

-- the agree sets of every two of these parts
unfoldable pub part_agree_sets : Columns → List Row → List Columns
part_agree_sets s parts = map (λ p. part_agree s p.0 p.1) (pairs parts)

-- X determines t in the projection to S: every two different parts that agree on X agree on t
unfoldable pub projection_holds : RowState → Columns → Columns → Target → Bool
projection_holds r s x t = determined (part_agree_sets s (projection r s)) x t

-- the same as a fact
pub record ProjectionHolds (r : RowState) (s x : Columns) (t : Target) : Type 0 where
  pub each : (p q : Row) → Contains (projection r s) p → Contains (projection r s) q → p ≢ q → IsSubset x (part_agree s p q)
      → has_target (part_agree s p q) t ≡ true

-- the minimal keys of the projection to S, in report order: the sets inside S on which no two different parts agree, where
-- on each proper subset two do
unfoldable pub projection_keys : RowState → Columns → List Columns
projection_keys r s = filter (λ x. subset x s && is_minimal (width r) (λ y. projection_holds r s y RowId) x) (all_sets (width r))

-- the same as a fact
pub record IsProjectionKey (r : RowState) (s x : Columns) : Type 0 where
  pub inside : IsSubset x s
  pub unique : ProjectionHolds r s x RowId
  pub smallest : (y : Columns) → IsSubset y x → ProjectionHolds r s y RowId → y ≡ x
