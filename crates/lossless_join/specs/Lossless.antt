-- Lossless splits (Heath, 1971): where the natural join of projections is the projection that was split.
use Rattle.std.specs.Prelude.{◌≡◌, ◌↔◌, ◌^◌, ◌<◌, ℕ, true, List, [], ◌∷◌, ◌++◌, map}
use Rattle.std.specs.List.{All, Contains}
use Rattle.col_set.specs.declared.target.Target.{Target}
use Rattle.col_set.specs.declared.target.Target.TheVariants.{Col, RowId}
use Rattle.col_set.specs.ColSet.{Columns, IsSubset, empty, has, all, inter, minus, union}
use Rattle.rel_base.specs.declared.nulls.Nulls.TheVariants.{Equal}
use Rattle.rel_base.specs.Cells.{Row}
use Rattle.rel_base.specs.RowState.{RowState, IsRowState, width}
use Rattle.rel_base.specs.Validity.{holds}
use Rattle.rel_base.specs.Projection.{part, projection, distinct_rows}
use Rattle.bcnf_split.specs.Bcnf.{IsBcnf}
use Rattle.bcnf_split.specs.Split.{splits}
use Rattle.lossless_join.specs.NaturalJoin.{TableRows, columns_of, IsMatched, IsNaturalJoin}
use Rattle.lossless_join.specs.Parts.{projection_holds, ProjectionHolds, projection_keys, IsProjectionKey}

-- the table of a projection
abbrev pub projection_table : RowState → Columns → TableRows
projection_table r s = record { columns = s; rows = projection r s }

-- The projection to S is the natural join of the projections to these column sets: they have the columns of S together, and
-- a row has its part on S in the one exactly where it has its part on each of the sets in that projection.
pub record IsJoinOf (r : RowState) (s : Columns) (sets : List Columns) : Type 0 where
  pub columns : columns_of (map (projection_table r) sets) ≡ s
  pub rows : (row : Row) → Contains (projection r s) (part s row) ↔ IsMatched (map (projection_table r) sets) row

-- X and Y are disjoint inside S, and X determines Y.
pub record IsLossless (r : RowState) (s x y : Columns) : Type 0 where
  pub left : IsSubset x s
  pub right : IsSubset y s
  pub disjoint : inter x y ≡ empty
  pub determines : (a : ℕ) → has y a ≡ true → holds r x (Col a) ≡ true

-- Column sets that S was split into, by one lossless split after another: S - Y and X + Y, each again.
pub data SplitsInto (r : RowState) : Columns → List Columns → Type 0 where
  whole : {s : Columns} → SplitsInto r s (s ∷ [])
  parted : {s x y : Columns} {ts us : List Columns} → IsLossless r s x y → SplitsInto r (minus s y) ts → SplitsInto r (union x y) us → SplitsInto r s (ts ++ us)

-- ---- laws
-- The test of a dependency in a projection says what the fact says, and so does the test of a minimal key.
pub record ProjectionTestsMean (r : RowState) (s : Columns) : Type 0 where
  pub dependency : (x : Columns) (t : Target) → (projection_holds r s x t ≡ true) ↔ ProjectionHolds r s x t
  pub key : (x : Columns) → x < 2 ^ width r → Contains (projection_keys r s) x ↔ IsProjectionKey r s x

-- Inside S a dependency holds among the rows exactly where it holds in the projection to S.
abbrev pub ProjectionsKeepDependencies : Type 0
ProjectionsKeepDependencies = (r : RowState) (s x : Columns) (a : ℕ) → IsRowState r → r.nulls ≡ Equal → s < 2 ^ width r → IsSubset x s → has s a ≡ true
    → projection_holds r s x (Col a) ≡ holds r x (Col a)

-- A set inside S is unique in the projection to S exactly where it determines every column of S.
abbrev pub ProjectionsAreUniqueByAll : Type 0
ProjectionsAreUniqueByAll = (r : RowState) (s x : Columns) → IsRowState r → r.nulls ≡ Equal → s < 2 ^ width r → IsSubset x s
    → (projection_holds r s x RowId ≡ true) ↔ ((a : ℕ) → has s a ≡ true → holds r x (Col a) ≡ true)

-- A projection is the natural join of the two that a lossless split makes of it.
abbrev pub SplitsAreLossless : Type 0
SplitsAreLossless = (r : RowState) (s x y : Columns) → IsRowState r → r.nulls ≡ Equal → s < 2 ^ width r → IsLossless r s x y
    → IsJoinOf r s (minus s y ∷ union x y ∷ [])

-- A projection is the natural join of all that one lossless split after another makes of it.
abbrev pub RepeatedSplitsAreLossless : Type 0
RepeatedSplitsAreLossless = (r : RowState) (s : Columns) (sets : List Columns) → IsRowState r → r.nulls ≡ Equal → s < 2 ^ width r → SplitsInto r s sets
    → IsJoinOf r s sets

-- Along the splits of all columns, the natural join of the projections is the distinct rows.
abbrev pub SplitsJoinToDistinctRows : Type 0
SplitsJoinToDistinctRows = (r : RowState) (sets : List Columns) → IsRowState r → r.nulls ≡ Equal → SplitsInto r (all (width r)) sets
    → IsNaturalJoin (width r) (map (projection_table r) sets) (distinct_rows r)

-- The split of all columns to BCNF: each table is in BCNF, the tables have all columns together, and the natural join of their
-- projections is the distinct rows.
pub record SplitToBcnf (r : RowState) : Type 0 where
  pub normal : All (IsBcnf r) (splits r (all (width r)))
  pub columns : columns_of (map (projection_table r) (splits r (all (width r)))) ≡ all (width r)
  pub joined : IsNaturalJoin (width r) (map (projection_table r) (splits r (all (width r)))) (distinct_rows r)
