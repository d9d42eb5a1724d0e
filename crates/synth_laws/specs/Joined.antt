-- The natural join of tables by synthesis.
use Rattle.std.specs.Prelude.{◌≡◌, ◌<◌, ◌^◌, ℕ, List, map}
use Rattle.std.specs.List.{Contains}
use Rattle.col_set.specs.declared.target.Target.TheVariants.{Col}
use Rattle.col_set.specs.ColSet.{all}
use Rattle.rel_base.specs.declared.dependency.Fd.{Fd}
use Rattle.rel_base.specs.declared.dependency.Table.{Table}
use Rattle.rel_base.specs.RowState.{RowState, width}
use Rattle.rel_base.specs.Validity.{Holds}
use Rattle.rel_base.specs.Covers.{covers}
use Rattle.rel_base.specs.Projection.{distinct_rows}
use Rattle.lossless_join.specs.NaturalJoin.{TableRows, columns_of, IsNaturalJoin}
use Rattle.lossless_join.specs.Lossless.{projection_table}
use Rattle.synth_3nf.specs.Shorter.{shorter}
use Rattle.synth_3nf.specs.Tables.{synthesis}

-- a dependency of the columns that holds in the rows
pub record IsHeld (r : RowState) (fd : Fd) : Type 0 where
  pub left : fd.left < 2 ^ width r
  pub right : fd.right < width r
  pub holds : Holds r fd.left (Col fd.right)

abbrev pub AreHeld : RowState → List Fd → Type 0
AreHeld r fds = (fd : Fd) → Contains fds fd → IsHeld r fd

-- the projections to the tables' columns
abbrev pub projections : RowState → List Table → List TableRows
projections r tables = map (λ t. projection_table r t.columns) tables

-- The tables that the dependencies make have all columns together, and the natural join of their projections is the distinct rows.
pub record TablesJoin (r : RowState) (fds : List Fd) : Type 0 where
  pub columns : columns_of (projections r (synthesis (width r) fds)) ≡ all (width r)
  pub joined : IsNaturalJoin (width r) (projections r (synthesis (width r) fds)) (distinct_rows r)

-- The minimal dependencies of the rows hold, and so do those of them that have few columns on the left.
pub record CoversAreHeld (r : RowState) : Type 0 where
  pub all : AreHeld r (covers r).fds
  pub chosen : (most : ℕ) → AreHeld r (shorter most (covers r).fds)
