-- What the files of `normalize` are to the rows: a lossless split to Boyce-Codd normal form.
use Rattle.std.specs.Prelude.{◌≡◌, ℕ, List, map}
use Rattle.std.specs.List.{All}
use Rattle.col_set.specs.ColSet.{Columns}
use Rattle.rel_base.specs.Projection.{distinct_rows, part, projection}
use Rattle.rel_base.specs.RowState.{RowState, width}
use Rattle.bcnf_split.specs.Bcnf.{IsBcnf}
use Rattle.lossless_join.specs.Lossless.{projection_table}
use Rattle.lossless_join.specs.NaturalJoin.{IsNaturalJoin}
use Rattle.ports.specs.Lists.{File}
use Rattle.report_text.specs.Tables.{table_file_text}

-- the text of the projection to some columns: their names, and then its rows
abbrev pub projection_text : RowState → Columns → List ℕ
projection_text r s = table_file_text (part s r.names) (projection r s)

-- The files hold the projections to some column sets, of which each is in normal form for the dependencies of the rows, and the natural join of
-- these projections is the distinct rows.
pub record AreLosslessTables (r : RowState) (files : List File) : Type 0 where
  pub sets : List Columns
  pub texts : map (λ file. file.1) files ≡ map (projection_text r) sets
  pub normal : All (IsBcnf r) sets
  pub joined : IsNaturalJoin (width r) (map (projection_table r) sets) (distinct_rows r)
