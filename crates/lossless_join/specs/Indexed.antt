-- The rows of a table by their parts on some of its columns.
use Rattle.std.specs.Prelude.{◌≡◌, ℕ, List, map}
use Rattle.std.specs.List.{filter}
use Rattle.col_set.specs.ColSet.{Columns, upto}
use Rattle.rel_base.specs.Cells.{Row}
use Rattle.rel_base.specs.Projection.{same_row, distinct}
use Rattle.lossless_join.specs.NaturalJoin.{TableRows}
use Rattle.lossless_join.specs.Joining.{part_within, row_at}

-- the part on the columns c of the table's row at a place
abbrev pub key_of : TableRows → Columns → ℕ → Row
key_of t c k = part_within t.columns c (row_at t k)

-- of the places below m, those whose row has this part
abbrev pub places_below : TableRows → Columns → ℕ → Row → List ℕ
places_below t c m q = filter (λ k. same_row (key_of t c k) q) (upto m)

-- of the table's first m rows, the different parts, and for each the places of the rows that have it
pub record IsIndex (t : TableRows) (c : Columns) (m : ℕ) (keys : List Row) (groups : List (List ℕ)) : Type 0 where
  pub parts : keys ≡ distinct (map (key_of t c) (upto m))
  pub places : groups ≡ map (places_below t c m) keys
