-- What is kept of relations to find the inclusions among their columns.
use Rattle.std.specs.Prelude.{◌≡◌, ◌≢◌, ◌↔◌, ℕ, List, [], map}
use Rattle.std.specs.List.{AllZip, Contains}
use Rattle.rel_base.specs.Cells.{Cell}
use Rattle.rel_base.specs.RowState.{RowState, width}
use Rattle.rel_base.specs.Inclusion.{all_columns}

-- Two columns have the same cells, NULL aside.
pub record SameFilled (xs ys : List Cell) : Type 0 where
  pub each : (c : Cell) → c ≢ [] → Contains xs c ↔ Contains ys c

-- The widths of row states, and their columns up to order, repetition and NULL.
pub record AreColumnsOf (states : List RowState) (widths : List ℕ) (columns : List (List Cell)) : Type 0 where
  pub widths_are : widths ≡ map width states
  pub each : AllZip SameFilled (all_columns states) columns
