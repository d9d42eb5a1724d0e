-- Columns with the cells of others behind their own.
use Rattle.std.specs.Prelude.{◌≡◌, ◌<◌, ◌++◌, ℕ, List, [], length, slice_index_or}
use Rattle.rel_base.specs.Cells.{Cell}

-- there are as many columns as before, and each has the cells of the one at its place behind its own
pub record AreJoined (columns others joined : List (List Cell)) : Type 0 where
  pub long : length joined ≡ length columns
  pub each : (j : ℕ) → j < length columns → slice_index_or joined j [] ≡ slice_index_or columns j [] ++ slice_index_or others j []
