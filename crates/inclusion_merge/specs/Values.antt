-- The values of a column: its distinct cells that are not NULL and that are picked, in an order of their own.
use Rattle.std.specs.Prelude.{◌≡◌, ◌≢◌, ◌↔◌, ℕ, ◌+◌, ◌*◌, ◌%◌, ◌^◌, ◌==◌, ◌&&◌, Bool, true, not, List, [], ◌<◌, fold, length, slice_index, take}
use Rattle.std.specs.declared.cmp.Ordering.{Ordering}
use Rattle.std.specs.Ordering.{nat_cmp, on, then_cmp}
use Rattle.std.specs.Cmp.Lexicographic.{slice_cmp}
use Rattle.col_set.specs.Lists.{Listed, Rises}
use Rattle.rel_base.specs.Cells.{Cell}

-- the next byte behind those that a number says
abbrev pub with_byte : ℕ → ℕ → ℕ
with_byte prefix byte = (prefix * 256 % 2 ^ 128 + byte) % 2 ^ 128

-- the first bytes of a cell as one number
abbrev pub prefix_of : Cell → ℕ
prefix_of cell = fold with_byte 0 (take 16 cell)

-- a cell beside its first bytes as one number
pub record IsPrefixed (prefix : ℕ) (cell : Cell) : Type 0 where
  pub prefix_is : prefix ≡ prefix_of cell
  pub bytes : (place : ℕ) → slice_index cell place < 256

-- the order of values: by the first bytes, then by length, then byte by byte
abbrev pub value_cmp : Cell → Cell → Ordering
value_cmp = then_cmp (on prefix_of nat_cmp) (then_cmp (on length nat_cmp) (slice_cmp nat_cmp))

-- whether a cell is not NULL
abbrev pub is_filled : Cell → Bool
is_filled cell = not (length cell == 0)

-- whether a cell is picked and not NULL
abbrev pub is_chosen : (Cell → Bool) → Cell → Bool
is_chosen picked cell = is_filled cell && picked cell

-- the values of a column that are picked, in order
pub record IsValuesOf (picked : Cell → Bool) (cells values : List Cell) : Type 0 where
  pub rises : Rises value_cmp values
  pub each : (a : Cell) → Listed a values ↔ (Listed a cells × (a ≢ []) × (picked a ≡ true))
