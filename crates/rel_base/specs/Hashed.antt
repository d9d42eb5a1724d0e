-- What a hash of a row takes, and that equal rows hash alike, which the `impl` of `Hash` cites.
use Rattle.std.specs.Prelude.{[], ◌∷◌, ◌++◌, length}
use Rattle.std.specs.List.{flat_map}
use Rattle.std.specs.Hash.{HashWrites, usize, Alike, same_Alike}
use Rattle.rel_base.specs.Cells.{Cell}
use Rattle.rel_base.specs.Projection.{same_row}
use lib.Pointwise.{pointwise_decides, bytes_decides}

-- of each cell its length, then its bytes
abbrev pub cell_writes : Cell → HashWrites
cell_writes c = usize (length c) ++ c ∷ []

pub rows_alike : Alike same_row (flat_map cell_writes)
rows_alike = same_Alike (flat_map cell_writes) (pointwise_decides bytes_decides)
