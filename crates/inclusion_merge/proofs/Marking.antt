-- Marks are below their number.
use Rattle.std.proofs.Common.{◌<◌, ◌%◌, ◌^◌, ◌/◌, ℕ, arith}
use Rattle.rel_base.specs.Cells.{Cell}
use Rattle.inclusion_merge.specs.Mark.{mark_of}

first_bits : (n : ℕ) → n % 2 ^ 64 / 70368744177664 < 262144
first_bits n = omega arith

pub mark_of-below : (a : Cell) → mark_of a < 262144
unfolding mark_of
mark_of-below a = first_bits _
