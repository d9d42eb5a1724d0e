-- Marks of values.
use Rattle.std.specs.Prelude.{ℕ, ◌+◌, ◌-◌, ◌*◌, ◌/◌, ◌%◌, ◌^◌, drop, fold, length, min, take}
use Rattle.rel_base.specs.Cells.{Cell}

-- the last eight of these bytes as one number
abbrev pub number_of : Cell → ℕ
number_of bytes = fold (λ number byte. (number * 256 % 2 ^ 64 + byte) % 2 ^ 64) 0 bytes

-- the last eight bytes, or all where there are fewer
abbrev pub last_bytes : Cell → Cell
last_bytes bytes = drop (length bytes - 8) bytes

-- a number that the bytes determine: the first bits of their first eight and of the last eight of the others, mixed
unfoldable pub mark_of : Cell → ℕ
mark_of bytes =
    let place = min (length bytes) 8 in
    ((number_of (take place bytes) * 11400714819323198485 % 2 ^ 64 + number_of (last_bytes (drop place bytes))) % 2 ^ 64 * 11400714819323198485 % 2 ^ 64) / 70368744177664
