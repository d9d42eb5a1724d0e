-- What two rows agree on in columns that follow one another, as bits.
use Rattle.std.specs.Prelude.{ℕ, ◌-◌, List, map, slice_index}
use Rattle.std.specs.Simd.Lanes.{chunk}
use Rattle.agree_sets.specs.Agreement.{agreement_bits}
use Rattle.rel_base.specs.CodeTable.{CodeTable}

-- a row's code in each column
abbrev pub codes_of : CodeTable → ℕ → List ℕ
codes_of s number = map (λ codes. slice_index codes (number - 1)) s.codes

-- the number whose bit k says whether two rows have the same code in column `from + k`, for so many columns
abbrev pub agree_bits : CodeTable → ℕ → ℕ → ℕ → ℕ → ℕ
agree_bits s i j from count = agreement_bits (chunk from count (codes_of s i)) (chunk from count (codes_of s j))
