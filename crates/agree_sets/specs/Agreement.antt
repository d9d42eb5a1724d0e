-- The agreement of two rows of codes.
use Rattle.std.specs.Prelude.{ℕ, List, ◌==◌, length, slice_index}
use Rattle.std.specs.List.{filter}
use Rattle.std.specs.Simd.Lanes.{zip2, mask_l}
use Rattle.col_set.specs.ColSet.{Columns, set_of, upto}

-- the agree set of two rows of codes: the places at which they have the same code
unfoldable pub agree_set : List ℕ → List ℕ → Columns
agree_set a b = set_of (filter (λ k. slice_index a k == slice_index b k) (upto (length a)))

-- the number whose bit k says whether the rows have the same code at place k
abbrev pub agreement_bits : List ℕ → List ℕ → ℕ
agreement_bits a b = mask_l (zip2 (λ x y. x == y) a b)
