-- The records of a file.
use Rattle.std.specs.Prelude.{ℕ, List, [], ◌∷◌, if◌then◌else◌}
use Rattle.csv.specs.Reading.{default_config, is_bom, records}
use Rattle.rel_base.specs.Cells.{Row}

-- the bytes after all UTF-8 byte order marks at their start
unfoldable pub without_marks : List ℕ → List ℕ
without_marks [] = []
without_marks (a ∷ []) = a ∷ []
without_marks (a ∷ b ∷ []) = a ∷ b ∷ []
without_marks (a ∷ b ∷ c ∷ rest) = if is_bom a b c then without_marks rest else a ∷ b ∷ c ∷ rest

-- the records of a file: those that the crate `csv` reads from the bytes after the marks
unfoldable pub records_of : List ℕ → List Row
records_of bytes = records default_config (without_marks bytes)
