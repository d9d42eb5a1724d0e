-- Cells by their codes, some of which are marked.
use Rattle.std.specs.Prelude.{Bool, List}
use Rattle.column_dict.specs.Coding.{Coding}

-- The mark of code k stands at place k.
pub record Marked : Type 0 where
  pub coding : Coding
  pub used : List Bool
