-- The rows that a batch ends.
use Rattle.std.specs.Prelude.{ℕ, List, [], ◌∷◌, Option, Some, None}
use Rattle.rel_base.specs.declared.batch.Op.{Op}
use Rattle.rel_base.specs.declared.batch.Op.TheVariants.{Insert, Delete, Update}

-- the row that an operation ends
abbrev pub ended_row : Op → Option ℕ
ended_row (Insert row) = None
ended_row (Delete number) = Some number
ended_row (Update number row) = Some number

-- the numbers that are deleted or updated, in order
abbrev pub ended : List Op → List ℕ
ended [] = []
ended (Insert row ∷ ops) = ended ops
ended (Delete number ∷ ops) = number ∷ ended ops
ended (Update number row ∷ ops) = number ∷ ended ops
