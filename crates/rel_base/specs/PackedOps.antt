-- Operations that stand packed: what each is, the numbers of the rows that end, and the cells of the rows that come.
use Rattle.std.specs.Prelude.{◌≡◌, ◌<◌, ◌≤◌, ◌^◌, ℕ, List, [], ◌∷◌, length, map, take, drop, slice_index_or}
use Rattle.std.specs.List.{flat_map}
use Rattle.rel_base.specs.declared.batch.Op.{Op}
use Rattle.rel_base.specs.declared.batch.Op.TheVariants.{Insert, Delete, Update}
use Rattle.rel_base.specs.declared.batch.Step.{Step}
use Rattle.rel_base.specs.declared.batch.Step.TheVariants as step
use Rattle.rel_base.specs.declared.batch.Change.{Change}
use Rattle.rel_base.specs.declared.batch.Change.TheVariants as change
use Rattle.rel_base.specs.declared.batch.Cursor.{Cursor}
use Rattle.rel_base.specs.declared.batch.RowPlace.{RowPlace}
use Rattle.rel_base.specs.Cells.{Cell, Row}

-- the parts of an operation
abbrev pub step_of : Op → Step
step_of (Insert row) = step.Insert (length row)
step_of (Delete number) = step.Delete
step_of (Update number row) = step.Update (length row)

abbrev pub numbers_in : Op → List ℕ
numbers_in (Insert row) = []
numbers_in (Delete number) = number ∷ []
numbers_in (Update number row) = number ∷ []

abbrev pub cells_in : Op → List Cell
cells_in (Insert row) = row
cells_in (Delete number) = []
cells_in (Update number row) = row

-- the numbers and the cells of operations, one after another
unfoldable pub numbers_of : List Op → List ℕ
numbers_of ops = flat_map numbers_in ops

unfoldable pub cells_of : List Op → List Cell
cells_of ops = flat_map cells_in ops

-- how many numbers and cells an operation has
abbrev pub step_numbers : Step → ℕ
step_numbers (step.Insert width) = 0
step_numbers step.Delete = 1
step_numbers (step.Update width) = 1

abbrev pub step_cells : Step → ℕ
step_cells (step.Insert width) = width
step_cells step.Delete = 0
step_cells (step.Update width) = width

-- the operations back from their parts
unfoldable pub ops_of : List Step → List ℕ → List Cell → List Op
ops_of [] numbers cells = []
ops_of (step.Insert width ∷ steps) numbers cells = Insert (take width cells) ∷ ops_of steps numbers (drop width cells)
ops_of (step.Delete ∷ steps) numbers cells = Delete (slice_index_or numbers 0 0) ∷ ops_of steps (drop 1 numbers) cells
ops_of (step.Update width ∷ steps) numbers cells =
    Update (slice_index_or numbers 0 0) (take width cells) ∷ ops_of steps (drop 1 numbers) (drop width cells)

-- these are the parts of some operations
pub record ArePackedOps (steps : List Step) (numbers : List ℕ) (cells : List Cell) : Type 0 where
  pub ops : List Op
  pub steps_are : steps ≡ map step_of ops
  pub numbers_are : numbers ≡ numbers_of ops
  pub cells_are : cells ≡ cells_of ops
  pub few_cells : length cells < 2 ^ 64

-- how many operations stand before a place
abbrev pub place_of : Cursor → ℕ
place_of cursor = cursor.op

-- a place between these operations: before it stand the numbers and the cells of the operations before it
pub record IsCursor (ops : List Op) (cursor : Cursor) : Type 0 where
  pub within : cursor.op ≤ length ops
  pub number : cursor.number ≡ length (numbers_of (take cursor.op ops))
  pub cell : cursor.cell ≡ length (cells_of (take cursor.op ops))

-- the row at a place among the cells
abbrev pub row_at : List Cell → RowPlace → Row
row_at cells row = take row.width (drop row.first cells)

-- the operation whose row, if it has one, stands at a place among the cells
abbrev pub op_at : List Cell → Change → Op
op_at cells (change.Insert row) = Insert (row_at cells row)
op_at cells (change.Delete number) = Delete number
op_at cells (change.Update number row) = Update number (row_at cells row)
