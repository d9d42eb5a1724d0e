-- What a command does.
use Rattle.std.specs.Prelude.{◌≤◌, ℕ, Bool, List, [], ◌∷◌, slice_index_or}
use Rattle.rel_base.specs.declared.limits.Limits.{Limits}
use Rattle.rel_base.specs.Cells.{Row}
use Rattle.rel_base.specs.Relation.{Content}
use Rattle.task_base.specs.Reading.{Reading}
use Rattle.task_base.specs.Written.{Written}

-- What a command has read, by which it writes: its relations in their order, the bytes of its texts in theirs, and the bytes of the input, which
-- are none where it isn't read.
pub record Sources : Type 0 where
  pub relations : List Content
  pub texts : List (List ℕ)
  pub input : List ℕ

-- What a command does: how many workers it asks for, which files it reads, in this order and how, whether it reads the input behind them, whether it
-- writes files besides its text, and what it may write under these limits by what it has read. Of most commands that is one thing alone; a command
-- whose file may be any text that meets a definition may write each of these.
pub record Task : Type 1 where
  pub workers : ℕ
  pub reads : List Reading
  pub reads_input : Bool
  pub writes_files : Bool
  pub writes : Limits → Sources → Written → Type 0

-- there is a worker, and there are no more than 16
pub record AreWorkers (workers : ℕ) : Type 0 where
  pub some : 1 ≤ workers
  pub few : workers ≤ 16

abbrev pub HasWorkers : Task → Type 0
HasWorkers task = AreWorkers task.workers

-- the first record has the names, and the others are the rows
abbrev pub content_of : List Row → Content
content_of [] = record { names = []; rows = [] }
content_of (names ∷ rows) = record { names = names; rows = rows }

-- the first of some relations
abbrev pub first_of : List Content → Content
first_of relations = slice_index_or relations 0 (content_of [])
