-- What the scripts of the tests go by.
use Rattle.std.specs.Prelude.{◌≡◌, ℕ, List}
use Rattle.std.specs.List.{All}
use Rattle.rel_base.specs.JobParts.{JobParts}
use Rattle.rel_base.specs.RowState.{width}
use Rattle.desk_lock.specs.Passes.{view}
use Rattle.desk.specs.declared.desk.Desk.{Desk}
use Rattle.desk.specs.Desks.{Place, opened_book, IsAt, WasDrawn}

-- a desk of two columns, the place of its feeder, who owns the numbers below `bound`, that of a worker, and jobs that the worker
-- knows of
pub record AreReady (desk : Desk) (first second : Place) (bound : ℕ) (jobs : List JobParts) : Type 0 where
  pub feeder : IsAt desk first
  pub worker : IsAt desk second
  pub left : (view first).high ≡ bound
  pub wide : width (opened_book desk).rows ≡ 2
  pub drawn : All (WasDrawn desk second) jobs
