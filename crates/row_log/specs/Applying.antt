-- What a row log answers to an operation and to a batch.
use Rattle.std.specs.Prelude.{◌≡◌, ◌<◌, ℕ, true, List, Result, Ok, Err}
use Rattle.std.specs.List.{All}
use Rattle.std.specs.List.Sorted.{IsStrictlyIncreasing}
use Rattle.rel_base.specs.declared.batch.Op.{Op}
use Rattle.rel_base.specs.declared.why.Why.{Why}
use Rattle.rel_base.specs.Cells.{Row}
use Rattle.rel_base.specs.RowState.{RowState, IsRowState, next}
use Rattle.rel_base.specs.Batches.{is_live, inserted, deleted, applied, after, insert_count, delete_count}
use Rattle.row_log.specs.declared.applying.Applying.{Applying}
use Rattle.row_log.specs.declared.applying.Applying.TheVariants.{Applied, Refused, NoMemory}
use Rattle.row_log.specs.declared.applying.Halt.{Halt}
use Rattle.row_log.specs.declared.applying.Halt.TheVariants.{Failed, Starved}

-- The batch leads from r to s, and so many operations of it bring a row and end one.
pub record Leads (r : RowState) (ops : List Op) (s : RowState) (more fewer : ℕ) : Type 0 where
  pub after : after r ops ≡ Ok s
  pub inserted : more ≡ insert_count ops
  pub deleted : fewer ≡ delete_count ops

-- The batch fails at this operation, and nothing changes.
pub record Fails (r : RowState) (ops : List Op) (s : RowState) (at : ℕ) (why : Why) : Type 0 where
  pub after : after r ops ≡ Err (at, why)
  pub same : s ≡ r

-- what an answer to a batch says of the row states before and after it
abbrev pub Answers : RowState → List Op → RowState → Applying → Type 0
Answers r ops s (Applied more fewer) = Leads r ops s more fewer
Answers r ops s (Refused at why) = Fails r ops s at why
Answers r ops s NoMemory = s ≡ r

-- what an answer to one operation says, whose outcome is given
abbrev pub Outcome : RowState → Result RowState Why → RowState → Result (Unit {0}) Halt → Type 0
Outcome r outcome s (Ok u) = outcome ≡ Ok s
Outcome r outcome s (Err (Failed why)) = (outcome ≡ Err why) × (s ≡ r)
Outcome r outcome s (Err Starved) = s ≡ r

-- r is a row state that the batch leads from to s
pub record IsBefore (ops : List Op) (s r : RowState) : Type 0 where
  pub is : IsRowState r
  pub after : after r ops ≡ Ok s

-- The live numbers of r ascend and were given: what an operation keeps, whatever its rows.
pub record IsNumbered (r : RowState) : Type 0 where
  pub ascending : IsStrictlyIncreasing r.live
  pub positive : All (λ number. 0 < number) r.live
  pub numbered : All (λ number. number < next r) r.live

-- the operations lead from r to s
pub record LeadsFrom (ops : List Op) (s r : RowState) : Type 0 where
  pub is : IsNumbered r
  pub after : after r ops ≡ Ok s

-- the operation leads from r to s
pub record IsFrom (op : Op) (s r : RowState) : Type 0 where
  pub is : IsNumbered r
  pub applied : applied r op ≡ Ok s

-- s is r and then one row more
pub record CameLast (s r : RowState) : Type 0 where
  pub row : Row
  pub came : inserted r row ≡ s

-- s is r without a row that is live in r
pub record IsEnded (r : RowState) (number : ℕ) (s : RowState) : Type 0 where
  pub is : IsNumbered r
  pub live : is_live r number ≡ true
  pub ended : deleted r number ≡ s
