-- The answer to a batch of which an operation was not applied.
use Rattle.std.specs.Prelude.{ℕ, ◌+◌}
use Rattle.row_log.specs.declared.applying.Applying.{Applying}
use Rattle.row_log.specs.declared.applying.Applying.TheVariants.{Refused, NoMemory}
use Rattle.row_log.specs.declared.applying.Halt.{Halt}
use Rattle.row_log.specs.declared.applying.Halt.TheVariants.{Failed, Starved}

-- the operation at this place, counted from 0, was not applied
abbrev pub answer_at : Halt → ℕ → Applying
answer_at (Failed why) place = Refused (place + 1) why
answer_at Starved place = NoMemory
