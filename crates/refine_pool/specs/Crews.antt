-- What is known of the passes at the desk, and of what they have seen.
use Rattle.std.specs.Prelude.{◌≡◌, ◌<◌, ◌≤◌, ℕ, List, ◌∷◌, ◌++◌}
use Rattle.rel_base.specs.declared.batch.Op.{Op}
use Rattle.row_log.specs.declared.applying.Applying.{Applying}
use Rattle.cover_steps.specs.declared.step.Call.{Call}
use Rattle.cover_steps.specs.Histories.{rows_after}
use Rattle.cover_core.specs.declared.answers.Draw.TheVariants as draws
use Rattle.desk_lock.specs.declared.history.Entry.{Entry}
use Rattle.desk_lock.specs.History.{Begins, GoesOn, NoneIn}
use Rattle.desk_lock.specs.Views.{InHome, seeing}
use Rattle.desk_lock.specs.Passes.{view}
use Rattle.desk.specs.declared.turns.Reply.{Reply}
use Rattle.desk.specs.declared.turns.Reply.TheVariants.{Drawn}
use Rattle.desk.specs.declared.desk.Desk.{Desk}
use Rattle.desk.specs.Turns.{turns_of}
use Rattle.desk.specs.Desks.{Place, History, opened_book, seen}
use Rattle.refine_pool.specs.declared.crew.Ending.{Ending}
use Rattle.refine_pool.specs.declared.crew.Ending.TheVariants.{Done, NoMemory}
use Rattle.refine_pool.specs.declared.crew.Posts.{Posts}
use Rattle.refine_pool.specs.Phases.{answers, rows_after_all}

-- a fact of who did all that was to be done
abbrev pub OnDone : Ending → Type 0 → Type 0
OnDone Done P = P
OnDone NoMemory P = Unit {0}

-- the pass made calls: it has the numbers that it had, and has seen more
abbrev pub WentOn : Place → Place → Type 0
WentOn before after = (more : History) × (view after ≡ seeing more (view before))

-- the one pass has all numbers that the other had, and has seen all that the other has
pub record TakesOver (before after : Place) : Type 0 where
  pub home : (n : ℕ) → InHome (view before) n → InHome (view after) n
  pub begins : Begins (seen before) (seen after)

-- the pass owns the numbers from low to below high
pub record Owns (place : Place) (low high : ℕ) : Type 0 where
  pub low_is : (view place).low ≡ low
  pub high_is : (view place).high ≡ high
  pub some : low < high

-- a worker for each of these posts may be hired by this pass
pub record IsPosted (place : Place) (posts : Posts) : Type 0 where
  pub owns : Owns place posts.low posts.high
  pub first : posts.first ≤ posts.low

-- a draw answered that all is settled
abbrev pub IsSettled : Entry Call Reply → Type 0
IsSettled e = e.reply ≡ Drawn draws.Settled

-- one did so behind what was seen before
pub record SettledAfter (past history : History) : Type 0 where
  pub between : History
  pub entry : Entry Call Reply
  pub later : History
  pub parts : history ≡ (past ++ between) ++ entry ∷ later
  pub settled : IsSettled entry

-- one did so, and the feeder made no call since
pub record SettledLast (history : History) : Type 0 where
  pub past : History
  pub entry : Entry Call Reply
  pub later : History
  pub parts : history ≡ past ++ entry ∷ later
  pub settled : IsSettled entry
  pub quiet : NoneIn (λ n. n ≡ 0) later

-- When the feeder last called, these batches had been applied or refused, with these replies.
pub record IsFed (desk : Desk) (place : Place) (batches : List (List Op)) (told : List Applying) : Type 0 where
  pub upto : History
  pub rows : rows_after (opened_book desk).rows (turns_of upto) ≡ rows_after_all (opened_book desk).rows batches
  pub replies : told ≡ answers (opened_book desk).rows batches
  pub since : GoesOn (λ n. n ≡ 0) upto (seen place)
