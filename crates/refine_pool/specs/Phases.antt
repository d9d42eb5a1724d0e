-- What a phase comes to.
use Rattle.std.specs.Prelude.{◌≡◌, ℕ, List, [], ◌∷◌, take, length, Result, Ok, Err, None}
use Rattle.std.specs.List.{Contains}
use Rattle.rel_base.specs.declared.batch.Op.{Op}
use Rattle.rel_base.specs.declared.why.Why.{Why}
use Rattle.rel_base.specs.RowState.{RowState}
use Rattle.rel_base.specs.Batches.{after, kept_or_after, insert_count, delete_count}
use Rattle.negative_cover.specs.declared.negative_cover.Witness.{Witness}
use Rattle.row_log.specs.declared.applying.Applying.{Applying}
use Rattle.row_log.specs.declared.applying.Applying.TheVariants.{Applied, Refused}
use Rattle.cover_steps.specs.Core.{Core, first_unfinished}
use Rattle.cover_steps.specs.Sound.{Sound}
use Rattle.cover_steps.specs.Laws.{Stands}

-- what a batch is answered that leaves these rows, or that fails at this operation
abbrev pub answer : List Op → Result RowState (ℕ × Why) → Applying
answer ops (Ok rows) = Applied (insert_count ops) (delete_count ops)
answer ops (Err (at, why)) = Refused at why

-- what batches are answered, one after another: a refused one changes nothing
abbrev pub answers : RowState → List (List Op) → List Applying
answers r [] = []
answers r (ops ∷ more) = answer ops (after r ops) ∷ answers (kept_or_after r (after r ops)) more

-- the rows that they leave
abbrev pub rows_after_all : RowState → List (List Op) → RowState
rows_after_all r [] = r
rows_after_all r (ops ∷ more) = rows_after_all (kept_or_after r (after r ops)) more

-- From the rows r, these are the rows after the batches, each applied once and in order, and what each was answered.
pub record AreThoseOf (r : RowState) (batches : List (List Op)) (new : RowState) (told : List Applying) : Type 0 where
  pub rows : new ≡ rows_after_all r batches
  pub replies : told ≡ answers r batches

-- each witness of the one book whose two rows are live in the other is listed there
abbrev pub KeepsWitnesses : Core → Core → Type 0
KeepsWitnesses given book = (w : Witness) → Contains given.witnesses w → Stands book.rows w → Contains book.witnesses w

-- From the given book, these batches leave this one, and these replies.
pub record IsLeft (given : Core) (batches : List (List Op)) (book : Core) (told : List Applying) : Type 0 where
  pub sound : Sound book
  pub witnesses : KeepsWitnesses given book
  pub those : AreThoseOf given.rows batches book.rows told

-- as many of the batches as there are replies
abbrev pub IsSoFar : Core → List (List Op) → Core → List Applying → Type 0
IsSoFar given batches book told = IsLeft given (take (length told) batches) book told

-- all of them, and each candidate is known to hold in all rows
pub record IsWhole (given : Core) (batches : List (List Op)) (book : Core) (told : List Applying) : Type 0 where
  pub left : IsLeft given batches book told
  pub finished : first_unfinished book ≡ None
