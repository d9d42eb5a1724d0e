-- What a batch does to a row state (DynFD's batches, Schirmer and others, 2019, with updates as one operation).
use Rattle.std.specs.Prelude.{if◌then◌else◌, ◌≡◌, ℕ, length, ◌+◌, nat_lt, nat_eq, Bool, not, List, [], ◌∷◌, ◌++◌, Result, Ok, Err, true, false, count_by}
use Rattle.std.specs.List.{filter, list_any}
use Rattle.rel_base.specs.declared.batch.Op.{Op}
use Rattle.rel_base.specs.declared.batch.Op.TheVariants.{Insert, Delete, Update}
use Rattle.rel_base.specs.declared.why.Why.{Why}
use Rattle.rel_base.specs.declared.why.Why.TheVariants.{Rows, Missing}
use Rattle.rel_base.specs.Cells.{Row}
use Rattle.rel_base.specs.RowState.{RowState, next}

-- An operation's new row is as wide as there are columns.
abbrev pub IsAsWide : ℕ → Op → Type 0
IsAsWide n (Insert new) = length new ≡ n
IsAsWide n (Delete number) = Unit {0}
IsAsWide n (Update number new) = length new ≡ n

-- whether the row with this number is live
abbrev pub is_live : RowState → ℕ → Bool
is_live r number = list_any (nat_eq number) r.live

-- whether the next number is above the limit
abbrev pub is_full : RowState → Bool
is_full r = nat_lt r.limit (next r)

-- the row gets the next number, and is live
abbrev pub inserted : RowState → Row → RowState
inserted r row = record r { given = r.given ++ row ∷ []; live = r.live ++ next r ∷ [] }

-- the row with this number is no longer live
abbrev pub deleted : RowState → ℕ → RowState
deleted r number = record r { live = filter (λ i. not (nat_eq number i)) r.live }

-- one operation, or why it fails: a row that is not live is found before a number that is above the limit
abbrev pub applied : RowState → Op → Result RowState Why
applied r (Insert row) = if is_full r then Err Rows else Ok (inserted r row)
applied r (Delete number) = if is_live r number then Ok (deleted r number) else Err Missing
applied r (Update number row) =
    if is_live r number then (if is_full r then Err Rows else Ok (inserted (deleted r number) row)) else Err Missing

-- an operation's row state, which goes on, or its failure, which ends the batch at the operation with this number
abbrev pub go_on : Result RowState Why → ℕ → (RowState → Result RowState (ℕ × Why)) → Result RowState (ℕ × Why)
go_on (Ok s) k rest = rest s
go_on (Err why) k rest = Err (k, why)

-- the operations in order, of which the first has number k: the row state after them, or the first that fails and why
abbrev pub after_from : ℕ → RowState → List Op → Result RowState (ℕ × Why)
after_from k r [] = Ok r
after_from k r (op ∷ ops) = go_on (applied r op) k (λ s. after_from (k + 1) s ops)

-- a batch's operations count from 1
abbrev pub after : RowState → List Op → Result RowState (ℕ × Why)
after r ops = after_from 1 r ops

-- the row state that a batch leaves: a refused one changes nothing
abbrev pub kept_or_after : RowState → Result RowState (ℕ × Why) → RowState
kept_or_after r (Ok s) = s
kept_or_after r (Err e) = r

-- whether an operation brings a row, and whether it ends one: an update does both
abbrev pub is_insert : Op → Bool
is_insert (Insert row) = true
is_insert (Delete number) = false
is_insert (Update number row) = true

abbrev pub is_delete : Op → Bool
is_delete (Insert row) = false
is_delete (Delete number) = true
is_delete (Update number row) = true

-- how many operations of a batch bring a row, and how many end one
abbrev pub insert_count : List Op → ℕ
insert_count ops = count_by is_insert ops

abbrev pub delete_count : List Op → ℕ
delete_count ops = count_by is_delete ops
