-- What a stripped partition has to do with dependencies, and which rows it has.
use Rattle.std.specs.Prelude.{◌≡◌, ◌<◌, ◌≤◌, ◌↔◌, ℕ, Bool, true, [], length, None}
use Rattle.std.specs.List.{All, AllPairs, Contains, concat, count_by}
use Rattle.std.specs.List.Sorted.{IsStrictlyIncreasing}
use Rattle.col_set.specs.declared.target.Target.TheVariants.{Col, RowId}
use Rattle.col_set.specs.ColSet.{Columns, with}
use Rattle.rel_base.specs.CodeTable.{CodeTable}
use Rattle.rel_base.specs.RowState.{RowState, IsRowState}
use Rattle.rel_base.specs.Validity.{holds}
use Rattle.rel_base.specs.Shows.{Shows, live_numbers, holds_in}
use Rattle.stripped_partition.specs.Stripped.{stripped, error_of}
use Rattle.stripped_partition.specs.SplitBy.{least, split_by}

-- In a row state that a snapshot shows, X determines a column exactly where adding the column to X leaves e as it is.
abbrev pub ErrorsTell : Type 0
ErrorsTell = (s : CodeTable) (r : RowState) → IsRowState r → Shows s r → (x : Columns) (a : ℕ)
    → (holds r x (Col a) ≡ true) ↔ (error_of (stripped s x) ≡ error_of (stripped s (with x a)))

-- X is unique exactly where its stripped partition has no group.
abbrev pub NoGroupsTell : Type 0
NoGroupsTell = (s : CodeTable) (x : Columns) → (holds_in s x RowId ≡ true) ↔ (stripped s x ≡ [])

-- A column splits no group of the partition by X exactly where X determines it.
abbrev pub SplitsTell : Type 0
SplitsTell = (s : CodeTable) (x : Columns) (a : ℕ) → a < length s.codes → (split_by s a (stripped s x) ≡ None) ↔ (holds_in s x (Col a) ≡ true)

-- The groups have two rows or more, ascending, and stand by their least rows. Their rows are live and each stands once, so no test passes more
-- of them than of the live rows.
pub record RowsStandOnce (s : CodeTable) (x : Columns) : Type 0 where
  pub two : All (λ group. 2 ≤ length group) (stripped s x)
  pub ascending : All IsStrictlyIncreasing (stripped s x)
  pub in_order : AllPairs (λ g h. least g < least h) (stripped s x)
  pub live : (i : ℕ) → Contains (concat (stripped s x)) i → Contains (live_numbers s) i
  pub once : (p : ℕ → Bool) → count_by p (concat (stripped s x)) ≤ count_by p (live_numbers s)
