-- The laws of the definitions, which functions with an empty body ensure.
use Rattle.std.specs.Prelude.{◌+◌, ◌-◌, ◌<◌, ◌≤◌, ◌≡◌, ◌↔◌, ℕ, List, [], ◌∷◌, length, Option, Some, None, slice_index_or}
use Rattle.std.specs.List.{All}
use Rattle.rel_base.specs.declared.limits.Limits.{Limits}
use Rattle.rel_base.specs.declared.why.Why.{Why}
use Rattle.rel_base.specs.Cells.{Row}
use Rattle.rel_base.specs.Relation.{Content}
use Rattle.csv_load.specs.Records.{records_of}
use Rattle.csv_load.specs.Refusal.{IsWithin, refusal, refused_records}

-- Each record of a file has a cell.
abbrev pub RecordsHaveCells : Type 0
RecordsHaveCells = (bytes : List ℕ) → All (λ row. 0 < length row) (records_of bytes)

-- Records are accepted exactly where they have a header, and the header and the rows are within the limits.
abbrev pub AcceptsWithin : Type 0
AcceptsWithin = (limits : Limits) (c : Content) → (refused_records limits (c.names ∷ c.rows) ≡ None) ↔ IsWithin limits c

-- The record `rec` is refused for this cause, and none before it is, where the first one has the number n.
pub record IsFirstRefused (rule : ℕ → Row → Option Why) (n : ℕ) (records : List Row) (rec : ℕ) (why : Why) : Type 0 where
  pub from : n ≤ rec
  pub upto : rec < n + length records
  pub refused : rule rec (slice_index_or records (rec - n) []) ≡ Some why
  pub earlier : (k : ℕ) → n ≤ k → k < rec → rule k (slice_index_or records (k - n) []) ≡ None

-- Records with a header are refused at the first record that is refused.
abbrev pub RefusedAtTheFirst : Type 0
RefusedAtTheFirst = (limits : Limits) (header : Row) (rows : List Row) (rec : ℕ) (why : Why)
    → refused_records limits (header ∷ rows) ≡ Some (rec, why) → IsFirstRefused (refusal limits (length header)) 1 (header ∷ rows) rec why
