-- Keys of rows.
use Rattle.std.specs.Prelude.{◌≡◌, ◌≢◌, ◌<◌, ◌≤◌, ◌+◌, ◌*◌, ◌↔◌, ℕ, List, Some, length, slice_get, slice_index}
use Rattle.std.specs.List.{All}
use Rattle.std.specs.List.Sorted.{IsStrictlyIncreasing}
use Rattle.col_set.specs.Listing.{Listed}
use Rattle.rel_base.specs.RowState.{RowState}
use Rattle.nary_ind.specs.declared.found.Side.{Side}
use Rattle.nary_ind.specs.declared.key_lists.Entry.{Entry}
use Rattle.nary_ind.specs.declared.key_lists.KeyLists.{KeyLists}
use Rattle.nary_ind.specs.Tables.{AreTables, Coded, IsNumbered, key_in, table_at}

-- columns that keys are made of
pub record AreKeyed (t : Coded) (cs : List ℕ) : Type 0 where
  pub short : length cs ≤ 4
  pub numbered : (c : ℕ) → Listed c cs → IsNumbered t c

-- four numbers of 32 bits as one number
abbrev pub packed : List ℕ → ℕ
packed ns = ((slice_index ns 0 * 4294967296 + slice_index ns 1) * 4294967296 + slice_index ns 2) * 4294967296 + slice_index ns 3

-- the key of a row in these columns
abbrev pub code_in : Coded → List ℕ → ℕ → ℕ
code_in t cs i = packed (key_in t cs i)

-- a row below the n-th has this key
abbrev pub IsKeyBelow : ℕ → Coded → List ℕ → ℕ → Type 0
IsKeyBelow n t cs key = (i : ℕ) × (i < n) × (code_in t cs i ≡ key)

-- some row has this key
abbrev pub IsKeyOf : Coded → List ℕ → ℕ → Type 0
IsKeyOf t cs key = IsKeyBelow t.rows t cs key

-- these are the keys of a side's rows that are not NULL throughout: that of NULLs is 0
abbrev pub AreKeysIn : Coded → List ℕ → List ℕ → Type 0
AreKeysIn t cs keys = (key : ℕ) → Listed key keys ↔ (IsKeyOf t cs key × (key ≢ 0))

-- a kept list has the keys of its side, ascending
pub record IsEntry (ts : List Coded) (e : Entry) : Type 0 where
  pub rises : IsStrictlyIncreasing e.keys.items
  pub each : AreKeysIn (table_at ts e.side.rel) e.side.columns e.keys.items

-- each kept list has
abbrev pub AreEntries : KeyLists → Type 0
AreEntries l = All (IsEntry l.tables.items) l.entries.items

-- the entry at a place is of this side
abbrev pub IsEntryOf : KeyLists → ℕ → Side → Type 0
IsEntryOf l place side = (e : Entry) × (slice_get l.entries.items place ≡ Some e) × (e.side ≡ side)

-- tables of the relations, and keys of their sides
abbrev pub AreLists : List RowState → KeyLists → Type 0
AreLists rs l = AreTables rs l.tables.items × AreEntries l
