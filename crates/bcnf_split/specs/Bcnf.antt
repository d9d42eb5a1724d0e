-- Boyce-Codd normal form of a table: the columns S of a row state.
use Rattle.std.specs.Prelude.{◌≡◌, ◌<◌, ◌^◌, ℕ, Bool, true, false, not, ◌&&◌, Option}
use Rattle.std.specs.List.{find, list_any}
use Rattle.col_set.specs.declared.target.Target.TheVariants.{Col}
use Rattle.col_set.specs.ColSet.{Columns, IsSubset, has, subset, columns, all_sets}
use Rattle.rel_base.specs.RowState.{RowState, IsRowState, width}
use Rattle.rel_base.specs.Validity.{holds, Holds}
use Rattle.rel_base.specs.Covers.{CoverLists, covers}
use Rattle.fd_closure.specs.Determined.{determines_all, Determines}

-- Inside S, what determines some column outside itself determines all of S.
pub record IsBcnf (r : RowState) (s : Columns) : Type 0 where
  pub each : (x : Columns) (a : ℕ) → IsSubset x s → has s a ≡ true → has x a ≡ false → Holds r x (Col a) → Determines r x s

-- whether X lies inside S, and determines some column of S outside X and not all of S
unfoldable pub violates : RowState → Columns → Columns → Bool
violates r s x = subset x s && list_any (λ a. not (has x a) && holds r x (Col a)) (columns s) && not (determines_all r x s)

-- the same as a fact
pub record Violates (r : RowState) (s x : Columns) : Type 0 where
  pub inside : IsSubset x s
  pub column : ℕ
  pub own : has s column ≡ true
  pub outside : has x column ≡ false
  pub determined : Holds r x (Col column)
  pub short : Determines r x s → ⊥

-- the first column set in report order that violates it
unfoldable pub first_violation : RowState → Columns → Option Columns
first_violation r s = find (violates r s) (all_sets (width r))

-- s are columns of the row state whose covers these are
pub record IsTableOf (lists : CoverLists) (r : RowState) (s : Columns) : Type 0 where
  pub state : IsRowState r
  pub own : lists ≡ covers r
  pub below : s < 2 ^ width r
