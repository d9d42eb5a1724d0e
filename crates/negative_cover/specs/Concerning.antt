-- The targets that a further agree set concerns.
use Rattle.std.specs.Prelude.{◌≡◌, ◌<◌, ℕ, Bool, true, false, not, ◌&&◌, List}
use Rattle.col_set.specs.declared.target.Target.{Target}
use Rattle.col_set.specs.declared.target.Target.TheVariants.{Col, RowId}
use Rattle.col_set.specs.ColSet.{Columns, has}
use Rattle.col_set.specs.Target.{IsColumnTarget, has_target}
use Rattle.col_set.specs.Evidence.{refuted}
use Rattle.negative_cover.specs.declared.concerned.Concerned.{Concerned}

-- whether the target is one of these
abbrev pub concerns : Concerned → Target → Bool
concerns c RowId = c.row_id
concerns c (Col a) = has c.columns a

-- whether z lacks the target, and none of these agree sets that lacks it contains z
abbrev pub is_open : List Columns → Columns → Target → Bool
is_open ws z t = not (has_target z t) && not (refuted ws t z)

-- These are the targets of n columns of which a further agree set z refutes what these agree sets leave.
pub record AreConcerned (n : ℕ) (ws : List Columns) (z : Columns) (c : Concerned) : Type 0 where
  pub each : (t : Target) → IsColumnTarget n t → concerns c t ≡ is_open ws z t
  pub within : (a : ℕ) → has c.columns a ≡ true → a < n

-- there are none
abbrev pub ConcernsNone : Concerned → Type 0
ConcernsNone c = (t : Target) → concerns c t ≡ false
