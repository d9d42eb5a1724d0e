-- Left sides that hold in the rows before the new ones.
use Rattle.std.specs.Prelude.{◌≡◌, ◌≤◌, ◌⊎◌, ℕ, List}
use Rattle.std.specs.List.{All}
use Rattle.col_set.specs.ColSet.{Columns, IsSubset}
use Rattle.col_set.specs.Target.{IsColumnTarget}
use Rattle.col_set.specs.Lists.{Listed}
use Rattle.rel_base.specs.RowState.{RowState, width as width_of}
use Rattle.candidate_cover.specs.declared.cand.Cand.{Cand}
use Rattle.candidate_cover.specs.Lists.{CandLists}
use Rattle.candidate_cover.specs.Cands.{width, cands_of}
use Rattle.rel_base.specs.Validity.{HoldsBelow}
use Rattle.cover_core.specs.declared.known_lefts.KnownLefts.{KnownLefts}
use Rattle.cover_core.specs.declared.waiting.Waiting.{Waiting}
use Rattle.cover_core.specs.Waiting.{IsWaiting}

-- the left side of one of these candidates that is known to hold below a number
pub record IsKnownLeft (cs : List Cand) (from : ℕ) (x : Columns) : Type 0 where
  pub cand : Cand
  pub listed : Listed cand cs
  pub left : cand.left ≡ x
  pub upto : from ≤ cand.upto

-- they are such of their target's candidates
pub record AreKnownLefts (c : CandLists) (from : ℕ) (known : KnownLefts) : Type 0 where
  pub target : IsColumnTarget (width c) known.target
  pub each : All (IsKnownLeft (cands_of c known.target) from) known.lefts.items

-- each of them determines its target in the rows below a number
pub record AreTrueLefts (r : RowState) (from : ℕ) (known : KnownLefts) : Type 0 where
  pub target : IsColumnTarget (width_of r) known.target
  pub each : All (λ x. HoldsBelow from r x known.target) known.lefts.items

-- the target's, and one of them lies inside the candidate's
pub record IsInside (w : Waiting) (known : KnownLefts) : Type 0 where
  pub target : known.target ≡ w.target
  pub left : Columns
  pub listed : Listed left known.lefts.items
  pub inside : IsSubset left w.cand.left

-- A candidate that is known to hold below a number, by its mark or by one of some left sides.
pub record IsKnownBy (c : CandLists) (from : ℕ) (known : KnownLefts) (w : Waiting) : Type 0 where
  pub waits : IsWaiting c w
  pub below : (from ≤ w.cand.upto) ⊎ IsInside w known
