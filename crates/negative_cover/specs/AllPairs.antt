-- All pairs of live rows of a snapshot, compared by their codes.
use Rattle.std.specs.Prelude.{◌≡◌, ◌<◌, ◌≤◌, ℕ, true, List}
use Rattle.std.specs.List.{All}
use Rattle.col_set.specs.Lists.{Listed}
use Rattle.rel_base.specs.CodeTable.{CodeTable, live_at}
use Rattle.rel_base.specs.Shows.{code_agree}
use Rattle.negative_cover.specs.declared.negative_cover.Witness.{Witness}
use Rattle.negative_cover.specs.Witnesses.{sets_of}

-- two live rows of a snapshot, and what they agree on
pub record IsCodePair (s : CodeTable) (w : Witness) : Type 0 where
  pub positive : 0 < w.i
  pub rising : w.i < w.j
  pub first : live_at s w.i ≡ true
  pub second : live_at s w.j ≡ true
  pub agrees : w.agree ≡ code_agree s w.i w.j

-- The pairs are of live rows, and have what each live row from a number on and each live row before it agree on.
pub record AreAllPairs (s : CodeTable) (from : ℕ) (found : List Witness) : Type 0 where
  pub each : All (IsCodePair s) found
  pub told : (i j : ℕ) → 0 < i → i < j → from ≤ j → j < s.to → live_at s i ≡ true → live_at s j ≡ true → Listed (code_agree s i j) (sets_of found)
