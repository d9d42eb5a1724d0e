-- Pairs of rows, one for each agree set that was found.
use Rattle.std.specs.Prelude.{◌≡◌, ◌<◌, ◌≤◌, ◌⊎◌, ◌++◌, ◌∷◌, [], ℕ, true, List}
use Rattle.std.specs.List.{All}
use Rattle.col_set.specs.ColSet.{Columns}
use Rattle.col_set.specs.Lists.{Listed}
use Rattle.rel_base.specs.CodeTable.{CodeTable, live_at}
use Rattle.rel_base.specs.Shows.{code_agree}
use Rattle.negative_cover.specs.declared.negative_cover.Witness.{Witness}
use Rattle.negative_cover.specs.declared.found_pairs.FoundPairs.{FoundPairs}
use Rattle.negative_cover.specs.AllPairs.{IsCodePair}
use Rattle.negative_cover.specs.Witnesses.{sets_of}

-- each of these agree sets is of one of the pairs
pub record AreSetsSeen (sets : List Columns) (pairs : List Witness) : Type 0 where
  pub each : (z : Columns) → Listed z sets → Listed z (sets_of pairs)

-- each agree set that is taken for seen is of one of the pairs
pub record AreSeen (found : FoundPairs) : Type 0 where
  pub sets : AreSetsSeen found.seen.keys found.pairs.items
  pub recent : All (λ z. Listed z (sets_of found.pairs.items)) found.recent.items

-- At most the pair is new, and its agree set is of one that is there.
pub record HasAdded (pair : Witness) (old new : List Witness) : Type 0 where
  pub grown : (new ≡ old) ⊎ (new ≡ old ++ pair ∷ [])
  pub told : Listed pair.agree (sets_of new)

-- What is new is of pairs of live rows, and each live row from one number on and below another was compared with each of these after it.
pub record HasCompared (s : CodeTable) (first end : ℕ) (seconds : List ℕ) (old new : List Witness) : Type 0 where
  pub kept : (z : Columns) → Listed z (sets_of old) → Listed z (sets_of new)
  pub each : All (IsCodePair s) old → All (IsCodePair s) new
  pub told : (i j : ℕ) → first ≤ i → i < end → live_at s i ≡ true → Listed j seconds → i < j → Listed (code_agree s i j) (sets_of new)
