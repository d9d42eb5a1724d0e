-- Evidence, and what of it is news.
use Rattle.std.specs.Prelude.{◌≡◌, ◌≢◌, ◌<◌, ◌≤◌, ℕ, false, List, ◌++◌}
use Rattle.std.specs.List.{All, AllPairs, Contains}
use Rattle.rel_base.specs.RowState.{RowState, width}
use Rattle.rel_base.specs.Validity.{agree_of}
use Rattle.negative_cover.specs.declared.negative_cover.Witness.{Witness}
use Rattle.negative_cover.specs.Witnesses.{sets_of}
use Rattle.least_sets.specs.Drafts.{Drafted, is_news}
use Rattle.cover_steps.specs.Core.{Core}
use Rattle.cover_steps.specs.Sound.{IsWitness}
use Rattle.negative_cover.specs.declared.negative_cover.Witness.{Witness as Evidence}

-- two different live rows, and what they agree on
abbrev pub IsEvidence : RowState → Evidence → Type 0
IsEvidence r e = IsWitness r e

-- More witnesses, none with the agree set of another, and a draft of n columns that has their agree sets behind the others.
pub record IsNews (r : RowState) (n : ℕ) (ws more : List Witness) (draft : Drafted) : Type 0 where
  pub drafted : draft ≡ record { width = n; agree_sets = sets_of (ws ++ more) }
  pub witnesses : All (IsWitness r) more
  pub once : AllPairs (λ v w. v.agree ≢ w.agree) ws → AllPairs (λ v w. v.agree ≢ w.agree) (ws ++ more)

-- what each live row from a number on and each live row before it agree on is no news to the witnesses
pub record IsAllTold (s : Core) (from : ℕ) : Type 0 where
  pub each : (i j : ℕ) → Contains s.rows.live i → Contains s.rows.live j → i < j → from ≤ j
      → is_news (width s.rows) (sets_of s.witnesses) (agree_of s.rows i j) ≡ false
