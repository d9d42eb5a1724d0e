-- Candidates that wait for a verdict.
use Rattle.std.specs.Prelude.{◌≡◌, ◌<◌, ◌^◌, ℕ, List, [], ◌∷◌}
use Rattle.col_set.specs.Target.{IsColumnTarget}
use Rattle.col_set.specs.Lists.{Listed}
use Rattle.candidate_cover.specs.Lists.{CandLists}
use Rattle.candidate_cover.specs.Cands.{width, cands_of, with_list, marked}
use Rattle.cover_core.specs.declared.waiting.Waiting.{Waiting}
use Rattle.cover_core.specs.declared.sought.Wanted.{Wanted}
use Rattle.cover_core.specs.declared.sought.Wanted.TheVariants.{Left, Listed as InBook}

-- it is a candidate of its target
pub record IsWaiting (c : CandLists) (w : Waiting) : Type 0 where
  pub target : IsColumnTarget (width c) w.target
  pub listed : Listed w.cand (cands_of c w.target)

-- it is a left side of one of n targets, of which nothing is known
pub record IsSought (n : ℕ) (w : Waiting) : Type 0 where
  pub target : IsColumnTarget n w.target
  pub left : w.cand.left < 2 ^ n
  pub fresh : w.cand.upto ≡ 1

-- how many columns what is wanted has
abbrev pub width_of : Wanted → ℕ
width_of (Left draft size) = draft.now.width
width_of (InBook candidates sizes next) = width candidates.now

-- it is one of what is wanted
abbrev pub IsWanted : Wanted → Waiting → Type 0
IsWanted (Left draft size) w = IsSought draft.now.width w
IsWanted (InBook candidates sizes next) w = IsWaiting candidates.now w

-- the candidates after these were marked up to a number, one after another
unfoldable pub marked_each : CandLists → List Waiting → ℕ → CandLists
marked_each c [] to = c
marked_each c (w ∷ list) to = marked_each (with_list c w.target (marked (cands_of c w.target) w.cand.left to)) list to
