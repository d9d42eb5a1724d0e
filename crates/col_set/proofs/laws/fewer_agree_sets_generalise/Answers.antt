use Rattle.std.proofs.Common.{inl, inr, ◌⊎◌, ◌++◌}
use Rattle.std.specs.List.{Contains}
use Rattle.col_set.specs.Evidence.{least}
use Rattle.col_set.specs.Laws.{WithdrawnInside}
use Rattle.col_set.proofs.Places.{Contains-listed, Listed-contained}
use Rattle.col_set.proofs.Fewer.{least-fewer}
use Rattle.col_set.proofs.laws.fewer_agree_sets_generalise.Goals as goal

pub returns : goal.returns
returns c n rest gone t x h = elim (least-fewer n rest gone t x (Listed-contained x (least n rest t) h)) as (λ _. Contains (least n (rest ++ gone) t) x ⊎ WithdrawnInside gone t x) [
  | inl l ↦ inl (Contains-listed x (least n (rest ++ gone) t) l)
  | inr w ↦ inr w
]
