use Rattle.std.proofs.Common.{◌++◌, List, ℕ, take}
use Rattle.least_sets.specs.Growth.{choices, ListsLeast}
use Rattle.least_sets.proofs.draft.grow_past_all.Given as goal

abbrev pub invariant-loop-z : goal.invariant-loop-z
invariant-loop-z l = (ws : List ℕ) → ListsLeast (choices l.columns l.target) ws l.target l.fn.sets.items → ListsLeast (choices l.columns l.target) (ws ++ take l.z-index l.news) l.target l.sets.items
