use Rattle.std.proofs.Common.{◌≡◌, ◌++◌, map, take}
use Rattle.rel_base.specs.Agreement.{agree}
use Rattle.plain_base.proofs.pairwise.push_agree_sets.Given as goal

abbrev pub invariant-loop-other : goal.invariant-loop-other
invariant-loop-other l = l.sets.items ≡ l.fn.sets.items ++ map (λ other. agree l.nulls l.columns l.one other) (take l.other-index l.others)
