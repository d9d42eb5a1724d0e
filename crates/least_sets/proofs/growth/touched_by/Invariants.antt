use Rattle.std.proofs.Common.{◌≡◌, take}
use Rattle.least_sets.specs.Growth.{inside, outside, near}
use Rattle.least_sets.proofs.growth.touched_by.Given as goal

abbrev pub invariant-loop-x : goal.invariant-loop-x
invariant-loop-x l = record {
  inside : l.inside.items ≡ inside l.z (take l.x-index l.sets);
  near : l.near.items ≡ near l.z (outside l.z (take l.x-index l.sets));
}
