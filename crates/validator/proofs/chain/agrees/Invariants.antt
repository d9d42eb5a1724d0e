use Rattle.std.proofs.Common.{◌≡◌, ◌<◌, ◌^◌, length}
use Rattle.stripped_partition.specs.Stripped.{agree_on}
use Rattle.validator.proofs.chain.agrees.Given as goal

abbrev pub invariant-loop-column : goal.invariant-loop-column
invariant-loop-column l = record {
  same : agree_on l.snapshot l.left l.i l.j ≡ agree_on l.snapshot l.fn.columns l.i l.j;
  within : l.left < 2 ^ length l.snapshot.codes;
}

abbrev pub decreases-loop-column : goal.decreases-loop-column
decreases-loop-column l = l.left
