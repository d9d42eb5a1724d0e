use Rattle.std.proofs.Common.{vec_len}
use Rattle.validator.specs.Links.{AreLinks}
use Rattle.validator.proofs.links.carried.Given as goal

abbrev pub invariant-loop-link : goal.invariant-loop-link
invariant-loop-link l = record {
  old : AreLinks l.earlier l.old.items;
  new : AreLinks l.snapshot l.new.items;
}

abbrev pub decreases-loop-link : goal.decreases-loop-link
decreases-loop-link l = vec_len l.old
