use Rattle.std.proofs.Common.{◌≤◌, vec_len}
use Rattle.validator.specs.Stores.{AreOf}
use Rattle.validator_tests.proofs.tests.is_determined_by_each.Given as goal

abbrev pub invariant-loop-k : goal.invariant-loop-k
invariant-loop-k g l = record {
  are : AreOf l.sample.snapshot.value l.stores;
  len : l.k-end ≤ vec_len l.stores.others;
}
