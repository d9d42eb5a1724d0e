use Rattle.std.proofs.Common.{◌≡◌, vec_len}
use Rattle.validator.specs.Stores.{AreOf}
use Rattle.validator.proofs.stores.Stores.level.Given as goal

abbrev pub invariant-loop-k : goal.invariant-loop-k
invariant-loop-k g l = record {
  are : AreOf l.fn.self.own l.self;
  len : vec_len l.self.others ≡ vec_len l.fn.self.others;
}
