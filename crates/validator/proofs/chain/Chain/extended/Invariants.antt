use Rattle.std.proofs.Common.{◌≡◌, length}
use Rattle.validator.specs.Chains.{IsChain}
use Rattle.validator.proofs.chain.Chain.extended.Given as goal

abbrev pub invariant-loop-place : goal.invariant-loop-place
invariant-loop-place l = record {
  chain : IsChain l.codes l.chain;
  long : length l.chain.before.items ≡ l.place;
}
