use Rattle.std.proofs.Common.{◌≡◌, ◌++◌, take}
use Rattle.sampler.specs.Agreeing.{all_agreeing}
use Rattle.sampler.proofs.witnesses.push_witnesses.Given as goal

abbrev pub invariant-loop-pair : goal.invariant-loop-pair
invariant-loop-pair l = l.found.items ≡ l.fn.found.items ++ all_agreeing l.rows (take l.pair-index l.pairs)
