use Rattle.std.proofs.Common.{◌≤◌, ◌++◌, length}
use Rattle.std.specs.List.{All, Contains}
use Rattle.sampler.specs.Agreeing.{all_agreeing}
use Rattle.sampler.proofs.witnesses.push_unseen.Given as goal

abbrev pub invariant-loop-pair : goal.invariant-loop-pair
invariant-loop-pair l = All (Contains (l.fn.found.items ++ all_agreeing l.rows l.pairs)) l.found.items × (length l.fn.found.items ≤ length l.found.items)
