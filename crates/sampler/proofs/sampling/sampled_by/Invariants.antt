use Rattle.std.proofs.Common.{◌<◌, length}
use Rattle.std.specs.List.{All}
use Rattle.sampler.specs.Agreeing.{IsNear}
use Rattle.sampler.proofs.sampling.sampled_by.Given as goal

abbrev pub invariant-loop-column : goal.invariant-loop-column
invariant-loop-column g l = All (λ column. column < length l.snapshot.codes) l.columns.items

abbrev pub invariant-loop-own : goal.invariant-loop-own
invariant-loop-own g l = All (IsNear l.rows l.snapshot) l.all.items
