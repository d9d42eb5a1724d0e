use Rattle.std.specs.List.{All}
use Rattle.rel_base.specs.Batches.{IsAsWide}
use Rattle.plain_base.proofs.samples.Samples.batch.Given as goal

abbrev pub invariant-loop : goal.invariant-loop
invariant-loop l = All (IsAsWide l.cells) l.batch
