use Rattle.std.proofs.Common.{◌≡◌, take}
use Rattle.rel_base.specs.Projection.{projected}
use Rattle.lossless_join.proofs.parts.project.Given as goal

abbrev pub invariant-loop-row : goal.invariant-loop-row
invariant-loop-row l = l.parts.keys ≡ projected l.columns (take l.row-index l.rows)
