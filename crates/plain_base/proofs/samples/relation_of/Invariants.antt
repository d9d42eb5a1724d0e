use Rattle.std.proofs.Common.{◌≡◌, take}
use Rattle.plain_base.proofs.samples.relation_of.Given as goal

abbrev pub invariant-loop-row : goal.invariant-loop-row
invariant-loop-row l = (l.relation.names ≡ l.fn.names) × (l.relation.rows ≡ take l.row-index l.rows)
