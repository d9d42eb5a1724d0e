use Rattle.std.proofs.Common.{◌≡◌, take}
use Rattle.rel_base.proofs.relation.Relation.rows.Given as goal

abbrev pub invariant-loop-place : goal.invariant-loop-place
invariant-loop-place l = l.rows.items ≡ take l.place l.self.rows
