use Rattle.std.proofs.Common.{length}
use Rattle.set_tree.specs.Pairs.{keys}
use Rattle.cover_cert.proofs.Told.{Sifted}
use Rattle.cover_cert.proofs.evidence.needed.Given as goal

abbrev pub invariant-loop-witness : goal.invariant-loop-witness
invariant-loop-witness l = Sifted l.fn.columns l.fn.witnesses l.rest.items l.kept.items (keys l.lacking)

abbrev pub decreases-loop-witness : goal.decreases-loop-witness
decreases-loop-witness l = length l.rest.items
