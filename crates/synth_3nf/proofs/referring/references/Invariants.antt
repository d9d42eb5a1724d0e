use Rattle.std.proofs.Common.{◌≡◌, ◌+◌, ◌++◌, length}
use Rattle.std.specs.List.{enumerate_from, flat_map}
use Rattle.synth_3nf.specs.References.{references, references_from}
use Rattle.synth_3nf.proofs.referring.references.Given as goal

abbrev pub invariant-loop-table : goal.invariant-loop-table
invariant-loop-table l = l.found.items ++ flat_map (references_from l.keys) (enumerate_from (l.number + 1) l.rest) ≡ references l.tables l.keys

abbrev pub decreases-loop-table : goal.decreases-loop-table
decreases-loop-table l = length l.rest
