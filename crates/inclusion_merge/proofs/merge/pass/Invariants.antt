use Rattle.std.proofs.Common.{◌≡◌}
use Rattle.inclusion_merge.specs.Candidates.{may}
use Rattle.inclusion_merge.specs.Sharing.{lists_of}
use Rattle.inclusion_merge.proofs.Merging.{Merged, total}
use Rattle.inclusion_merge.proofs.merge.pass.Given as goal

abbrev pub invariant-loop-turns : goal.invariant-loop-turns
invariant-loop-turns l = record {
  columns : l.kept.columns ≡ l.initial.kept.columns;
  parts : l.kept.parts ≡ l.initial.kept.parts;
  merged : Merged (lists_of l.initial.rests) (lists_of l.rests) (may l.kept);
}

abbrev pub decreases-loop-turns : goal.decreases-loop-turns
decreases-loop-turns l = total (lists_of l.rests)
