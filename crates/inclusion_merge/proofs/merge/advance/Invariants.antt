use Rattle.std.proofs.Common.{◌≡◌}
use Rattle.inclusion_merge.specs.Candidates.{may}
use Rattle.inclusion_merge.specs.Sharing.{lists_of}
use Rattle.inclusion_merge.specs.WideSet.{has_wide}
use Rattle.inclusion_merge.proofs.Advancing.{Moved, Narrowed}
use Rattle.inclusion_merge.proofs.merge.advance.Given as goal

abbrev pub invariant-loop-place : goal.invariant-loop-place
invariant-loop-place l = record {
  columns : l.kept.columns ≡ l.initial.kept.columns;
  parts : l.kept.parts ≡ l.initial.kept.parts;
  moved : Moved (has_wide l.shared) (lists_of l.initial.rests) (lists_of l.rests) l.place;
  narrowed : Narrowed (has_wide l.shared) l.initial.kept.columns (may l.initial.kept) (may l.kept) l.place;
}
