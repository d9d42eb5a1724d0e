use Rattle.std.proofs.Common.{◌≡◌, ◌<◌, ℕ, get_or}
use Rattle.rel_base.specs.declared.batch.Op.{Op}
use Rattle.rel_base.specs.Batches.{IsAsWide}
use Rattle.rel_base.specs.PackedOps.{place_of, IsCursor}
use Rattle.plain_base.proofs.samples.are_as_wide.Given as goal

abbrev pub invariant-loop-place : goal.invariant-loop-place
invariant-loop-place l = record {
  wide : (k : ℕ) (d : Op) → k < l._place → IsAsWide l.width (get_or l.batch k d);
  is : IsCursor l.batch l.cursor;
  place : place_of l.cursor ≡ l._place;
}
