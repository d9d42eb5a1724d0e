use Rattle.std.proofs.Common.{◌≡◌, length}
use Rattle.std.specs.List.{flat_map}
use Rattle.col_set.specs.ColSet.{upto}
use Rattle.approx_fd.specs.Approximate.{approx_to_by}
use Rattle.approx_fd.specs.Removal.{removed_in}
use Rattle.approx_fd.proofs.approximate.approx.Given as goal

abbrev pub invariant-loop-column : goal.invariant-loop-column
invariant-loop-column l = record {
  table : l.search.table ≡ l.snapshot;
  most : l.search.most ≡ l.errors;
  found : l.found.items ≡ flat_map (approx_to_by (length l.snapshot.codes) (removed_in l.snapshot) l.errors) (upto l.column);
}
