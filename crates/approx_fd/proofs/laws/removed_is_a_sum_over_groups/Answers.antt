use Rattle.std.proofs.Common.{refl}
use Rattle.stripped_partition.specs.Stripped.{stripped}
use Rattle.stripped_partition.proofs.Refining.{in_its_order}
use Rattle.approx_fd.proofs.Removing.{removed_in-column, removed_in-row}
use Rattle.approx_fd.proofs.laws.removed_is_a_sum_over_groups.Goals as goal

pub returns : goal.returns
returns c s x = let are = in_its_order s x (stripped s x) refl in record {
  column = λ a l. removed_in-column s x (stripped s x) are a l;
  row = removed_in-row s x (stripped s x) are;
}
