-- First rows are rows that were given, and the columns of a set are columns of the rows.
use Rattle.std.proofs.Common.{◌≡◌, ◌<◌, ◌^◌, ℕ, not, List, subst, sym}
use Rattle.std.specs.List.{All}
use Rattle.col_set.specs.ColSet.{Columns, columns}
use Rattle.col_set.specs.Subsets.{has_within}
use Rattle.col_set.proofs.EachColumn.{columns-listed}
use Rattle.col_set.specs.Lists.{Listed, Listed-filter_parts}
use Rattle.rel_base.specs.CodeTable.{CodeTable}
use Rattle.rel_base.specs.RowState.{IsRowState, RowState, next}
use Rattle.rel_base.specs.Shows.{Shows, live_numbers}
use Rattle.rel_base.proofs.Shown.{live_numbers-shown}
use Rattle.rel_base.proofs.States.{All-from, live_numbered}
use Rattle.stripped_partition.specs.Stripped.{agree_on}
use Rattle.first_rows.specs.First.{first_rows, follows}

pub first_rows-given : (s : CodeTable) (r : RowState) (x : Columns) (rows : List ℕ) → IsRowState r → Shows s r → rows ≡ first_rows s x → All (λ number. number < next r) rows
unfolding first_rows
first_rows-given s r x rows is shows e =
    subst (λ (ns : List ℕ). All (λ number. number < next r) ns) (sym e)
    (All-from (λ number. number < next r) (first_rows s x)
    (λ i l. live_numbered r i is (subst (λ (ns : List ℕ). Listed i ns) (live_numbers-shown s r is shows) (Listed-filter_parts (λ j. not (follows (agree_on s x) (live_numbers s) j)) i (live_numbers s) l).0)))

-- the columns of a set of n columns are below n
pub columns-within : (s n : ℕ) (list : List ℕ) → list ≡ columns s → s < 2 ^ n → All (λ column. column < n) list
columns-within s n list e below =
    subst (λ (cs : List ℕ). All (λ column. column < n) cs) (sym e) (All-from (λ column. column < n) (columns s) (λ k l. has_within s n k below (columns-listed s k l)))
