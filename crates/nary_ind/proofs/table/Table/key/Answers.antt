use Rattle.std.proofs.Common.{ℕ, arith, subst, sym}
use Rattle.col_set.specs.Listing.{Listed}
use Rattle.col_set.proofs.Places.{Listed-get_or}
use Rattle.nary_ind.proofs.table.Table.key.Goals as goal

pub number-requires-clause-column : goal.number-requires-clause-column
number-requires-clause-column c =
    c.requires.numbered c.column_at.result (subst (λ (k : ℕ). Listed k c.args.columns.now) (sym c.column_at.ensures) (Listed-get_or c.args.columns.now c.loop-place.place 0 (omega arith)))
