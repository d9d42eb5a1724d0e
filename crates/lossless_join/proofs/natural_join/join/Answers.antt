use Rattle.std.proofs.Common.{◌∙◌, ◌≡◌, ◌∷◌, [], List, length, sym, ap, subst}
use Rattle.std.specs.List.{All}
use Rattle.col_set.specs.ColSet.{size, union}
use Rattle.rel_base.specs.Cells.{Row}
use Rattle.rel_base.proofs.States.{All-from}
use Rattle.lossless_join.specs.NaturalJoin.{columns_of}
use Rattle.lossless_join.proofs.Steps.{joined_none, columns_more, first_within, joined_next, joined_end}
use Rattle.lossless_join.proofs.natural_join.join.Goals as goal

pub loop-table-init : goal.loop-table-init
unfolding columns_of
loop-table-init c = record { done = c.empty-done.ensures; rows = joined_none c.len-width.result c.in_ok-rows.rows.items (c.in_ok-rows.ensures.items ∙ ap (λ (row : Row). row ∷ []) c.in_ok-blank.ensures) }

pub joined_with-requires-clause-done : goal.joined_with-requires-clause-done
joined_with-requires-clause-done c = first_within c.args.tables.now c.len-width.result (c.len-width.ensures.value ∙ ap size c.columns_of.ensures) c.requires c.loop-table.table-index c.loop-table.done c.loop-table.invariant.done

pub joined_with-requires-clause-wide : goal.joined_with-requires-clause-wide
joined_with-requires-clause-wide c = subst (λ (rows : List Row). All (λ (row : Row). length row ≡ c.len-width.result) rows) (sym c.as_slice.ensures.value)
    (All-from (λ (row : Row). length row ≡ c.len-width.result) c.loop-table.rows.items c.loop-table.invariant.rows.wide)

pub loop-table-preserved : goal.loop-table-preserved
loop-table-preserved c = record {
  done = columns_more c.args.tables.now c.loop-table.table-index c.table-item.result c.loop-table.done c.union-done.result c.loop-table-test.true c.table-item.is c.loop-table.invariant.done
      (c.union-done.ensures ∙ ap (union c.loop-table.done) c.columns.ensures.value);
  rows = joined_next c.args.tables.now c.len-width.result (c.len-width.ensures.value ∙ ap size c.columns_of.ensures) c.requires c.loop-table.table-index c.table-item.result c.loop-table.done c.loop-table.rows.items c.as_slice.result.now c.in_ok-rows-2.rows.items
      c.loop-table-test.true c.table-item.is c.columns.ensures.filled c.loop-table.invariant.done c.loop-table.invariant.rows c.as_slice.ensures.value c.in_ok-rows-2.ensures;
}

pub returns : goal.returns
returns c = joined_end c.args.tables.now c.len-width.result (c.len-width.ensures.value ∙ ap size c.columns_of.ensures) c.requires c.loop-table.table-index c.loop-table.rows.items c.loop-table-test.false c.loop-table.invariant.rows
