use Rattle.col_set.proofs.EachColumn.{first-Some}
use Rattle.validator.proofs.store.Store.column_for.Goals as goal

pub lightest-column-requires-clause-first : goal.lightest-column-requires-clause-first
lightest-column-requires-clause-first c = (first-Some c.args.asked.now.left c.in_ok-first.first c.in_ok-first.ensures.value).had
