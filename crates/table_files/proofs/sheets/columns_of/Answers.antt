use Rattle.table_files.proofs.Rows.{columns-within}
use Rattle.table_files.proofs.sheets.columns_of.Goals as goal

pub returns-clause-below : goal.returns-clause-below
returns-clause-below c n h = columns-within c.args.set n c.in_ok-list.list.items c.in_ok-list.ensures h
