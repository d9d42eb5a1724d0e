use Rattle.std.proofs.Common.{◌∙◌}
use Rattle.rel_base.specs.RowState.{width}
use Rattle.table_files.proofs.Tables.{all_same, others_same}
use Rattle.table_files.proofs.keys.keys_of_tables.Goals as goal

pub returns-clause-all : goal.returns-clause-all
returns-clause-all c r state equal leave below = c.in_ok-found.ensures.all (width r) below ∙ all_same r c.args.agree_sets.now c.args.tables.now state equal leave below

pub returns-clause-others : goal.returns-clause-others
returns-clause-others c r state equal leave below = c.in_ok-found.ensures.others (width r) below ∙ others_same r c.args.agree_sets.now c.args.tables.now state equal leave below
