use Rattle.approx_fd.proofs.Calls.{column-removed, row-few, row-many}
use Rattle.approx_fd.proofs.removal.removed_up_to.Goals as goal

pub returns-in-Col-clause-value : goal.returns-in-Col-clause-value
returns-in-Col-clause-value c = column-removed c.args.snapshot.now c.args.partition.now c.args.target c.args.most c.in-Col.column c.removed_up_to.result c.requires.target c.in-Col.is c.removed_up_to.ensures.value

pub returns-then-count-most-clause-value : goal.returns-then-count-most-clause-value
returns-then-count-most-clause-value c = row-few c.args.snapshot.now c.args.partition.now c.args.target c.args.most c.error_count-count.result c.in-RowId.is c.error_count-count.ensures c.if-count-most.true

pub returns-else-count-most-clause-value : goal.returns-else-count-most-clause-value
returns-else-count-most-clause-value c = row-many c.args.snapshot.now c.args.partition.now c.args.target c.args.most c.error_count-count.result c.in-RowId.is c.error_count-count.ensures c.if-count-most.false
