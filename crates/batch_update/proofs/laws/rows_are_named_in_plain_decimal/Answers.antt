use Rattle.batch_update.proofs.Decimals.{rows_are_named_in_decimal}
use Rattle.batch_update.proofs.laws.rows_are_named_in_plain_decimal.Goals as goal

pub returns : goal.returns
returns c = rows_are_named_in_decimal
