use Rattle.std.proofs.Common.{◌+◌, ◌≤◌, arith, length}
use Rattle.csv_load.proofs.RowsBelow.{has_both}
use Rattle.csv_load.proofs.by_threads.put_together.Goals as goal

pub returns : goal.returns
returns g c =
    let few : length c.args.relation.rows + length c.args.others.rows ≤ c.args.limits.now.rows = omega arith in
    has_both c.args.limits.now c.args.relation c.args.others c.in_ok-with_rows.field-0 c.requires.same c.requires.within c.requires.others few c.in_ok-with_rows.ensures.names c.in_ok-with_rows.ensures.rows
