use Rattle.col_set.proofs.Places.{Listed-get_or}
use Rattle.least_sets.proofs.Runs.{owned_first, owned_more_with}
use Rattle.least_sets.proofs.scans.owned_columns_with.Goals as goal

pub loop-run-init : goal.loop-run-init
loop-run-init g c = owned_first c.args.free

pub seen_in_run_with-owned-requires-clause-within : goal.seen_in_run_with-owned-requires-clause-within
seen_in_run_with-owned-requires-clause-within g c = c.requires.within.each _ (Listed-get_or c.args.runs.now c.loop-run.run-index (record { start = 0; stop = 0 }) c.loop-run-test.true)

pub loop-run-preserved : goal.loop-run-preserved
loop-run-preserved g c = owned_more_with c.args.column c.args.own.now c.args.runs.now c.args.free c.loop-run.owned c.loop-run.run-index (record { start = 0; stop = 0 }) c.seen_in_run_with-owned.result c.loop-run-test.true c.seen_in_run_with-owned.ensures.low c.seen_in_run_with-owned.ensures.seen c.seen_in_run_with-owned.ensures.unseen c.loop-run.invariant
