use Rattle.col_set.proofs.Places.{Listed-get_or}
use Rattle.least_sets.proofs.Runs.{owned_first, owned_more}
use Rattle.least_sets.proofs.scans.owned_columns.Goals as goal

pub loop-run-init : goal.loop-run-init
loop-run-init g c = owned_first c.args.free

pub seen_in_run-owned-requires : goal.seen_in_run-owned-requires
seen_in_run-owned-requires g c = c.requires.each _ (Listed-get_or c.args.runs.now c.loop-run.run-index (record { start = 0; stop = 0 }) c.loop-run-test.true)

pub loop-run-preserved : goal.loop-run-preserved
loop-run-preserved g c = owned_more c.args.own.now c.args.runs.now c.args.free c.loop-run.owned c.loop-run.run-index (record { start = 0; stop = 0 }) c.seen_in_run-owned.result c.loop-run-test.true c.seen_in_run-owned.ensures.low c.seen_in_run-owned.ensures.seen c.seen_in_run-owned.ensures.unseen c.loop-run.invariant
