use Rattle.std.proofs.Common.{◌≡◌, ◌+◌, drop}
use Rattle.rel_base.specs.Batches.{after_from, after}
use Rattle.plain_base.proofs.plain_rows.PlainRows.after.Given as goal

abbrev pub invariant-loop-place : goal.invariant-loop-place
invariant-loop-place l = record {
  names : l.rows.names ≡ l.self.names;
  rest : after_from (l.place + 1) l.rows (drop l.place l.ops) ≡ after l.self l.batch;
}
