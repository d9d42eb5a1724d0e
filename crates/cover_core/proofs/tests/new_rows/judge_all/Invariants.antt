use Rattle.std.proofs.Common.{◌≤◌, ◌+◌, vec_len}
use Rattle.cover_core.specs.Tests.{AreNear}
use Rattle.cover_core.proofs.tests.new_rows.judge_all.Given as goal

abbrev pub invariant-loop : goal.invariant-loop
invariant-loop g l = AreNear l.book × (l.steps ≤ l.fn.steps + vec_len l.jobs)
