use Rattle.std.proofs.Common.{◌≡◌}
use Rattle.cover_core.specs.Judged.{AreVerdicts}
use Rattle.cover_core.proofs.judging.judge_all.Given as goal

abbrev pub invariant-loop-waiting : goal.invariant-loop-waiting
invariant-loop-waiting l = (l.store ≡ l.fn.store) × AreVerdicts l.rows l.snapshot.value l.all
