use Rattle.std.proofs.Common.{◌≡◌}
use Rattle.cover_core.specs.Judged.{AreVerdicts}
use Rattle.cover_core.proofs.judging.judge_share.Given as goal

abbrev pub invariant-loop : goal.invariant-loop
invariant-loop l = (l.store ≡ l.fn.store) × AreVerdicts l.rows l.snapshot.value l.all
