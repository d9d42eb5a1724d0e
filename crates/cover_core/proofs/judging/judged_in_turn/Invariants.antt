use Rattle.std.proofs.Common.{◌≡◌}
use Rattle.cover_core.specs.Judged.{AreVerdicts}
use Rattle.cover_core.proofs.judging.judged_in_turn.Given as goal

abbrev pub invariant-loop : goal.invariant-loop
invariant-loop l = (l.store ≡ l.fn.store) × AreVerdicts l.rows l.snapshot.value l.all

abbrev pub invariant-loop-share : goal.invariant-loop-share
invariant-loop-share l = (l.store ≡ l.fn.store) × AreVerdicts l.rows l.snapshot.value l.all
