use Rattle.std.proofs.Common.{length}
use Rattle.std.specs.List.{All}
use Rattle.validator.specs.Stores.{AreOf}
use Rattle.cover_core.specs.Judged.{IsAsked, AreVerdicts}
use Rattle.cover_core.proofs.judging.judged_by_parts.Given as goal

abbrev pub invariant-loop-rest : goal.invariant-loop-rest
invariant-loop-rest g l = AreOf l.snapshot.value l.stores × All (IsAsked l.rows l.snapshot.value) l.rest × AreVerdicts l.rows l.snapshot.value l.all

abbrev pub decreases-loop-rest : goal.decreases-loop-rest
decreases-loop-rest g l = length l.rest
