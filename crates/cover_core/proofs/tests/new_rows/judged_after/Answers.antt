use Rattle.std.proofs.Common.{refl, arith}
use Rattle.cover_core.proofs.tests.new_rows.judged_after.Goals as goal

pub judge_drawn-requires-clause-name : goal.judge_drawn-requires-clause-name
judge_drawn-requires-clause-name g c = refl

pub judge_drawn-requires-clause-parts : goal.judge_drawn-requires-clause-parts
judge_drawn-requires-clause-parts g c = refl

pub judge_drawn-requires-clause-some : goal.judge_drawn-requires-clause-some
judge_drawn-requires-clause-some g c = let e = c.new.ensures in omega (arith, e)
