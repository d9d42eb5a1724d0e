use Rattle.cover_core.proofs.judging.judge_share.Goals as goal

pub judge_unless_told-requires-clause-asked : goal.judge_unless_told-requires-clause-asked
judge_unless_told-requires-clause-asked c = c.in-Some.ensures c.args.rows.now c.args.snapshot.now.value c.requires.asked
