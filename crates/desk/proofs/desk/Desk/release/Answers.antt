use Rattle.cover_steps.specs.declared.step.Call.TheVariants as calls
use Rattle.desk.proofs.Answering.{turned_to, releases_only, released_back, still_drawn}
use Rattle.desk.proofs.desk.Desk.release.Goals as goal

pub unreachable-requires : goal.unreachable-requires
unreachable-requires g c = releases_only c.args.job _ (turned_to _ _ _ (calls.Release c.args.job) _ c.turn.ensures.turned) c.in_default.not-Released

pub returns-clause-turned : goal.returns-clause-turned
returns-clause-turned g c = released_back _ _ _ c.args.job c.in-Released._job c.in-Released.release c.in-Released.ensures.turned

pub returns-clause-drawn : goal.returns-clause-drawn
returns-clause-drawn g c = λ other d. still_drawn _ _ _ _ _ other c.turn.ensures.turned d
