use Rattle.cover_steps.specs.declared.step.Call.TheVariants as calls
use Rattle.desk.proofs.Answering.{turned_to, marks_only, marked_back, still_drawn}
use Rattle.desk.proofs.desk.Desk.mark.Goals as goal

pub unreachable-requires : goal.unreachable-requires
unreachable-requires g c = marks_only c.args.job _ (turned_to _ _ _ (calls.Mark c.args.job) _ c.turn.ensures.turned) c.in_default.not-Marked

pub returns-clause-turned : goal.returns-clause-turned
returns-clause-turned g c = marked_back _ _ _ c.args.job c.in-Marked._job c.in-Marked.marking c.in-Marked.ensures.turned

pub returns-clause-drawn : goal.returns-clause-drawn
returns-clause-drawn g c = λ other d. still_drawn _ _ _ _ _ other c.turn.ensures.turned d
