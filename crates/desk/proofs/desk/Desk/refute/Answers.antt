use Rattle.cover_steps.specs.declared.step.Call.TheVariants as calls
use Rattle.desk.proofs.Answering.{turned_to, refutes_only, still_drawn}
use Rattle.desk.proofs.desk.Desk.refute.Goals as goal

pub unreachable-requires : goal.unreachable-requires
unreachable-requires g c = refutes_only c.args.i c.args.j _ (turned_to _ _ _ (calls.Refute c.args.i c.args.j) _ c.turn.ensures.turned) c.in_default.not-Refuted c.in_default.not-NoMemory

pub returns-in-Refuted-clause-drawn : goal.returns-in-Refuted-clause-drawn
returns-in-Refuted-clause-drawn g c = λ job d. still_drawn _ _ _ _ _ job c.turn.ensures.turned d

pub returns-in-NoMemory-clause-drawn : goal.returns-in-NoMemory-clause-drawn
returns-in-NoMemory-clause-drawn g c = λ job d. still_drawn _ _ _ _ _ job c.turn.ensures.turned d
