use Rattle.cover_steps.specs.declared.step.Call.TheVariants as calls
use Rattle.desk.proofs.Answering.{turned_to, settles_only, still_drawn}
use Rattle.desk.proofs.Running.{are_exact}
use Rattle.desk.proofs.desk.Desk.settle.Goals as goal

pub unreachable-requires : goal.unreachable-requires
unreachable-requires g c = settles_only _ (turned_to _ _ _ calls.Settle _ c.turn.ensures.turned) c.in_default.not-Settled c.in_default.not-NoMemory

pub returns-in-Settled-clause-exact : goal.returns-in-Settled-clause-exact
returns-in-Settled-clause-exact g c = are_exact c.args.self.now (g.P.DeskPass.seat c.args.pass.now) (g.P.DeskPass.seat c.turn.new.self) c.in-Settled.settling c.requires.sound c.in-Settled.ensures.turned

pub returns-in-Settled-clause-drawn : goal.returns-in-Settled-clause-drawn
returns-in-Settled-clause-drawn g c = λ job d. still_drawn _ _ _ _ _ job c.turn.ensures.turned d

pub returns-in-NoMemory-clause-drawn : goal.returns-in-NoMemory-clause-drawn
returns-in-NoMemory-clause-drawn g c = λ job d. still_drawn _ _ _ _ _ job c.turn.ensures.turned d
