use Rattle.cover_steps.specs.declared.step.Call.TheVariants as calls
use Rattle.desk.proofs.Answering.{turned_to, draws_only, was_drawn, still_drawn}
use Rattle.desk.proofs.Running.{tells_rows}
use Rattle.desk.proofs.desk.Desk.draw.Goals as goal

pub unreachable-requires : goal.unreachable-requires
unreachable-requires g c = draws_only _ (turned_to _ _ _ calls.Draw _ c.turn.ensures.turned) c.in_default.not-Drawn c.in_default.not-NoMemory

pub returns-in-Drawn-clause-job : goal.returns-in-Drawn-clause-job
returns-in-Drawn-clause-job g c = was_drawn c.args.self.now (g.P.DeskPass.seat c.args.pass.now) (g.P.DeskPass.seat c.turn.new.self) c.in-Drawn.draw c.requires.sound c.in-Drawn.ensures.turned

pub returns-in-Drawn-clause-rows : goal.returns-in-Drawn-clause-rows
returns-in-Drawn-clause-rows g c = tells_rows c.args.self.now (g.P.DeskPass.seat c.args.pass.now) (g.P.DeskPass.seat c.turn.new.self) c.requires.sound c.in-Drawn.draw c.in-Drawn.ensures.turned

pub returns-in-Drawn-clause-drawn : goal.returns-in-Drawn-clause-drawn
returns-in-Drawn-clause-drawn g c = λ job d. still_drawn _ _ _ _ _ job c.turn.ensures.turned d

pub returns-in-NoMemory-clause-drawn : goal.returns-in-NoMemory-clause-drawn
returns-in-NoMemory-clause-drawn g c = λ job d. still_drawn _ _ _ _ _ job c.turn.ensures.turned d
