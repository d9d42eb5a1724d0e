use Rattle.std.proofs.Common.{subst}
use Rattle.row_log.specs.declared.applying.Applying.{Applying}
use Rattle.cover_steps.specs.declared.step.Call.TheVariants as calls
use Rattle.desk.specs.declared.turns.Reply.TheVariants as replies
use Rattle.desk.specs.Desks.{TookTurn}
use Rattle.desk.proofs.Answering.{turned_to, applies_only, applied_back, batch_back, still_drawn}
use Rattle.desk.proofs.desk.Desk.apply.Goals as goal

pub unreachable-requires : goal.unreachable-requires
unreachable-requires g c = applies_only c.args.batch _ (turned_to _ _ _ (calls.Apply c.args.batch) _ c.turn.ensures.turned) c.in_default.not-Applied

pub returns-in-NoMemory-clause-turned : goal.returns-in-NoMemory-clause-turned
returns-in-NoMemory-clause-turned g c = subst (λ (a : Applying). TookTurn c.args.self.now c.args.pass.now.pass (calls.Apply c.args.batch) (replies.Applied a c.args.batch tt) c.turn.new.self.pass) c.in-NoMemory.is (applied_back _ _ _ c.args.batch c.in-Applied.batch c.in-Applied.applying c.in-Applied.ensures.turned)

pub returns-in-NoMemory-clause-back : goal.returns-in-NoMemory-clause-back
returns-in-NoMemory-clause-back g c = batch_back _ _ _ c.args.batch c.in-Applied.batch c.in-Applied.applying c.in-Applied.ensures.turned

pub returns-in-NoMemory-clause-drawn : goal.returns-in-NoMemory-clause-drawn
returns-in-NoMemory-clause-drawn g c = λ job d. still_drawn _ _ _ _ _ job c.turn.ensures.turned d

pub returns-in_default-applying-clause-turned : goal.returns-in_default-applying-clause-turned
returns-in_default-applying-clause-turned g c = applied_back _ _ _ c.args.batch c.in-Applied.batch c.in-Applied.applying c.in-Applied.ensures.turned

pub returns-in_default-applying-clause-answered : goal.returns-in_default-applying-clause-answered
returns-in_default-applying-clause-answered g c = c.in_default-applying.not-NoMemory

pub returns-in_default-applying-clause-drawn : goal.returns-in_default-applying-clause-drawn
returns-in_default-applying-clause-drawn g c = λ job d. still_drawn _ _ _ _ _ job c.turn.ensures.turned d
