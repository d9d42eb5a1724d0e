use Rattle.std.proofs.lemmas.Bool.{OnTrue_at}
use Rattle.cover_core.proofs.Passes.{Extends-same}
use Rattle.cover_core.proofs.Turn.{IsTurned, IsTurned-same, IsTurned-more, IsTurned-fits}
use Rattle.cover_core.proofs.book.Book.finish.Goals as goal
use Rattle.cover_core.proofs.book.Book.finish.Goals.{After-from_residual-in_err-advance, After-covers}

pub loop-init : goal.loop-init
loop-init c = IsTurned-more c.args.self.now c.free.new.self c.search.new.self (IsTurned-same c.args.self.now c.free.new.self c.free.ensures.rows c.free.ensures.witnesses) c.search.ensures.rows c.search.ensures.witnesses

pub loop-smaller : goal.loop-smaller
loop-smaller c = OnTrue_at c.if-branch.true c.in_ok-advance.ensures.less

pub loop-preserved : goal.loop-preserved
loop-preserved c = IsTurned-more _ _ _ c.loop.invariant c.advance.ensures.rows c.advance.ensures.witnesses

failed : (c : After-from_residual-in_err-advance) → IsTurned c.args.self.now c.advance.new.self
failed c = IsTurned-more _ _ _ c.loop.invariant c.advance.ensures.rows c.advance.ensures.witnesses

done : (c : After-covers) → IsTurned c.args.self.now c.free-2.new.self
done c = IsTurned-more c.args.self.now c.advance.new.self c.free-2.new.self (IsTurned-more _ _ _ c.loop.invariant c.advance.ensures.rows c.advance.ensures.witnesses) c.free-2.ensures.rows
    (Extends-same c.advance.new.self.witnesses c.free-2.new.self.witnesses c.free-2.ensures.witnesses)

pub returns-in_err-advance-clause-rows : goal.returns-in_err-advance-clause-rows
returns-in_err-advance-clause-rows c = (failed c).rows

pub returns-in_err-advance-clause-witnesses : goal.returns-in_err-advance-clause-witnesses
returns-in_err-advance-clause-witnesses c = (failed c).witnesses

pub returns-in_err-advance-clause-fits : goal.returns-in_err-advance-clause-fits
returns-in_err-advance-clause-fits c = IsTurned-fits _ _ (failed c)

pub returns-clause-rows : goal.returns-clause-rows
returns-clause-rows c = (done c).rows

pub returns-clause-witnesses : goal.returns-clause-witnesses
returns-clause-witnesses c = (done c).witnesses

pub returns-clause-fits : goal.returns-clause-fits
returns-clause-fits c = IsTurned-fits _ _ (done c)
