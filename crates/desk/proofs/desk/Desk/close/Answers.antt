use Rattle.desk.proofs.Running.{leads_to}
use Rattle.desk.proofs.desk.Desk.close.Goals as goal

pub returns-clause-ended : goal.returns-clause-ended
returns-clause-ended g c = let e = c.close.ensures.ended in (e.0, e.1, leads_to c.args.self _ _ c.requires.sound e.2)

pub returns-clause-whole : goal.returns-clause-whole
returns-clause-whole g c = λ all. leads_to c.args.self _ _ c.requires.sound (c.close.ensures.whole all)
