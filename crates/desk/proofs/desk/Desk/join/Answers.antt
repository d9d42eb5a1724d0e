use Rattle.desk.proofs.Answering.{drawn_on}
use Rattle.desk.proofs.desk.Desk.join.Goals as goal

pub returns-clause-drawn : goal.returns-clause-drawn
returns-clause-drawn g c = λ job d. drawn_on _ _ _ _ c.take_in.ensures.into job d

pub returns-clause-drawn_by_gone : goal.returns-clause-drawn_by_gone
returns-clause-drawn_by_gone g c = λ job d. drawn_on _ _ _ _ c.take_in.ensures.gone job d
