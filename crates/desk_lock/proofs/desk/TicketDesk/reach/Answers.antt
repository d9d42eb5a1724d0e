use Rattle.std.proofs.Common.{rules, ap, ◌∙◌, subst, sym}
use Rattle.desk_lock.specs.Views.{Took, Sat}
use Rattle.desk_lock.proofs.Keeps.{reaches}
use Rattle.desk_lock.proofs.desk.TicketDesk.reach.Goals as goal

pub load-found-requires : goal.load-found-requires
load-found-requires g c = let d = c.requires.drawn in (search rules, search rules, reaches g.K.Turns.step g.K.Turns.may _ _ _ _ d.0 d.1 (ap (λ m. m.0.stage) c.loop.invariant.2 ∙ d.2))

pub loop-preserved : goal.loop-preserved
loop-preserved g c = let d = c.requires.drawn in let told = c.load-found.ensures.2 d.0 d.1 (ap (λ m. m.0.stage) c.loop.invariant.2 ∙ d.2) in let miss = c.if-found-ticket.false in
    (search rules, search rules, told.1 (λ e. miss (e ∙ sym d.3)) ∙ c.loop.invariant.2)

pub returns-then-found-ticket-clause-took : goal.returns-then-found-ticket-clause-took
returns-then-found-ticket-clause-took g c = let d = c.requires.drawn in let told = c.load-found.ensures.2 d.0 d.1 (ap (λ m. m.0.stage) c.loop.invariant.2 ∙ d.2) in
    (d.0, d.1, d.2, subst (λ (m : Sat g.row.T.Denot g.row.K-Call.Denot g.row.K-Reply.Denot). Took g.K.Turns.step g.K.Turns.may d.0 d.1 m c.load-found.new.seat.me) c.loop.invariant.2 (told.0 (c.if-found-ticket.true ∙ d.3)))
