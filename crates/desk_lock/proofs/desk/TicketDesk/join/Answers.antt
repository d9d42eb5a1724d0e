use Rattle.std.proofs.Common.{rules, ◌∙◌}
use Rattle.desk_lock.specs.Views.{hearing, united}
use Rattle.desk_lock.proofs.Homes.{joins, listens}
use Rattle.desk_lock.proofs.Passing.{view_is, stage_is, heard_is, hand_is, united_pass}
use Rattle.desk_lock.proofs.Uniting.{unites}
use Rattle.desk_lock.proofs.desk.TicketDesk.join.Goals as goal

pub join_seat-requires : goal.join_seat-requires
join_seat-requires g c = (search rules, search rules, search rules, search rules, joins g.K.Turns.step g.K.Turns.may _ _ _ _ _ c.requires.own.1.idle)

pub load-requires : goal.load-requires
load-requires g c = let e = c.join_seat.ensures.2 in let m = c.join_seat.new.seat.me in let w = hearing c.args.into.now.me.0 c.args.gone.me.0 in
    (search rules, search rules, listens g.K.Turns.step g.K.Turns.may _ _ _ _ _ (stage_is m w c.args.into.now.me.1 e ∙ c.requires.own.0.idle) (heard_is m w c.args.into.now.me.1 e))

pub returns-clause-own : goal.returns-clause-own
returns-clause-own g c = let u = unites c.args.into.now.me c.join_seat.new.seat.me c.load.new.seat.me c.args.gone.me.0 c.requires.own.0.heard c.join_seat.ensures.2 c.load.ensures.2 in let own = c.requires.own.0 in
    (united_pass c.args.self.now c.args.into.now c.load.new.seat c.args.gone.me.0 own (search rules) (hand_is c.load.new.seat.me (united c.args.into.now.me.0 c.args.gone.me.0) c.args.into.now.me.1 u.0 ∙ own.empty_handed) (view_is c.load.new.seat.me (united c.args.into.now.me.0 c.args.gone.me.0) c.args.into.now.me.1 u.0) u.1, search rules)

pub returns-clause-united : goal.returns-clause-united
returns-clause-united g c = view_is c.load.new.seat.me (united c.args.into.now.me.0 c.args.gone.me.0) c.args.into.now.me.1 (unites c.args.into.now.me c.join_seat.new.seat.me c.load.new.seat.me c.args.gone.me.0 c.requires.own.0.heard c.join_seat.ensures.2 c.load.ensures.2).0

pub returns-clause-into : goal.returns-clause-into
returns-clause-into g c = let u = unites c.args.into.now.me c.join_seat.new.seat.me c.load.new.seat.me c.args.gone.me.0 c.requires.own.0.heard c.join_seat.ensures.2 c.load.ensures.2 in
    rw (view_is c.load.new.seat.me (united c.args.into.now.me.0 c.args.gone.me.0) c.args.into.now.me.1 u.0) u.1

pub returns-clause-gone : goal.returns-clause-gone
returns-clause-gone g c = let u = unites c.args.into.now.me c.join_seat.new.seat.me c.load.new.seat.me c.args.gone.me.0 c.requires.own.0.heard c.join_seat.ensures.2 c.load.ensures.2 in
    rw (view_is c.load.new.seat.me (united c.args.into.now.me.0 c.args.gone.me.0) c.args.into.now.me.1 u.0) u.2
