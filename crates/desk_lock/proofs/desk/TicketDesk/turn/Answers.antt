use Rattle.std.proofs.Common.{rules, subst, [], ◌∙◌, Some}
use Rattle.desk_lock.specs.declared.view.Stage.TheVariants.{Drawn}
use Rattle.desk_lock.specs.History.{MayTurn}
use Rattle.desk_lock.specs.Views.{at_stage}
use Rattle.desk_lock.specs.Passes.{opened}
use Rattle.desk_lock.proofs.Passing.{stage_is, turned_pass}
use Rattle.desk_lock.proofs.Turning.{came, changed, found, holds_slot, may_turn, serves, ends}
use Rattle.desk_lock.proofs.desk.TicketDesk.turn.Goals as goal

pub reach-requires-clause-own : goal.reach-requires-clause-own
reach-requires-clause-own g c = c.ask-ticket.ensures.same.0 ∙ c.requires.own.of_desk

pub reach-requires-clause-drawn : goal.reach-requires-clause-drawn
reach-requires-clause-drawn g c = let d = c.ask-ticket.ensures.drawn in (d.0, Some c.args.call, stage_is c.ask-ticket.new.pass.me (at_stage (Drawn d.0 (Some c.args.call)) c.args.pass.now.me.0) [] d.1, d.2)

pub slot_mut-requires : goal.slot_mut-requires
slot_mut-requires g c =
    let d = c.ask-ticket.ensures.drawn in let r = c.reach.ensures.took in let o = opened c.args.self.now in
    let k = came o g.K.Turns.step g.K.Turns.may c.args.pass.now.me c.ask-ticket.new.pass.me c.reach.new.pass.me d.0 r.0 (Some c.args.call) r.1 d.1 r.2 r.3 in
    (search rules, (k.1, holds_slot o g.K.Turns.step g.K.Turns.may _ _ _ k.2))

pub turn-reply-requires : goal.turn-reply-requires
turn-reply-requires g c =
    let d = c.ask-ticket.ensures.drawn in let r = c.reach.ensures.took in let o = opened c.args.self.now in
    let k = came o g.K.Turns.step g.K.Turns.may c.args.pass.now.me c.ask-ticket.new.pass.me c.reach.new.pass.me d.0 r.0 (Some c.args.call) r.1 d.1 r.2 r.3 in
    let is = found o g.K.Turns.step g.K.Turns.may _ k.1 c.slot_mut.result.now c.reach.new.pass.me k.2 c.slot_mut.ensures.value in
    subst (λ (x : g.row.T.Denot). MayTurn g.K.Turns.step g.K.Turns.may x c.args.call) is
    (may_turn o g.K.Turns.step g.K.Turns.may g.met.K.Turns.lasts c.args.pass.now.me.0 k.0 k.1 c.args.call (k.4 _ c.requires.own.from) c.requires.may)

pub leave-requires-clause-served : goal.leave-requires-clause-served
leave-requires-clause-served g c =
    let d = c.ask-ticket.ensures.drawn in let r = c.reach.ensures.took in let o = opened c.args.self.now in
    let k = came o g.K.Turns.step g.K.Turns.may c.args.pass.now.me c.ask-ticket.new.pass.me c.reach.new.pass.me d.0 r.0 (Some c.args.call) r.1 d.1 r.2 r.3 in
    let is = found o g.K.Turns.step g.K.Turns.may _ k.1 c.slot_mut.result.now c.reach.new.pass.me k.2 c.slot_mut.ensures.value in
    let now = changed o g.K.Turns.step g.K.Turns.may _ k.1 c.turn-reply.new.state c.reach.new.pass.me k.2 in
    serves o g.K.Turns.step g.K.Turns.may g.met.K.Turns.lasts c.args.pass.now.me.0 k.0 k.1 _ _ c.args.call _ _ _ is now (k.4 _ c.requires.own.from) c.requires.may c.turn-reply.ensures

pub returns-clause-own : goal.returns-clause-own
returns-clause-own g c =
    let d = c.ask-ticket.ensures.drawn in let r = c.reach.ensures.took in let o = opened c.args.self.now in
    let k = came o g.K.Turns.step g.K.Turns.may c.args.pass.now.me c.ask-ticket.new.pass.me c.reach.new.pass.me d.0 r.0 (Some c.args.call) r.1 d.1 r.2 r.3 in
    let is = found o g.K.Turns.step g.K.Turns.may _ k.1 c.slot_mut.result.now c.reach.new.pass.me k.2 c.slot_mut.ensures.value in
    let now = changed o g.K.Turns.step g.K.Turns.may _ k.1 c.turn-reply.new.state c.reach.new.pass.me k.2 in
    let t = ends o g.K.Turns.step g.K.Turns.may g.met.K.Turns.lasts c.args.pass.now.me.0 k.0 k.1 _ _ c.args.call _ _ _ c.leave.new.pass.me c.requires.own.idle is now c.leave.ensures.left k.3 (k.4 _ c.requires.own.from) c.requires.may c.turn-reply.ensures in
    (turned_pass c.args.self.now g.K.Turns.step g.K.Turns.may o c.args.pass.now c.leave.new.pass c.args.call _ c.requires.own (search rules) t.0 t.1, search rules)

pub returns-clause-turned : goal.returns-clause-turned
returns-clause-turned g c =
    let d = c.ask-ticket.ensures.drawn in let r = c.reach.ensures.took in let o = opened c.args.self.now in
    let k = came o g.K.Turns.step g.K.Turns.may c.args.pass.now.me c.ask-ticket.new.pass.me c.reach.new.pass.me d.0 r.0 (Some c.args.call) r.1 d.1 r.2 r.3 in
    let is = found o g.K.Turns.step g.K.Turns.may _ k.1 c.slot_mut.result.now c.reach.new.pass.me k.2 c.slot_mut.ensures.value in
    let now = changed o g.K.Turns.step g.K.Turns.may _ k.1 c.turn-reply.new.state c.reach.new.pass.me k.2 in
    (ends o g.K.Turns.step g.K.Turns.may g.met.K.Turns.lasts c.args.pass.now.me.0 k.0 k.1 _ _ c.args.call _ _ _ c.leave.new.pass.me c.requires.own.idle is now c.leave.ensures.left k.3 (k.4 _ c.requires.own.from) c.requires.may c.turn-reply.ensures).1
