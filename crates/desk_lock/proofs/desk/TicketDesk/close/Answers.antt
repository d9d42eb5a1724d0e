use Rattle.std.proofs.Common.{◌≡◌, ◌++◌, ◌∙◌, [], subst, sym, None}
use Rattle.desk_lock.specs.declared.view.Stage.TheVariants.{Drawn, Served}
use Rattle.desk_lock.specs.History.{Legal}
use Rattle.desk_lock.specs.Views.{at_stage, seeing}
use Rattle.desk_lock.proofs.Passing.{view_is, stage_is}
use Rattle.desk_lock.proofs.Turning.{came}
use Rattle.desk_lock.proofs.Uniting.{closed, whole}
use Rattle.desk_lock.proofs.desk.TicketDesk.close.Goals as goal

pub reach-requires-clause-own : goal.reach-requires-clause-own
reach-requires-clause-own g c = c.draw-ticket.ensures.same.0 ∙ c.requires.of_desk

pub reach-requires-clause-drawn : goal.reach-requires-clause-drawn
reach-requires-clause-drawn g c = let d = c.draw-ticket.ensures.drawn in (d.0, None, stage_is c.draw-ticket.new.pass.me (at_stage (Drawn d.0 None) c.args.pass.me.0) [] d.1, d.2)

pub returns-clause-ended : goal.returns-clause-ended
returns-clause-ended g c = let d = c.draw-ticket.ensures.drawn in let r = c.reach.ensures.took in
    let k = came c.args.self.table.shared.key.opened.value g.K.Turns.step g.K.Turns.may c.args.pass.me c.draw-ticket.new.pass.me c.reach.new.pass.me d.0 r.0 None r.1 d.1 r.2 r.3 in
    let t = closed g.K.Turns.step g.K.Turns.may c.args.self.table.shared.key _ _ c.args.pass.me.0 c.reach.new.pass.me.0 k.0 _ _ c.take-state.result (view_is c.reach.new.pass.me (seeing k.0 (at_stage (Served r.0 None) c.args.pass.me.0)) [] k.2) c.close_with-closed.ensures.values.2 c.take-state.ensures.value in
    let is : t.0 ≡ c.take-state.result = sym t.1 in (
      k.0,
      k.3,
      record {
        legal = subst (λ (x : g.row.T.Denot). Legal g.K.Turns.step g.K.Turns.may c.args.self.table.shared.key.opened.value (c.args.pass.me.0.seen ++ k.0) x) is t.2;
        numbered = t.3;
      },
    )

pub returns-clause-whole : goal.returns-clause-whole
returns-clause-whole g c = λ all. let d = c.draw-ticket.ensures.drawn in let r = c.reach.ensures.took in
    let k = came c.args.self.table.shared.key.opened.value g.K.Turns.step g.K.Turns.may c.args.pass.me c.draw-ticket.new.pass.me c.reach.new.pass.me d.0 r.0 None r.1 d.1 r.2 r.3 in
    let t = closed g.K.Turns.step g.K.Turns.may c.args.self.table.shared.key _ _ c.args.pass.me.0 c.reach.new.pass.me.0 k.0 _ _ c.take-state.result (view_is c.reach.new.pass.me (seeing k.0 (at_stage (Served r.0 None) c.args.pass.me.0)) [] k.2) c.close_with-closed.ensures.values.2 c.take-state.ensures.value in
    let is : t.0 ≡ c.take-state.result = sym t.1 in
    let w = whole g.K.Turns.step g.K.Turns.may c.args.self.table.shared.key c.args.pass.me.0 k.0 t.0 k.3 t.2 t.3 all in
    record {
      legal = subst (λ (x : g.row.T.Denot). Legal g.K.Turns.step g.K.Turns.may c.args.self.table.shared.key.opened.value c.args.pass.me.0.seen x) is w.1;
      numbered = w.0;
    }
