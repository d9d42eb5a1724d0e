use Rattle.std.proofs.Common.{◌≡◌, rules, ℕ, [], subst, sym, ap, ◌∙◌}
use Rattle.atomic_table.specs.Table.{Splits}
use Rattle.desk_lock.specs.Rule.{Kept}
use Rattle.desk_lock.specs.Views.{kept_of, given_of}
use Rattle.desk_lock.specs.Passes.{view}
use Rattle.desk_lock.proofs.Homes.{splits}
use Rattle.desk_lock.proofs.Passing.{view_is, hand_is, kept_pass, given_pass, given_unborne}
use Rattle.desk_lock.proofs.desk.TicketDesk.cut.Goals as goal

pub split_seat-requires : goal.split_seat-requires
split_seat-requires g c = let p = c.args.pass.now in let own = c.requires.own in (
  own.of_desk,
  search rules,
  subst (λ (n : ℕ). Splits (Kept g.K.Turns.step g.K.Turns.may c.args.self.now.table.shared.key) p.id p.me.0 (kept_of n p.me.0) (given_of n p.me.0)) (sym c.requires.picked)
      (splits g.K.Turns.step g.K.Turns.may _ _ _ c.args._at own.idle c.requires.within.0 c.requires.within.1 own.heard),
)

pub returns-clause-own : goal.returns-clause-own
returns-clause-own g c = let e = c.split_seat.ensures in let own = c.requires.own in let p = c.args.pass.now in
    let kept : view c.split_seat.new.seat ≡ kept_of c.args._at (view p) = view_is c.split_seat.new.seat.me (kept_of g.G.Cut.at (view p)) p.me.1 e.2 ∙ ap (λ n. kept_of n (view p)) c.requires.picked in
    let given : view c.split_seat.result ≡ given_of c.args._at (view p) = view_is c.split_seat.result.me (given_of g.G.Cut.at (view p)) [] e.4 ∙ ap (λ n. given_of n (view p)) c.requires.picked in (
      kept_pass c.args.self.now p c.split_seat.new.seat c.args._at own e.0 (hand_is c.split_seat.new.seat.me (kept_of g.G.Cut.at (view p)) p.me.1 e.2 ∙ own.empty_handed) kept c.requires.within.0 c.requires.within.1,
      search rules,
      given_pass c.args.self.now p c.split_seat.result c.args._at own e.3 (hand_is c.split_seat.result.me (given_of g.G.Cut.at (view p)) [] e.4) given c.requires.within.0 c.requires.within.1,
    )

pub returns-clause-unborne : goal.returns-clause-unborne
returns-clause-unborne g c = let e = c.split_seat.ensures in let p = c.args.pass.now in
    given_unborne c.args.self.now p (view c.split_seat.result) c.args._at c.requires.own (view_is c.split_seat.result.me (given_of g.G.Cut.at (view p)) [] e.4 ∙ ap (λ n. given_of n (view p)) c.requires.picked) c.requires.within.0
