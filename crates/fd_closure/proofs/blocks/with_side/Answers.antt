use Rattle.std.proofs.Common.{◌∙◌, sym}
use Rattle.fd_closure.proofs.Filing.{side_some, side_other, side_none}
use Rattle.fd_closure.proofs.blocks.with_side.Goals as goal

pub returns-in_default : goal.returns-in_default
returns-in_default c = sym (side_none c.args.sides.now c.args.x c.args.place c.args.reached (sym c.side_at.ensures ∙ c.in_default.is))

pub returns-then-not-subset_of : goal.returns-then-not-subset_of
returns-then-not-subset_of c = sym (side_other c.args.sides.now c.args.x c.args.place c.args.reached c.in-Some.side (sym c.side_at.ensures ∙ c.in-Some.is) (sym c.subset_of.ensures ∙ c.if-not-subset_of.true))

pub returns : goal.returns
returns c = c.union.ensures ∙ sym (side_some c.args.sides.now c.args.x c.args.place c.args.reached c.in-Some.side (sym c.side_at.ensures ∙ c.in-Some.is) (sym c.subset_of.ensures ∙ c.if-not-subset_of.false))
