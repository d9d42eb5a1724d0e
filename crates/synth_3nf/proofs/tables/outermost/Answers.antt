use Rattle.std.proofs.Common.{◌∙◌, ◌+◌, List, take, sym, ap, subst}
use Rattle.std.proofs.lemmas.List.{take_rest}
use Rattle.rel_base.specs.declared.dependency.Table.{Table}
use Rattle.synth_3nf.specs.Tables.{is_inside}
use Rattle.synth_3nf.proofs.Outer.{AreOuter, outer-begin, outer-kept, outer-skipped, outer-end}
use Rattle.synth_3nf.proofs.tables.outermost.Goals as goal
use Rattle.synth_3nf.proofs.tables.outermost.Goals.{then-not-is_inside+in_ok-push, else-not-is_inside}

pub loop-place-init : goal.loop-place-init
loop-place-init c = subst (AreOuter c.args.tables.now 0) (sym c.new-kept.ensures.items) (outer-begin c.args.tables.now)

pub loop-place-preserved : goal.loop-place-preserved
loop-place-preserved c = elim c.if-not-is_inside.branch [
  | then-not-is_inside+in_ok-push w ↦ outer-kept c.args.tables.now c.loop-place.place c.index-tables-place.result c.loop-place.kept.items c.loop-place-test.true c.index-tables-place.is c.loop-place.invariant
      c.if-not-is_inside.kept.items (ap (λ (rest : List Table). is_inside (take c.loop-place.place c.args.tables.now) rest c.index-tables-place.result) (sym (take_rest c.args.tables.now (c.loop-place.place + 1))) ∙ sym c.is_inside.ensures ∙ w.if-not-is_inside.true) (ap (λ m. m.items) w.kept-is ∙ w.in_ok-push.ensures.items)
  | else-not-is_inside w ↦ subst (λ (xs : List Table). AreOuter c.args.tables.now (c.loop-place.place + 1) xs) (sym (ap (λ m. m.items) w.kept-is))
      (outer-skipped c.args.tables.now c.loop-place.place c.index-tables-place.result c.loop-place.kept.items c.loop-place-test.true c.index-tables-place.is c.loop-place.invariant (ap (λ (rest : List Table). is_inside (take c.loop-place.place c.args.tables.now) rest c.index-tables-place.result) (sym (take_rest c.args.tables.now (c.loop-place.place + 1))) ∙ sym c.is_inside.ensures ∙ w.if-not-is_inside.false))
]

pub returns : goal.returns
returns c = outer-end c.args.tables.now c.loop-place.place c.loop-place.kept.items c.loop-place-test.false c.loop-place.invariant
