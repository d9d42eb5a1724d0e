use Rattle.std.proofs.Common.{◌∙◌, ◌∷◌, ◌++◌, [], sym, ap}
use Rattle.negative_cover.specs.declared.negative_cover.Witness.{Witness}
use Rattle.sampler.specs.Agreeing.{are_two, agreeing}
use Rattle.sampler.proofs.Agreeing.{some_case, none_case, agreeing_none, agreeing_all, agreeing_more, agreeing_same, witnesses_with}
use Rattle.sampler.proofs.witnesses.push_witnesses.Goals as goal
use Rattle.sampler.proofs.witnesses.push_witnesses.Goals.{in-Some+in_ok-push, in_default}

pub loop-pair-init : goal.loop-pair-init
loop-pair-init c = agreeing_none c.args.rows.now c.args.found.now.items

pub loop-pair-preserved : goal.loop-pair-preserved
loop-pair-preserved c =
    let r = c.args.rows.now in
    let p = c.pair-item.result in
    elim c.match-witness_of.branch [
      | in-Some+in_ok-push w ↦
          let told = some_case (are_two r p) (agreeing r p) w.in-Some.witness (sym w.in-Some.is ∙ c.witness_of.ensures) in
          ap (λ v. v.items) w.found-is ∙ w.in_ok-push.ensures.items ∙ ap (λ (x : Witness). c.loop-pair.found.items ++ x ∷ []) told.1
          ∙ agreeing_more r c.args.pairs.now c.loop-pair.pair-index p c.args.found.now.items c.loop-pair.found.items c.loop-pair-test.true c.pair-item.is c.loop-pair.invariant told.0
      | in_default w ↦ ap (λ v. v.items) w.found-is
          ∙ agreeing_same r c.args.pairs.now c.loop-pair.pair-index p c.args.found.now.items c.loop-pair.found.items c.loop-pair-test.true c.pair-item.is c.loop-pair.invariant
          (none_case (are_two r p) (agreeing r p) (sym w.in_default.is ∙ c.witness_of.ensures))
    ]

pub returns-clause-exactly : goal.returns-clause-exactly
returns-clause-exactly c = agreeing_all c.args.rows.now c.args.pairs.now c.loop-pair.pair-index c.args.found.now.items c.loop-pair.found.items c.loop-pair-test.false c.loop-pair.invariant

pub returns-clause-witnesses : goal.returns-clause-witnesses
returns-clause-witnesses c = witnesses_with c.args.rows.now c.args.pairs.now c.args.found.now.items c.loop-pair.found.items
    (agreeing_all c.args.rows.now c.args.pairs.now c.loop-pair.pair-index c.args.found.now.items c.loop-pair.found.items c.loop-pair-test.false c.loop-pair.invariant)
