use Rattle.std.proofs.Common.{◌≡◌, ◌≤◌, ◌∙◌, ◌++◌, ◌∷◌, [], List, length, arith, sym, ap}
use Rattle.std.proofs.lemmas.List.{length-append}
use Rattle.negative_cover.specs.declared.negative_cover.Witness.{Witness}
use Rattle.cover_steps.specs.Sound.{IsWitness}
use Rattle.sampler.specs.Agreeing.{are_two, agreeing}
use Rattle.sampler.proofs.Agreeing.{agreeing_witnesses, all_among, among_old, among_told, some_case}
use Rattle.sampler.proofs.witnesses.push_unseen.Goals as goal
use Rattle.sampler.proofs.witnesses.push_unseen.Goals.{in-Some+then-is_new+in_ok-push, in-Some+else-is_new, in_default}

pub loop-pair-init : goal.loop-pair-init
loop-pair-init c = (among_old c.args.rows.now c.args.pairs.now c.args.found.now.items, omega arith)

-- one more is no fewer
no_fewer : (old found new : List Witness) (w : Witness) → new ≡ found ++ w ∷ [] → length old ≤ length found → length old ≤ length new
no_fewer old found new w e l = omega (arith, ap length e, length-append found (w ∷ []), l)

pub loop-pair-preserved : goal.loop-pair-preserved
loop-pair-preserved c =
    let r = c.args.rows.now in
    let p = c.pair-item.result in
    let old = c.args.found.now.items in
    let h = c.loop-pair.invariant in
    elim c.match-witness_of.branch [
      | in-Some+then-is_new+in_ok-push w ↦
          let told = some_case (are_two r p) (agreeing r p) w.in-Some.evidence (sym w.in-Some.is ∙ c.witness_of.ensures) in
          let made = ap (λ v. v.items) w.found-is ∙ w.in_ok-push.ensures.items in (
            among_told r c.args.pairs.now c.loop-pair.pair-index p w.in-Some.evidence old c.loop-pair.found.items c.match-witness_of.found.items c.loop-pair-test.true c.pair-item.is told.0 told.1 made h.0,
            no_fewer old c.loop-pair.found.items c.match-witness_of.found.items w.in-Some.evidence made h.1,
          )
      | in-Some+else-is_new w ↦ rw (ap (λ v. v.items) w.found-is) h
      | in_default w ↦ rw (ap (λ v. v.items) w.found-is) h
    ]

pub returns-clause-among : goal.returns-clause-among
returns-clause-among c = c.loop-pair.invariant.0

pub returns-clause-more : goal.returns-clause-more
returns-clause-more c = c.loop-pair.invariant.1

pub returns-clause-witnesses : goal.returns-clause-witnesses
returns-clause-witnesses c = λ old.
    all_among (IsWitness c.args.rows.now) c.args.rows.now c.args.pairs.now c.args.found.now.items c.loop-pair.found.items c.loop-pair.invariant.0 old (agreeing_witnesses c.args.rows.now c.args.pairs.now)
