use Rattle.std.proofs.Common.{◌+◌, ◌∙◌, ℕ, List, length, sym, ap, subst, arith}
use Rattle.std.specs.List.{All}
use Rattle.std.proofs.lemmas.List.{get_or_read}
use Rattle.validator.specs.Verdicts.{IsViolation}
use Rattle.validator.specs.Chains.{IsTold}
use Rattle.validator.proofs.NewRows.{NewPairs, new_none, new_more, row_live, few_steps, found_new, one_more}
use Rattle.validator.proofs.newer.pairs_of_new.Goals as goal

pub loop-row-init : goal.loop-row-init
loop-row-init g c =
    new_none c.args.snapshot.now c.args.asked.now.left c.args.asked.now.target c.args.asked.now.most c.as_slice-row-items.result.now c.new-pairs.result.items c.args.steps.now c.new-pairs.ensures.items c.requires.asked.some

pub pair_with-pair-requires-clause-live : goal.pair_with-pair-requires-clause-live
pair_with-pair-requires-clause-live g c =
    row_live c.args.snapshot.now c.args.asked.now c.requires.asked c.as_slice-row-items.result.now (c.as_slice-row-items.ensures.value ∙ c.in_ok-rows.ensures) c.loop-row.row-index c.row-item.result c.loop-row-test.true
    (get_or_read c.as_slice-row-items.result.now c.loop-row.row-index c.row-item.result c.loop-row-test.true c.row-item.is 0)

pub pair_with-pair-requires-clause-pairs : goal.pair_with-pair-requires-clause-pairs
pair_with-pair-requires-clause-pairs g c =
    subst (All (λ p. IsViolation c.args.snapshot.now c.args.asked.now.left c.args.asked.now.target p.0 p.1)) (sym c.deref.ensures.value) c.loop-row.invariant.found.each

pub returns-in_err-add-clause-steps : goal.returns-in_err-add-clause-steps
returns-in_err-add-clause-steps g c =
    let few = c.loop-row.invariant.few in
    let one = c.pair_with-pair.ensures.steps in
    let l = c.loop-row-test.true in
    few_steps c.args.snapshot.now c.args.asked.now c.requires.asked c.as_slice-row-items.result.now (c.as_slice-row-items.ensures.value ∙ c.in_ok-rows.ensures) (c.loop-row.row-index + 1) c.pair_with-pair.new.steps c.args.steps.now (omega arith) (omega arith)

pub returns-then-len-asked-clause-steps : goal.returns-then-len-asked-clause-steps
returns-then-len-asked-clause-steps g c =
    let few = c.loop-row.invariant.few in
    let one = c.pair_with-pair.ensures.steps in
    let l = c.loop-row-test.true in
    few_steps c.args.snapshot.now c.args.asked.now c.requires.asked c.as_slice-row-items.result.now (c.as_slice-row-items.ensures.value ∙ c.in_ok-rows.ensures) (c.loop-row.row-index + 1) c.pair_with-pair.new.steps c.args.steps.now (omega arith) (omega arith)

pub returns-then-len-asked-clause-answer : goal.returns-then-len-asked-clause-answer
returns-then-len-asked-clause-answer g c =
    record {
      found =
          found_new c.args.snapshot.now c.args.asked.now c.requires.asked c.as_slice-row-items.result.now (c.as_slice-row-items.ensures.value ∙ c.in_ok-rows.ensures) (c.loop-row.row-index + 1) c.add.new.pairs.items
          (subst (NewPairs c.args.snapshot.now c.args.asked.now.left c.args.asked.now.target c.as_slice-row-items.result.now (c.loop-row.row-index + 1)) (sym c.in_ok-add.ensures)
          (new_more c.args.snapshot.now c.args.asked.now.left c.args.asked.now.target c.as_slice-row-items.result.now c.loop-row.row-index c.row-item.result c.loop-row-test.true
          (get_or_read c.as_slice-row-items.result.now c.loop-row.row-index c.row-item.result c.loop-row-test.true c.row-item.is 0) c.loop-row.pairs.items c.pair_with-pair.result c.loop-row.invariant.found
          (subst (λ (ps : List (ℕ × ℕ)). IsTold c.args.snapshot.now c.args.asked.now.left c.args.asked.now.target ps c.row-item.result c.pair_with-pair.result) c.deref.ensures.value c.pair_with-pair.ensures.told)))
          (λ none. absurd (let n = ap length none in let m = c.requires.asked.some in let l = c.if-len-asked.true in let k = c.len.ensures in omega (arith, c.add.new.pairs.ok.0)));
      few = (let few = one_more c.loop-row.pairs.items c.add.new.pairs.items c.pair_with-pair.result c.args.asked.now.most c.in_ok-add.ensures c.loop-row.invariant.fewer in omega (arith, c.add.new.pairs.ok.0));
    }

pub loop-row-preserved : goal.loop-row-preserved
loop-row-preserved g c =
    let few = c.loop-row.invariant.few in
    let one = c.pair_with-pair.ensures.steps in
    record {
      found =
          subst (NewPairs c.args.snapshot.now c.args.asked.now.left c.args.asked.now.target c.as_slice-row-items.result.now (c.loop-row.row-index + 1)) (sym c.in_ok-add.ensures)
          (new_more c.args.snapshot.now c.args.asked.now.left c.args.asked.now.target c.as_slice-row-items.result.now c.loop-row.row-index c.row-item.result c.loop-row-test.true
          (get_or_read c.as_slice-row-items.result.now c.loop-row.row-index c.row-item.result c.loop-row-test.true c.row-item.is 0) c.loop-row.pairs.items c.pair_with-pair.result c.loop-row.invariant.found
          (subst (λ (ps : List (ℕ × ℕ)). IsTold c.args.snapshot.now c.args.asked.now.left c.args.asked.now.target ps c.row-item.result c.pair_with-pair.result) c.deref.ensures.value c.pair_with-pair.ensures.told));
      fewer = (let m = c.if-len-asked.false in let k = c.len.ensures in omega (arith, c.add.new.pairs.ok.0));
      few = omega arith;
    }

pub returns-clause-answer : goal.returns-clause-answer
returns-clause-answer g c =
    let past = c.loop-row-test.false in
    record {
      found =
          found_new c.args.snapshot.now c.args.asked.now c.requires.asked c.as_slice-row-items.result.now (c.as_slice-row-items.ensures.value ∙ c.in_ok-rows.ensures) c.loop-row.row-index c.loop-row.pairs.items c.loop-row.invariant.found (λ none. past);
      few = (let fewer = c.loop-row.invariant.fewer in omega (arith, c.loop-row.pairs.ok.0));
    }

pub returns-clause-steps : goal.returns-clause-steps
returns-clause-steps g c =
    few_steps c.args.snapshot.now c.args.asked.now c.requires.asked c.as_slice-row-items.result.now (c.as_slice-row-items.ensures.value ∙ c.in_ok-rows.ensures) c.loop-row.row-index c.loop-row.steps c.args.steps.now c.loop-row.auto.row-index-end c.loop-row.invariant.few
