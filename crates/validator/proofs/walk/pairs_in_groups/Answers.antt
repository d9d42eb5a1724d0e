use Rattle.std.proofs.Common.{◌≡◌, ◌<◌, ◌+◌, ℕ, List, sym, ap, subst, arith, length}
use Rattle.validator.proofs.Soundness.{Gathered, seen_few, seen_more, found_few, gathered_more, found, group_some, group_positive, group_rising}
use Rattle.validator.proofs.walk.pairs_in_groups.Goals as goal

below : (k end n : ℕ) → k < end → end ≡ n → k < n
below k end n l e = omega arith

pub pair_of_group-requires-clause-some : goal.pair_of_group-requires-clause-some
pair_of_group-requires-clause-some g c =
    group_some c.args.snapshot.now c.args.question.now.by c.args.question.now.target c.args.question.now.from c.args.partition.now c.requires.of c.loop-k.k c.group.result.now
    (below _ _ _ c.loop-k-test.true c.group_count-k-end.ensures) c.group.ensures

pub pair_of_group-requires-clause-positive : goal.pair_of_group-requires-clause-positive
pair_of_group-requires-clause-positive g c =
    group_positive c.args.snapshot.now c.args.question.now.by c.args.question.now.target c.args.question.now.from c.args.partition.now c.requires.of c.loop-k.k c.group.result.now
    (below _ _ _ c.loop-k-test.true c.group_count-k-end.ensures) c.group.ensures

pub pair_of_group-requires-clause-rising : goal.pair_of_group-requires-clause-rising
pair_of_group-requires-clause-rising g c =
    group_rising c.args.snapshot.now c.args.question.now.by c.args.question.now.target c.args.question.now.from c.args.partition.now c.requires.of c.loop-k.k c.group.result.now
    (below _ _ _ c.loop-k-test.true c.group_count-k-end.ensures) c.group.ensures

pub returns-in_err-pair-clause-steps : goal.returns-in_err-pair-clause-steps
returns-in_err-pair-clause-steps g c =
    found_few c.args.snapshot.now c.args.question.now.by c.args.question.now.target c.args.question.now.from c.args.partition.now c.requires.of c.loop-k.k c.group.result.now
    (below _ _ _ c.loop-k-test.true c.group_count-k-end.ensures) c.group.ensures c.args.question.now.most c.loop-k.pairs.items c.loop-k.slots.items c.loop-k.steps c.pair_of_group.new.steps c.args.steps.now c.loop-k.invariant c.pair_of_group.ensures.steps

pub returns-in_err-add-clause-steps : goal.returns-in_err-add-clause-steps
returns-in_err-add-clause-steps g c =
    found_few c.args.snapshot.now c.args.question.now.by c.args.question.now.target c.args.question.now.from c.args.partition.now c.requires.of c.loop-k.k c.group.result.now
    (below _ _ _ c.loop-k-test.true c.group_count-k-end.ensures) c.group.ensures c.args.question.now.most c.loop-k.pairs.items c.loop-k.slots.items c.loop-k.steps c.pair_of_group.new.steps c.args.steps.now c.loop-k.invariant c.pair_of_group.ensures.steps

pub returns-then-len-question-clause-pairs : goal.returns-then-len-question-clause-pairs
returns-then-len-question-clause-pairs g c x e held =
    found c.args.snapshot.now c.args.question.now.by c.args.question.now.target c.args.question.now.from c.args.partition.now c.requires.target c.requires.column (c.loop-k.k + 1) c.add.new.pairs.items
    (subst (Gathered c.args.snapshot.now c.args.question.now.by c.args.question.now.target c.args.question.now.from c.args.partition.now (c.loop-k.k + 1)) (sym c.in_ok-add.ensures)
    (gathered_more c.args.snapshot.now c.args.question.now.by c.args.question.now.target c.args.question.now.from c.args.partition.now c.loop-k.k c.group.result.now
    (below _ _ _ c.loop-k-test.true c.group_count-k-end.ensures) c.group.ensures c.loop-k.pairs.items c.in_ok-pair.pair c.loop-k.invariant.gathered c.in_ok-pair.ensures.pair))
    (λ none. absurd (let n = ap (λ (xs : List (ℕ × ℕ)). length xs) none in let m = c.requires.some in let l = c.if-len-question.true in let k = c.len.ensures in omega (arith, c.add.new.pairs.ok.0)))
    x e held

pub returns-then-len-question-clause-steps : goal.returns-then-len-question-clause-steps
returns-then-len-question-clause-steps g c =
    found_few c.args.snapshot.now c.args.question.now.by c.args.question.now.target c.args.question.now.from c.args.partition.now c.requires.of c.loop-k.k c.group.result.now
    (below _ _ _ c.loop-k-test.true c.group_count-k-end.ensures) c.group.ensures c.args.question.now.most c.loop-k.pairs.items c.loop-k.slots.items c.loop-k.steps c.pair_of_group.new.steps c.args.steps.now c.loop-k.invariant c.pair_of_group.ensures.steps

pub loop-k-preserved : goal.loop-k-preserved
loop-k-preserved g c =
    let l : length c.add.new.pairs.items < c.args.question.now.most = (let m = c.if-len-question.false in let k = c.len.ensures in omega (arith, c.add.new.pairs.ok.0)) in
    seen_more c.args.snapshot.now c.args.question.now.by c.args.question.now.target c.args.question.now.from c.args.partition.now c.requires.of c.loop-k.k c.group.result.now
    (below _ _ _ c.loop-k-test.true c.group_count-k-end.ensures) c.group.ensures c.args.question.now.most c.loop-k.pairs.items c.add.new.pairs.items c.in_ok-pair.pair c.loop-k.slots.items c.pair_of_group.new.slots.items
    c.loop-k.steps c.pair_of_group.new.steps c.args.steps.now c.loop-k.invariant c.in_ok-pair.ensures.pair c.in_ok-add.ensures l c.pair_of_group.ensures.steps c.in_ok-pair.ensures.clear

pub returns-clause-pairs : goal.returns-clause-pairs
returns-clause-pairs g c x e held =
    found c.args.snapshot.now c.args.question.now.by c.args.question.now.target c.args.question.now.from c.args.partition.now c.requires.target c.requires.column c.loop-k.k c.loop-k.pairs.items
    c.loop-k.invariant.gathered (λ none. let l = c.loop-k-test.false in let n = c.group_count-k-end.ensures in omega arith) x e held

pub returns-clause-steps : goal.returns-clause-steps
returns-clause-steps g c =
    seen_few c.args.snapshot.now c.args.question.now.by c.args.question.now.target c.args.question.now.from c.args.partition.now c.requires.of c.args.question.now.most c.loop-k.k c.loop-k.pairs.items c.loop-k.slots.items c.loop-k.steps c.args.steps.now c.loop-k.invariant
