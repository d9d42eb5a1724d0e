use Rattle.std.proofs.Common.{arith}
use Rattle.std.proofs.lemmas.List.{get_or_read}
use Rattle.col_set.proofs.Places.{Climbs-increasing}
use Rattle.validator.proofs.WithFirst.{with_none, with_more, with_few, with_apart, with_all, with_within}
use Rattle.validator.proofs.walk.pair_with_first.Goals as goal

pub loop-k-init : goal.loop-k-init
loop-k-init g c = with_none c.args.snapshot.now c.args.question.now.target c.args.question.now.from c.args.group.now c.args.steps.now

pub returns-then-are_apart-clause-pair : goal.returns-then-are_apart-clause-pair
returns-then-are_apart-clause-pair g c =
    with_apart c.args.snapshot.now c.args.question.now.target c.args.question.now.from c.args.group.now c.loop-k.k c.loop-k.steps c.are_apart.new.steps c.args.steps.now c.index-group-0.result c.index-group-k.result
    c.loop-k-test.true c.loop-k.invariant (get_or_read c.args.group.now 0 c.index-group-0.result c.requires.some c.index-group-0.is 0)
    (get_or_read c.args.group.now c.loop-k.k c.index-group-k.result c.loop-k-test.true c.index-group-k.is 0) c.are_apart.ensures.steps
    c.args.question.now.by c.requires.none (Climbs-increasing c.args.group.now c.requires.rising) (let l = c.loop-k.auto.k in omega arith) (c.are_apart.ensures.apart c.args.snapshot.now c.requires.target c.requires.codes c.if-are_apart.true)

pub returns-then-are_apart-clause-steps : goal.returns-then-are_apart-clause-steps
returns-then-are_apart-clause-steps g c =
    with_few c.args.snapshot.now c.args.question.now.target c.args.question.now.from c.args.group.now c.loop-k.k c.loop-k.steps c.are_apart.new.steps c.args.steps.now c.index-group-0.result c.index-group-k.result
    c.loop-k-test.true c.loop-k.invariant (get_or_read c.args.group.now 0 c.index-group-0.result c.requires.some c.index-group-0.is 0)
    (get_or_read c.args.group.now c.loop-k.k c.index-group-k.result c.loop-k-test.true c.index-group-k.is 0) c.are_apart.ensures.steps

pub loop-k-preserved : goal.loop-k-preserved
loop-k-preserved g c =
    with_more c.args.snapshot.now c.args.question.now.target c.args.question.now.from c.args.group.now c.loop-k.k c.loop-k.steps c.are_apart.new.steps c.args.steps.now c.index-group-0.result c.index-group-k.result
    c.loop-k-test.true c.loop-k.invariant (get_or_read c.args.group.now 0 c.index-group-0.result c.requires.some c.index-group-0.is 0)
    (get_or_read c.args.group.now c.loop-k.k c.index-group-k.result c.loop-k-test.true c.index-group-k.is 0) c.are_apart.ensures.steps
    (c.are_apart.ensures.alike c.args.snapshot.now c.requires.target c.requires.codes c.if-are_apart.false)

pub returns-clause-pair : goal.returns-clause-pair
returns-clause-pair g c = with_all c.args.snapshot.now c.args.question.now.target c.args.question.now.from c.args.group.now c.args.question.now.by c.loop-k.k c.loop-k.steps c.args.steps.now c.requires.none c.loop-k-test.false c.loop-k.invariant

pub returns-clause-steps : goal.returns-clause-steps
returns-clause-steps g c = with_within c.args.snapshot.now c.args.question.now.target c.args.question.now.from c.args.group.now c.loop-k.k c.loop-k.steps c.args.steps.now c.loop-k.invariant
