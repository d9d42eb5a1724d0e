use Rattle.std.proofs.Common.{refl, sym, ◌∙◌, arith}
use Rattle.stripped_partition.proofs.SplitPair.{unsplit_more, split_here, split_nowhere, none_agrees, given}
use Rattle.stripped_partition.proofs.partition.Partition.splits_by.Goals as goal

pub first_and_differing-pair-requires-clause-given : goal.first_and_differing-pair-requires-clause-given
first_and_differing-pair-requires-clause-given c =
    let l = c.loop-k-test.true in let n = c.group_count-k-end.ensures in
    given c.args.snapshot.now c.args.column c.args.self.now c.loop-k.k c.group.result.now c.requires.of (omega arith) c.group.ensures

pub returns-then-is_some-clause-value : goal.returns-then-is_some-clause-value
returns-then-is_some-clause-value c =
    let l = c.loop-k-test.true in let n = c.group_count-k-end.ensures in
    split_here c.args.snapshot.now c.args.column c.args.self.now c.loop-k.k c.group.result.now c.first_and_differing-pair.result (omega arith) c.group.ensures
    c.first_and_differing-pair.ensures (sym c.is_some.ensures ∙ c.if-is_some.true) c.loop-k.invariant

pub returns-then-is_some-clause-none : goal.returns-then-is_some-clause-none
returns-then-is_some-clause-none c = none_agrees c.args.snapshot.now c.args.column c.args.self.now c.first_and_differing-pair.result c.requires.of (returns-then-is_some-clause-value c)

pub loop-k-preserved : goal.loop-k-preserved
loop-k-preserved c =
    let l = c.loop-k-test.true in let n = c.group_count-k-end.ensures in
    unsplit_more c.args.snapshot.now c.args.column c.args.self.now c.loop-k.k c.group.result.now c.first_and_differing-pair.result (omega arith) c.group.ensures
    c.first_and_differing-pair.ensures (sym c.is_some.ensures ∙ c.if-is_some.false) c.loop-k.invariant

pub returns-clause-value : goal.returns-clause-value
returns-clause-value c =
    let l = c.loop-k-test.false in let n = c.group_count-k-end.ensures in
    split_nowhere c.args.snapshot.now c.args.column c.args.self.now c.loop-k.k _ (omega arith) refl c.loop-k.invariant

pub returns-clause-none : goal.returns-clause-none
returns-clause-none c = none_agrees c.args.snapshot.now c.args.column c.args.self.now _ c.requires.of (returns-clause-value c)
