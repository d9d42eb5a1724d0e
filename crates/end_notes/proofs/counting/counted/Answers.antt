use Rattle.std.proofs.Common.{arith}
use Rattle.csv_load.specs.Records.{records_of}
use Rattle.end_notes.proofs.Remaining.{no_more, one_more}
use Rattle.end_notes.proofs.counting.counted.Goals as goal

pub returns-then-not-branch-clause-none : goal.returns-then-not-branch-clause-none
returns-then-not-branch-clause-none c none =
    let end = rw c.if-not-branch.true at c.in_ok-next.ensures.end in
    let m = no_more (records_of c.args.bytes.now) c.loop.counter c.loop.reader.left c.loop.invariant.left end.0 in
    let t = c.loop-test.true in omega arith

pub loop-preserved : goal.loop-preserved
loop-preserved c =
    let found = rw c.if-not-branch.false at c.in_ok-next.ensures.found in
    let o = one_more (records_of c.args.bytes.now) c.loop.counter c.loop.reader.left _ c.next.new.self.left c.loop.invariant.left found in
    record { left = o.0; some = o.1 }

pub returns-clause-none : goal.returns-clause-none
returns-clause-none c none =
    let end = rw c.if-branch.false at c.in_ok-next-2.ensures.end in
    let m = no_more (records_of c.args.bytes.now) c.loop.counter c.loop.reader.left c.loop.invariant.left end.0 in
    let n = c.loop.auto.counter-end in omega arith
