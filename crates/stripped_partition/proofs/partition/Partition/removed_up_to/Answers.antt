use Rattle.std.proofs.Common.{◌+◌, ◌<◌, ◌≤◌, [], length, get_or, refl, sym, subst, ◌∙◌, arith}
use Rattle.std.specs.List.{All}
use Rattle.stripped_partition.specs.Removed.{Room}
use Rattle.stripped_partition.proofs.Live.{length-live}
use Rattle.stripped_partition.proofs.Removing.{group_fits, removed-nil, removed_more, beyond}
use Rattle.stripped_partition.proofs.partition.Partition.removed_up_to.Goals as goal

pub outside_largest-requires-clause-given : goal.outside_largest-requires-clause-given
outside_largest-requires-clause-given c =
    let l = c.loop-k-test.true in let n = c.group_count-k-end.ensures in
    (group_fits c.args.snapshot.now c.args.self.now c.loop-k.k c.group.result.now c.requires.of (omega arith) c.group.ensures).given

pub outside_largest-requires-clause-some : goal.outside_largest-requires-clause-some
outside_largest-requires-clause-some c = subst (λ (r : Room). 0 < r.slots) (sym c.loop-k.invariant.2) c.requires.room.some

pub outside_largest-requires-clause-coded : goal.outside_largest-requires-clause-coded
outside_largest-requires-clause-coded c =
    subst (λ (r : Room). All (λ code. code < r.slots) (get_or c.args.snapshot.now.codes c.args.column [])) (sym c.loop-k.invariant.2)
    (c.requires.room.coded c.args.column [] c.requires.column)

pub outside_largest-requires-clause-room : goal.outside_largest-requires-clause-room
outside_largest-requires-clause-room c =
    let l = c.loop-k-test.true in let n = c.group_count-k-end.ensures in
    let few = (group_fits c.args.snapshot.now c.args.self.now c.loop-k.k c.group.result.now c.requires.of (omega arith) c.group.ensures).few in
    let rows = c.requires.room.rows in
    let h : length c.group.result.now ≤ c.args.tally.now.rows = omega arith in
    subst (λ (r : Room). length c.group.result.now ≤ r.rows) (sym c.loop-k.invariant.2) h

pub outside_largest-requires-clause-short : goal.outside_largest-requires-clause-short
outside_largest-requires-clause-short c =
    let l = c.loop-k-test.true in let n = c.group_count-k-end.ensures in
    let few = (group_fits c.args.snapshot.now c.args.self.now c.loop-k.k c.group.result.now c.requires.of (omega arith) c.group.ensures).few in
    let live = length-live c.args.snapshot.now in let most = c.columns-bounds.ensures.bounds.short in
    omega arith

pub loop-k-init : goal.loop-k-init
loop-k-init c = (removed-nil c.args.snapshot.now c.args.column, omega arith, refl)

pub returns-then-removed-from-clause-value : goal.returns-then-removed-from-clause-value
returns-then-removed-from-clause-value c =
    let l = c.loop-k-test.true in let n = c.group_count-k-end.ensures in let e = c.from.ensures in
    let more = removed_more c.args.snapshot.now c.args.column c.args.self.now c.loop-k.k c.group.result.now c.loop-k.removed c.from-removed.result (omega arith) c.group.ensures c.loop-k.invariant.0 (c.from-removed.ensures ∙ c.outside_largest.ensures.value) in
    beyond c.args.snapshot.now c.args.column c.args.self.now (c.loop-k.k + 1) c.args.most (c.loop-k.removed + c.from-removed.result) more (let t = c.if-removed-from.true in omega arith)

pub loop-k-preserved : goal.loop-k-preserved
loop-k-preserved c =
    let l = c.loop-k-test.true in let n = c.group_count-k-end.ensures in let e = c.from.ensures in let t = c.if-removed-from.false in (
      removed_more c.args.snapshot.now c.args.column c.args.self.now c.loop-k.k c.group.result.now c.loop-k.removed c.from-removed.result (omega arith) c.group.ensures c.loop-k.invariant.0 (c.from-removed.ensures ∙ c.outside_largest.ensures.value),
      omega arith,
      c.outside_largest.ensures.same ∙ c.loop-k.invariant.2,
    )
