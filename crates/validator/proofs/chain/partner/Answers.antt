use Rattle.std.proofs.Common.{◌<◌, ◌-◌, ◌&&◌, ◌∙◌, ℕ, get_or, length, sym, ap, arith}
use Rattle.std.proofs.lemmas.Bool.{and_parts}
use Rattle.std.proofs.lemmas.List.{get_or_read}
use Rattle.rel_base.specs.CodeTable.{live_at}
use Rattle.stripped_partition.specs.Stripped.{agree_on}
use Rattle.validator.proofs.Chained.{walking_start, walking_more, walking_none, flagged_live}
use Rattle.validator.proofs.chain.partner.Goals as goal

pub loop-number-init : goal.loop-number-init
loop-number-init c =
    let value = c.number.ensures.value in
    let positive = c.number.ensures.positive in
    let given = c.requires.given in
    let whole = c.requires.whole in
    let inside : c.number.result - 1 < length c.args.chain.now.before.items = omega arith in
    walking_start c.args.snapshot.now c.args.columns c.args.column c.args.row c.args.chain.now c.requires.column c.requires.chain c.requires.whole (omega arith) c.requires.given c.index-number.result.now
    (get_or_read c.args.chain.now.before.items (c.number.result - 1) c.index-number.result.now inside c.index-number.ensures 0 ∙ ap (λ (n : ℕ). get_or c.args.chain.now.before.items (n - 1) 0) value)

pub returns-then-is_alike : goal.returns-then-is_alike
returns-then-is_alike c =
    let is = c.of-other.ensures in
    let some = c.loop-number-test.true in
    let below = c.loop-number.invariant.below in
    let given = c.requires.given in
    let w = and_parts (live_at c.args.snapshot.now c.of-other.result) (agree_on c.args.snapshot.now c.args.columns c.of-other.result c.args.row) (sym c.is_alike.ensures ∙ c.if-is_alike.true) in record {
      live = flagged_live c.args.snapshot.now c.of-other.result (omega arith) (omega arith) w.0;
      before = omega arith;
      agrees = w.1;
      last = λ i g l e. let r = c.loop-number.invariant.rest i g l e in omega arith;
    }

pub loop-number-preserved : goal.loop-number-preserved
loop-number-preserved c =
    let below = c.loop-number.invariant.below in
    let given = c.requires.given in
    let whole = c.requires.whole in
    let some = c.loop-number-test.true in
    let inside : c.loop-number.number - 1 < length c.args.chain.now.before.items = omega arith in
    (walking_more c.args.snapshot.now c.args.columns c.args.column c.args.row c.args.chain.now c.requires.column c.requires.chain c.requires.whole c.loop-number.number c.index-number-in-loop-number.result.now
    some c.requires.given c.loop-number.invariant
    (ap (λ (n : ℕ). live_at c.args.snapshot.now n && agree_on c.args.snapshot.now c.args.columns n c.args.row) (sym c.of-other.ensures) ∙ sym c.is_alike.ensures ∙ c.if-is_alike.false)
    (get_or_read c.args.chain.now.before.items (c.loop-number.number - 1) c.index-number-in-loop-number.result.now inside c.index-number-in-loop-number.ensures 0)).0

pub returns : goal.returns
returns c =
    let none = c.loop-number-test.false in
    walking_none c.args.snapshot.now c.args.columns c.args.column c.args.row c.args.chain.now c.requires.column c.requires.chain c.requires.whole c.loop-number.number (omega arith) c.loop-number.invariant
