use Rattle.std.proofs.Common.{◌+◌, arith, take, subst, ℕ}
use Rattle.std.proofs.lemmas.List.{take_rest}
use Rattle.csv.specs.declared.parser.State.{State}
use Rattle.csv_load.proofs.Cuts.{Stands, is_cut, stands_none, stands_step}
use Rattle.csv_load.proofs.cutting.cut_by_bytes.Goals as goal

pub loop-index-init : goal.loop-index-init
loop-index-init c = stands_none

pub loop-index-preserved : goal.loop-index-preserved
loop-index-preserved c = stands_step c.args.text.now c.loop-index.place c.place_after-place.result c.loop-index.index c.loop-index-test.true c.loop-index.invariant c.place_after-place.ensures

pub returns-then-begins_record : goal.returns-then-begins_record
returns-then-begins_record c =
    let text = c.args.text.now in
    let size : ℕ = c.loop-index.index + 1 in
    let there = c.loop-index-test.true in
    let stands = stands_step text c.loop-index.place c.place_after-place.result c.loop-index.index there c.loop-index.invariant c.place_after-place.ensures in
    is_cut text size (omega (arith, there)) c.requires (rw (take_rest text size) at (c.begins_record.ensures c.if-begins_record.true))
    (subst (λ (s : State). Stands (take size text) s) (c.is_before_record.ensures c.if-is_before_record.true) stands)
