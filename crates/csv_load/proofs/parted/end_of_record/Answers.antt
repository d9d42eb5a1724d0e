use Rattle.std.proofs.Common.{◌≡◌, ℕ, arith, length, subst}
use Rattle.std.proofs.lemmas.List.{drop_all}
use Rattle.csv_load.specs.WideRecords.{state_of}
use Rattle.csv_load.proofs.Parting.{IsInRecord, ends_here, ends_with_text, in_record, in_record_step}
use Rattle.csv_load.proofs.parted.end_of_record.Goals as goal

pub loop-index-init : goal.loop-index-init
loop-index-init c = in_record c.args.rest.now

pub returns-in_default-clause-ends : goal.returns-in_default-clause-ends
returns-in_default-clause-ends c =
    ends_here c.args.rest.now (state_of c.loop-index.place) c.loop-index.index c.loop-index-test.true c.loop-index.invariant c.in_default.ensures.stops c.in_default.ensures.line_end

pub loop-index-preserved : goal.loop-index-preserved
loop-index-preserved c =
    in_record_step c.args.rest.now (state_of c.loop-index.place) (state_of c.in-Some.next) c.loop-index.index c.loop-index-test.true c.loop-index.invariant c.in-Some.ensures.goes_on c.in-Some.ensures.place

pub returns-clause-ends : goal.returns-clause-ends
returns-clause-ends c =
    let rest = c.args.rest.now in
    let ended : c.loop-index.index ≡ length rest = omega (arith, c.loop-index-test.false, c.loop-index.auto.index-end) in
    let here : IsInRecord rest (length rest) (state_of c.loop-index.place) = subst (λ (i : ℕ). IsInRecord rest i (state_of c.loop-index.place)) ended c.loop-index.invariant in
    ends_with_text rest (state_of c.loop-index.place) (length rest) (drop_all (length rest) rest (omega arith)) here
