use Rattle.std.proofs.Common.{◌+◌, ◌∙◌, Bool, cond, take, ap, refl, sym, arith}
use Rattle.csv.specs.declared.parser.State.TheVariants as st
use Rattle.csv_load.specs.WideRecords.{state_of}
use Rattle.csv_load.proofs.Parting.{read_is, read_none, read_step, read_step_end, read_wide}
use Rattle.csv_load.proofs.parted.wide_size.Goals as goal
use Rattle.csv_load.proofs.parted.wide_size.Goals.{in-Some+then-ends+else-ended-limit, in-Some+else-ends, in_default}

pub loop-index-init : goal.loop-index-init
loop-index-init c = record { read = read_none; few = omega arith }

pub returns-then-ended-limit-clause-wide : goal.returns-then-ended-limit-clause-wide
returns-then-ended-limit-clause-wide c =
    let text = c.args.text.now in
    let step = read_step text (state_of c.loop-index.place) (state_of c.in-Some.next) c.loop-index.index c.loop-index.ended c.in-Some.ends
    c.loop-index-test.true c.loop-index.invariant.read c.in-Some.ensures.goes_on c.in-Some.ensures.place c.in-Some.ensures.ends in
    let here = read_is (take (c.loop-index.index + 1) text) (state_of c.in-Some.next) (state_of c.in-Some.next) (cond c.in-Some.ends (c.loop-index.ended + 1) c.loop-index.ended) (c.loop-index.ended + 1)
    step refl (ap (λ (b : Bool). cond b (c.loop-index.ended + 1) c.loop-index.ended) c.if-ends.true) in
    read_wide (take (c.loop-index.index + 1) text) (state_of c.in-Some.next) (c.loop-index.ended + 1) c.args.limit here (c.in-Some.ensures.before_field c.if-ends.true) c.if-ended-limit.true

pub loop-index-preserved : goal.loop-index-preserved
loop-index-preserved c =
    let text = c.args.text.now in
    let start = take (c.loop-index.index + 1) text in
    let there = c.loop-index-test.true in
    let before = c.loop-index.invariant in
    let few = before.few in
    elim c.match-after_byte.branch [
      | in-Some+then-ends+else-ended-limit w ↦
          let step = read_step text (state_of c.loop-index.place) (state_of w.in-Some.next) c.loop-index.index c.loop-index.ended w.in-Some.ends
          there before.read w.in-Some.ensures.goes_on w.in-Some.ensures.place w.in-Some.ensures.ends in
          let e = w.ended-is in record {
            read = read_is start (state_of w.in-Some.next) (state_of c.match-after_byte.place) (cond w.in-Some.ends (c.loop-index.ended + 1) c.loop-index.ended) c.match-after_byte.ended
                step (ap state_of (sym w.place-is)) (ap (λ (b : Bool). cond b (c.loop-index.ended + 1) c.loop-index.ended) w.if-ends.true ∙ sym e);
            few = omega (arith, e, few);
          }
      | in-Some+else-ends w ↦
          let step = read_step text (state_of c.loop-index.place) (state_of w.in-Some.next) c.loop-index.index c.loop-index.ended w.in-Some.ends
          there before.read w.in-Some.ensures.goes_on w.in-Some.ensures.place w.in-Some.ensures.ends in
          let e = w.ended-is in record {
            read = read_is start (state_of w.in-Some.next) (state_of c.match-after_byte.place) (cond w.in-Some.ends (c.loop-index.ended + 1) c.loop-index.ended) c.match-after_byte.ended
                step (ap state_of (sym w.place-is)) (ap (λ (b : Bool). cond b (c.loop-index.ended + 1) c.loop-index.ended) w.if-ends.false ∙ sym e);
            few = omega (arith, e, few);
          }
      | in_default w ↦
          let step = read_step_end text (state_of c.loop-index.place) c.loop-index.index c.loop-index.ended there before.read w.in_default.ensures.stops in
          let e = w.ended-is in record {
            read = read_is start st.StartRecord (state_of c.match-after_byte.place) 0 c.match-after_byte.ended step (ap state_of (sym w.place-is)) (sym e);
            few = omega (arith, e);
          }
    ]
