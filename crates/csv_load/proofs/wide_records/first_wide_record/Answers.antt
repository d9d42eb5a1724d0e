use Rattle.std.proofs.Common.{◌≡◌, ◌+◌, ◌-◌, ◌<◌, ◌∙◌, ℕ, List, Bool, cond, length, get_or, drop, ap, refl, sym, subst, arith}
use Rattle.csv.specs.declared.parser.State.TheVariants as st
use Rattle.csv_load.specs.Records.{records_of, without_marks}
use Rattle.csv_load.specs.WideRecords.{state_of, IsWideRecord}
use Rattle.csv_load.proofs.WideRecords.{scanned_none, scanned_step, scanned_wide, scanned_end, scanned_is}
use Rattle.csv_load.proofs.wide_records.first_wide_record.Goals as goal
use Rattle.csv_load.proofs.wide_records.first_wide_record.Goals.{in-Some+then-ends+else-ended-limit, in-Some+else-ends, in_default+else-rec-last}

pub loop-byte-init : goal.loop-byte-init
loop-byte-init c = record { scanned = scanned_none (without_marks c.args.bytes.now); few = omega arith; some = omega arith; most = omega (arith, c.requires) }

pub returns-then-ended-limit-clause-wide : goal.returns-then-ended-limit-clause-wide
returns-then-ended-limit-clause-wide c =
    let text = without_marks c.args.bytes.now in
    let n = ap length c.after_marks-byte-items.ensures in
    let t = c.loop-byte-test.true in
    let some = c.loop-byte.invariant.some in
    let step = scanned_step text (state_of c.loop-byte.place) (state_of c.in-Some.next) c.loop-byte.byte-index (c.loop-byte.rec - 1) c.loop-byte.ended (get_or c.after_marks-byte-items.result.now c.loop-byte.byte-index 0) c.in-Some.ends
    (omega (arith, n, t)) (ap (λ (xs : List ℕ). get_or xs c.loop-byte.byte-index 0) c.after_marks-byte-items.ensures) c.loop-byte.invariant.scanned c.in-Some.ensures.goes_on c.in-Some.ensures.place c.in-Some.ensures.ends in
    let here = scanned_is text (drop (c.loop-byte.byte-index + 1) text) (state_of c.in-Some.next) st.StartField (c.loop-byte.rec - 1) (c.loop-byte.rec - 1) (cond c.in-Some.ends (c.loop-byte.ended + 1) c.loop-byte.ended) (c.loop-byte.ended + 1)
    step (c.in-Some.ensures.before_field c.if-ends.true) refl (ap (λ (b : Bool). cond b (c.loop-byte.ended + 1) c.loop-byte.ended) c.if-ends.true) in
    let number : c.loop-byte.rec - 1 + 1 ≡ c.loop-byte.rec = omega (arith, some) in
    subst (λ (rec : ℕ). IsWideRecord c.args.limit (records_of c.args.bytes.now) rec) number
    (scanned_wide c.args.bytes.now (drop (c.loop-byte.byte-index + 1) text) (c.loop-byte.rec - 1) (c.loop-byte.ended + 1) c.args.limit here c.if-ended-limit.true)

pub loop-byte-preserved : goal.loop-byte-preserved
loop-byte-preserved c =
    let text = without_marks c.args.bytes.now in
    let rest = drop (c.loop-byte.byte-index + 1) text in
    let byte = get_or c.after_marks-byte-items.result.now c.loop-byte.byte-index 0 in
    let whole = c.loop-byte.rec - 1 in
    let n = ap length c.after_marks-byte-items.ensures in
    let t = c.loop-byte-test.true in
    let there : c.loop-byte.byte-index < length text = omega (arith, n, t) in
    let at : byte ≡ get_or text c.loop-byte.byte-index 0 = ap (λ (xs : List ℕ). get_or xs c.loop-byte.byte-index 0) c.after_marks-byte-items.ensures in
    let before = c.loop-byte.invariant in
    let few = before.few in
    let some = before.some in
    let most = before.most in
    elim c.match-after_byte.branch [
      | in-Some+then-ends+else-ended-limit w ↦
          let step = scanned_step text (state_of c.loop-byte.place) (state_of w.in-Some.next) c.loop-byte.byte-index whole c.loop-byte.ended byte w.in-Some.ends there at before.scanned w.in-Some.ensures.goes_on w.in-Some.ensures.place w.in-Some.ensures.ends in
          let e = w.ended-is in
          let r = w.rec-is in
          let below = w.if-ended-limit.false in record {
            scanned = scanned_is text rest (state_of w.in-Some.next) (state_of c.match-after_byte.place) whole (c.match-after_byte.rec - 1) (cond w.in-Some.ends (c.loop-byte.ended + 1) c.loop-byte.ended) c.match-after_byte.ended
                step (ap state_of (sym w.place-is)) (omega (arith, r)) (ap (λ (b : Bool). cond b (c.loop-byte.ended + 1) c.loop-byte.ended) w.if-ends.true ∙ sym e);
            few = omega (arith, e, below);
            some = omega (arith, r, some);
            most = omega (arith, r, most);
          }
      | in-Some+else-ends w ↦
          let step = scanned_step text (state_of c.loop-byte.place) (state_of w.in-Some.next) c.loop-byte.byte-index whole c.loop-byte.ended byte w.in-Some.ends there at before.scanned w.in-Some.ensures.goes_on w.in-Some.ensures.place w.in-Some.ensures.ends in
          let e = w.ended-is in
          let r = w.rec-is in record {
            scanned = scanned_is text rest (state_of w.in-Some.next) (state_of c.match-after_byte.place) whole (c.match-after_byte.rec - 1) (cond w.in-Some.ends (c.loop-byte.ended + 1) c.loop-byte.ended) c.match-after_byte.ended
                step (ap state_of (sym w.place-is)) (omega (arith, r)) (ap (λ (b : Bool). cond b (c.loop-byte.ended + 1) c.loop-byte.ended) w.if-ends.false ∙ sym e);
            few = omega (arith, e, few);
            some = omega (arith, r, some);
            most = omega (arith, r, most);
          }
      | in_default+else-rec-last w ↦
          let step = scanned_end text (state_of c.loop-byte.place) c.loop-byte.byte-index whole c.loop-byte.ended byte there at before.scanned w.in_default.ensures.stops in
          let e = w.ended-is in
          let r = w.rec-is in
          let below = w.if-rec-last.false in record {
            scanned = scanned_is text rest st.StartRecord (state_of c.match-after_byte.place) (whole + 1) (c.match-after_byte.rec - 1) 0 c.match-after_byte.ended
                step (ap state_of (sym w.place-is)) (omega (arith, r, some)) (sym e);
            few = omega (arith, e);
            some = omega (arith, r);
            most = omega (arith, r, below);
          }
    ]
