use Rattle.std.proofs.Common.{◌∙◌, ◌<◌, sym, ap, arith, take, Ok}
use Rattle.std.proofs.lemmas.List.{length-take-le}
use Rattle.rel_base.specs.PackedOps.{cells_of, op_at, place_of}
use Rattle.row_log.proofs.Batch.{from_last, one_more, nothing_back}
use Rattle.row_log.proofs.row_log.RowLog.take_back.Goals as goal

pub take_back_one-requires : goal.take_back_one-requires
take_back_one-requires c =
    let now = c.args.batch.now in
    let op = op_at (cells_of now) c.change.result in
    let some : 0 < place_of c.loop-cursor.cursor = let t = c.loop-cursor-test.true in let p = c.place.ensures in omega arith in
    let e = one_more now (place_of c.loop-cursor.cursor) (place_of c.previous-cursor.result) op c.previous-cursor.ensures.place some c.loop-cursor.invariant.is.within (c.change.ensures op) in
    let w = from_last c.loop-cursor.self c.requires.led.0 (take (place_of c.loop-cursor.cursor) now) (take (place_of c.previous-cursor.result) now) op e (c.loop-cursor.invariant.led c.requires.led.0 c.requires.led.1) in
    (cells_of now, w.0, w.2)

pub loop-cursor-preserved : goal.loop-cursor-preserved
loop-cursor-preserved c =
    let now = c.args.batch.now in
    let op = op_at (cells_of now) c.change.result in
    let some : 0 < place_of c.loop-cursor.cursor = let t = c.loop-cursor-test.true in let p = c.place.ensures in omega arith in
    let e = one_more now (place_of c.loop-cursor.cursor) (place_of c.previous-cursor.result) op c.previous-cursor.ensures.place some c.loop-cursor.invariant.is.within (c.change.ensures op) in record {
      is = c.previous-cursor.ensures.cursor;
      led = λ r l.
          let w = from_last c.loop-cursor.self r (take (place_of c.loop-cursor.cursor) now) (take (place_of c.previous-cursor.result) now) op e (c.loop-cursor.invariant.led r l) in
          let same = c.take_back_one.ensures (cells_of now) w.0 w.2 in record { is = l.is; after = w.1 ∙ ap (λ z. Ok z) (sym same) };
    }

pub returns : goal.returns
returns c r l =
    let now = c.args.batch.now in
    let none = length-take-le (place_of c.loop-cursor.cursor) now c.loop-cursor.invariant.is.within in
    nothing_back c.loop-cursor.self r (take (place_of c.loop-cursor.cursor) now) (let t = c.loop-cursor-test.false in let p = c.place.ensures in omega arith) (c.loop-cursor.invariant.led r l)
