use Rattle.std.proofs.Common.{◌∙◌, ◌+◌, take, get_or, Ok, refl, sym, ap, subst, arith, ℕ}
use Rattle.rel_base.specs.PackedOps.{cells_of, op_at}
use Rattle.rel_base.specs.Batches.{applied}
use Rattle.row_log.specs.Applying.{LeadsFrom}
use Rattle.row_log.proofs.Batch.{from_state, DidAll-after, as_wide, stepped, halted, answered, whole}
use Rattle.row_log.proofs.row_log.RowLog.apply_all.Goals as goal

pub apply_one-requires : goal.apply_one-requires
apply_one-requires c =
    as_wide c.args.self.now c.loop-k.self c.args.batch.now c.loop-k.k (op_at (cells_of c.args.batch.now) c.change.result) c.next.ensures.state
    c.requires (let l = c.loop-k-test.true in let n = c.len-k-end.ensures in omega arith) (c.change.ensures (op_at (cells_of c.args.batch.now) c.change.result) ∙ ap (λ (k : ℕ). get_or c.args.batch.now k (op_at (cells_of c.args.batch.now) c.change.result)) c.loop-k.invariant.place) c.loop-k.invariant.after

pub returns-in-Err : goal.returns-in-Err
returns-in-Err c =
    let same = halted c.in-Err.halt c.loop-k.self c.apply_one.new.self (applied c.loop-k.self (op_at (cells_of c.args.batch.now) c.change.result)) c.in-Err.ensures in
    let led : LeadsFrom (take c.loop-k.k c.args.batch.now) c.apply_one.new.self c.args.self.now =
    record { is = from_state c.args.self.now c.next.ensures.state; after = c.loop-k.invariant.after ∙ ap (λ z. Ok z) (sym same) } in
    answered c.in-Err.halt c.args.self.now c.loop-k.self c.apply_one.new.self c.take_back.new.self c.args.batch.now c.args.batch.now c.loop-k.k (op_at (cells_of c.args.batch.now) c.change.result) c.at.result
    c.at.ensures c.in-Err.ensures (c.take_back.ensures c.args.self.now (subst (λ (k : ℕ). LeadsFrom (take k c.args.batch.now) c.apply_one.new.self c.args.self.now) (sym c.loop-k.invariant.place) led)) (let l = c.loop-k-test.true in let n = c.len-k-end.ensures in omega arith) (c.change.ensures (op_at (cells_of c.args.batch.now) c.change.result) ∙ ap (λ (k : ℕ). get_or c.args.batch.now k (op_at (cells_of c.args.batch.now) c.change.result)) c.loop-k.invariant.place) c.loop-k.invariant.after refl

pub loop-k-preserved : goal.loop-k-preserved
loop-k-preserved c = record {
  after = stepped c.args.self.now c.loop-k.self c.apply_one.new.self c.args.batch.now c.loop-k.k (op_at (cells_of c.args.batch.now) c.change.result) (let l = c.loop-k-test.true in let n = c.len-k-end.ensures in omega arith) (c.change.ensures (op_at (cells_of c.args.batch.now) c.change.result) ∙ ap (λ (k : ℕ). get_or c.args.batch.now k (op_at (cells_of c.args.batch.now) c.change.result)) c.loop-k.invariant.place) c.loop-k.invariant.after c.in_default.ensures;
  is = c.next-cursor.ensures.cursor;
  place = c.next-cursor.ensures.place ∙ ap (λ (k : ℕ). k + 1) c.loop-k.invariant.place;
}

pub overflow_sub-inserted : goal.overflow_sub-inserted
overflow_sub-inserted c =
    let d = DidAll-after 1 c.args.self.now c.loop-k.self (take c.loop-k.k c.args.batch.now) (from_state c.args.self.now c.next.ensures.state) c.loop-k.invariant.after in
    let came = d.came in
    let a = c.number-next.ensures.value in let b = c.next.ensures.value in
    let e = c.number.ensures.value in let f = c.next-2.ensures.value in
    omega arith

pub overflow_sub-result : goal.overflow_sub-result
overflow_sub-result c =
    let d = DidAll-after 1 c.args.self.now c.loop-k.self (take c.loop-k.k c.args.batch.now) (from_state c.args.self.now c.next.ensures.state) c.loop-k.invariant.after in
    let came = d.came in let ended = d.ended in
    let a = c.number-next.ensures.value in let b = c.next.ensures.value in
    let e = c.number.ensures.value in let f = c.next-2.ensures.value in
    let g = c.live_len-live.ensures.value in let h = c.live_len.ensures.value in
    omega arith

pub returns : goal.returns
returns c =
    let f = c.loop-k-test.false in
    let inv = whole c.args.self.now c.loop-k.self c.args.batch.now c.args.batch.now c.loop-k.k (let n = c.len-k-end.ensures in omega arith) refl c.loop-k.invariant.after in
    let d = DidAll-after 1 c.args.self.now c.loop-k.self c.args.batch.now (from_state c.args.self.now c.next.ensures.state) inv in
    let came = d.came in let ended = d.ended in
    let a = c.number-next.ensures.value in let b = c.next.ensures.value in
    let e = c.number.ensures.value in let f = c.next-2.ensures.value in
    let g = c.live_len-live.ensures.value in let h = c.live_len.ensures.value in
    record { after = inv; inserted = omega arith; deleted = omega arith }
