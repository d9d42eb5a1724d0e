use Rattle.std.proofs.Common.{◌≡◌, ◌∙◌, ◌<◌, ◌+◌, sym, ap, arith, ℕ, length, get_or}
use Rattle.rel_base.specs.PackedOps.{cells_of, op_at}
use Rattle.negative_cover.proofs.EndedRows.{ended-more_row, ended-more_none}
use Rattle.negative_cover.proofs.ended_rows.ended_in_turn.Goals as goal
use Rattle.negative_cover.proofs.ended_rows.ended_in_turn.Goals.{in-Some+in_ok-push, in_default}

pub loop-place-preserved : goal.loop-place-preserved
loop-place-preserved c =
    let now = c.args.batch.now in
    let op = op_at (cells_of now) c.change.result in
    let k = c.loop-place._place in
    let within : k < length now = let l = c.loop-place-test.true in let n = c.len-place-end.ensures in omega arith in
    let is : op ≡ get_or now k op = c.change.ensures op ∙ ap (λ (i : ℕ). get_or now i op) c.loop-place.invariant.place in
    let row = c.ended_row.ensures (cells_of now) in record {
      rows = elim c.match-ended_row.branch [
        | in-Some+in_ok-push w ↦ rw w.rows-is
            (w.in_ok-push.ensures.items ∙ ended-more_row now k op w.in-Some.row c.loop-place.rows.items within is (sym row ∙ w.in-Some.is) c.loop-place.invariant.rows)
        | in_default w ↦ rw w.rows-is
            (ended-more_none now k op c.loop-place.rows.items within is (sym row ∙ w.in_default.is) c.loop-place.invariant.rows)
      ];
      is = c.next-cursor.ensures.cursor;
      place = c.next-cursor.ensures.place ∙ ap (λ (i : ℕ). i + 1) c.loop-place.invariant.place;
    }
