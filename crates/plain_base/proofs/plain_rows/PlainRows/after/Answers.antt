use Rattle.std.proofs.Common.{◌∙◌, ap, sym, length, arith}
use Rattle.rel_base.specs.Cells.{Row}
use Rattle.rel_base.specs.RowState.{RowState}
use Rattle.rel_base.specs.Batches.{after}
use Rattle.plain_base.proofs.Rows.{applied-names, as_wide, after_more, after_fails, after_all}
use Rattle.plain_base.proofs.plain_rows.PlainRows.after.Goals as goal

pub loop-place-init : goal.loop-place-init
loop-place-init c = record {
  names = ap (λ (r : RowState). r.names) c.in_ok-rows.ensures;
  rest = grind (arith, c.in_ok-rows.ensures, c.as_slice-ops.ensures.value, c.in_ok-copies.ensures);
}

pub applied-requires : goal.applied-requires
applied-requires c = as_wide _ _ c.index-ops-place.result (ap (λ (names : Row). length names) (sym c.loop-place.invariant.names)) (grind (arith, c.requires, c.as_slice-ops.ensures.value, c.in_ok-copies.ensures, c.index-ops-place.is, c.loop-place-test.true))

pub returns-in-Err : goal.returns-in-Err
returns-in-Err c = after_fails c.as_slice-ops.result.now c.loop-place.place c.loop-place.rows (after c.args.self.now c.args.batch.now) c.loop-place.invariant.rest c.index-ops-place.result c.loop-place-test.true c.index-ops-place.is c.in-Err.why (sym c.in_ok-changed.ensures ∙ c.in-Err.is)

pub loop-place-preserved : goal.loop-place-preserved
loop-place-preserved c = record {
  names = applied-names c.loop-place.rows c.in-Ok.changed c.index-ops-place.result (sym c.in_ok-changed.ensures ∙ c.in-Ok.is) ∙ c.loop-place.invariant.names;
  rest = after_more c.as_slice-ops.result.now c.loop-place.place c.loop-place.rows (after c.args.self.now c.args.batch.now) c.loop-place.invariant.rest c.index-ops-place.result c.loop-place-test.true c.index-ops-place.is c.in-Ok.changed (sym c.in_ok-changed.ensures ∙ c.in-Ok.is);
}

pub returns : goal.returns
returns c = after_all c.as_slice-ops.result.now c.loop-place.place c.loop-place.rows (after c.args.self.now c.args.batch.now) c.loop-place.invariant.rest c.loop-place-test.false
