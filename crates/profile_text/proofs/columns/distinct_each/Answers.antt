use Rattle.std.proofs.Common.{◌+◌, List, sym, subst, take}
use Rattle.std.specs.List.{AllZip}
use Rattle.rel_base.specs.Cells.{Cell}
use Rattle.row_log.specs.Distinct.{AreDistinctCells}
use Rattle.cover_steps.proofs.Drafting.{AllZip-more}
use Rattle.profile_text.proofs.columns.distinct_each.Goals as goal

pub loop-column-preserved : goal.loop-column-preserved
loop-column-preserved c =
    let P = AreDistinctCells c.args.rows.now in
    subst (λ (fs : List (List Cell)). AllZip P (take (c.loop-column.column-index + 1) c.args.columns.now) fs) (sym c.in_ok-push.ensures.items)
    (AllZip-more P c.args.columns.now c.loop-column.column-index _ c.loop-column.found.items c.in_ok-distinct_cells.field-0 c.loop-column-test.true c.loop-column.invariant c.in_ok-distinct_cells.ensures)
