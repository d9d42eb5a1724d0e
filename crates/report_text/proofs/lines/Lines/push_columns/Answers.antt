use Rattle.std.proofs.Common.{[], arith}
use Rattle.report_text.specs.Report.{column_line}
use Rattle.report_text.proofs.Numbered.{numbered-more, numbered-all}
use Rattle.report_text.proofs.lines.Lines.push_columns.Goals as goal

pub loop-place-preserved : goal.loop-place-preserved
loop-place-preserved c =
    numbered-more column_line c.args.names.now c.loop-place.place [] c.cell.result.now _ _ _ (omega arith) c.cell.ensures c.in_ok-push.ensures.ok c.loop-place.invariant

pub returns-clause-ok : goal.returns-clause-ok
returns-clause-ok c = numbered-all column_line c.args.names.now c.loop-place.place _ _ (omega arith) c.loop-place.invariant
