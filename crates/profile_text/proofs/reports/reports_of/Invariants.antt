use Rattle.std.proofs.Common.{length, map}
use Rattle.rel_base.specs.RowState.{opened}
use Rattle.profile_text.proofs.Texts.{AreReports}
use Rattle.profile_text.proofs.reports.reports_of.Given as goal

abbrev pub invariant-loop-place : goal.invariant-loop-place
invariant-loop-place g l = AreReports l.names (map (opened l.nulls l.means.limits.rows) l.fn.relations.items) (length l.yielded) l.lines l.columns.widths.items l.columns.cells.items
