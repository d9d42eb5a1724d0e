use Rattle.std.proofs.Common.{◌∙◌, ◌++◌, ap, length}
use Rattle.rel_base.specs.RowState.{RowState}
use Rattle.profile_text.proofs.Texts.{report_text-of}
use Rattle.profile_text.proofs.reports.push_report_of.Goals as goal

pub returns-clause-text : goal.returns-clause-text
returns-clause-text c =
    c.in_ok-push_report.ensures.ok ∙ ap (λ text. c.args.lines.now ++ text) (report_text-of c.args.book.now.rows c.args.name.now c.names.result.now c.from.result c.in_ok-found.found
    (c.names.ensures.value ∙ ap (λ (r : RowState). r.names) c.rows-rows.ensures.rows)
    (c.from.ensures ∙ c.live_len.ensures.value ∙ ap (λ (r : RowState). length r.live) c.rows-rows.ensures.rows)
    c.in_ok-found.ensures)
