use Rattle.std.proofs.Common.{◌≡◌, ◌++◌, ◌∷◌, [], subst}
use Rattle.rel_base.specs.RowState.{RowState}
use Rattle.profile_text.specs.Reports.{inclusion_lines}
use Rattle.profile_text.proofs.SessionAnswers.{reports-one}
use Rattle.profile_text.proofs.reports.push_whole_report.Goals as goal

pub push_inclusions-requires-after_bounds : goal.push_inclusions-requires-after_bounds
push_inclusions-requires-after_bounds g c κs within = (c.rows.result.now ∷ [], c.in_ok-push.ensures [] c.new-columns.ensures)

pub returns-clause-text : goal.returns-clause-text
returns-clause-text g c =
    reports-one c.args.name.now c.args.book.now.rows c.args.lines.now c.push_report_of.new.lines c.push_inclusions.new.lines c.in_ok-found.ensures.text
    (subst (λ (r : RowState). c.push_inclusions.new.lines ≡ c.push_report_of.new.lines ++ inclusion_lines (r ∷ [])) c.rows.ensures.rows (c.in_ok-push_inclusions.ensures (c.rows.result.now ∷ []) (c.in_ok-push.ensures [] c.new-columns.ensures)))
