use Rattle.std.proofs.Common.{◌≡◌, ◌++◌, ◌∷◌, [], subst}
use Rattle.rel_base.specs.RowState.{RowState}
use Rattle.profile_text.specs.Reports.{inclusion_lines}
use Rattle.profile_text.proofs.SessionAnswers.{reports-one}
use Rattle.profile_text.proofs.session.Session.reported.Goals as goal

pub returns-clause-text : goal.returns-clause-text
returns-clause-text c =
    reports-one c.args.name.now c.args.self.book.rows c.args.self.lines c.push_report_of.new.lines c.push_inclusions.new.lines c.in_ok-push_report_of.ensures.text
    (subst (λ (r : RowState). c.push_inclusions.new.lines ≡ c.push_report_of.new.lines ++ inclusion_lines (r ∷ [])) c.rows.ensures.rows c.in_ok-push_inclusions.ensures)
