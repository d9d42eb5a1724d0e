use Rattle.std.proofs.Common.{◌∙◌, ap, not, sym}
use Rattle.least_sets.proofs.Drafting.{news_not_known}
use Rattle.least_sets.proofs.filing.Filing.noted.Goals as goal

pub filed-requires-clause-row_id : goal.filed-requires-clause-row_id
filed-requires-clause-row_id c = λ h. sym c.known-known.ensures.row_id ∙ h

pub filed-requires-clause-columns : goal.filed-requires-clause-columns
filed-requires-clause-columns c = λ a l h. sym (c.known-known.ensures.columns a l) ∙ h

pub returns-then-has_all-clause-news : goal.returns-then-has_all-clause-news
returns-then-has_all-clause-news c =
    sym (ap not c.if-has_all.true)
    ∙ news_not_known c.args.self.width c.args.z c.columns.result c.args.self.agree_sets c.known-known.result.row_id c.known-known.result.columns c.all.result c.minus.result c.has_all.result
    (record { of_row_id = c.known-known.ensures.row_id; of_columns = c.known-known.ensures.columns }) c.columns.ensures.width c.all.ensures c.minus.ensures c.has_all.ensures

pub returns-clause-news : goal.returns-clause-news
returns-clause-news c =
    sym (ap not c.if-has_all.false)
    ∙ news_not_known c.args.self.width c.args.z c.columns.result c.args.self.agree_sets c.known-known.result.row_id c.known-known.result.columns c.all.result c.minus.result c.has_all.result
    (record { of_row_id = c.known-known.ensures.row_id; of_columns = c.known-known.ensures.columns }) c.columns.ensures.width c.all.ensures c.minus.ensures c.has_all.ensures
