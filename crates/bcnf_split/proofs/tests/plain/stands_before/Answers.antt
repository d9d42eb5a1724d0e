use Rattle.std.proofs.Common.{◌∙◌, sym, subst}
use Rattle.bcnf_split.specs.Search.{IsFoundAs}
use Rattle.bcnf_split.proofs.Searching.{is_lt-true, is_lt-false, less_trans, not_before}
use Rattle.bcnf_split.proofs.tests.plain.stands_before.Goals as goal

pub returns-in-Some-clause-yes : goal.returns-in-Some-clause-yes
returns-in-Some-clause-yes c t y f = less_trans c.args.x c.in-Some.other y (is_lt-true _ (sym c.lt.ensures ∙ t)) (subst (IsFoundAs y) c.in-Some.is f)

pub returns-in-Some-clause-no : goal.returns-in-Some-clause-no
returns-in-Some-clause-no c t = subst (IsFoundAs c.args.x) (sym c.in-Some.is) (not_before c.args.x c.in-Some.other (is_lt-false _ (sym c.lt.ensures ∙ t)))
