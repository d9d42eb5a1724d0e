use Rattle.std.proofs.Common.{◌∙◌, sym, subst}
use Rattle.bcnf_split.specs.Search.{IsFoundBy}
use Rattle.bcnf_split.proofs.Searching.{is_lt-true, is_lt-false, less_trans, not_before}
use Rattle.bcnf_split.proofs.search.stands_before.Goals as goal

pub returns-in-Some-clause-yes : goal.returns-in-Some-clause-yes
returns-in-Some-clause-yes c t y f = less_trans c.args.x c.in-Some.parting.left y (is_lt-true _ (sym c.lt.ensures ∙ t)) (subst (IsFoundBy y) c.in-Some.is f)

pub returns-in-Some-clause-no : goal.returns-in-Some-clause-no
returns-in-Some-clause-no c t = subst (IsFoundBy c.args.x) (sym c.in-Some.is) (not_before c.args.x c.in-Some.parting.left (is_lt-false _ (sym c.lt.ensures ∙ t)))
