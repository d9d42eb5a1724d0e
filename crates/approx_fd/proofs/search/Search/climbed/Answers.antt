use Rattle.std.proofs.Common.{◌∙◌, ap, sym, subst}
use Rattle.col_set.specs.ColSet.{IsSubset}
use Rattle.col_set.specs.Subsets.{IsSubset-with}
use Rattle.approx_fd.specs.Search.{Searching}
use Rattle.approx_fd.proofs.Calls.{climbed-on}
use Rattle.approx_fd.proofs.search.Search.climbed.Goals as goal

pub returns-then-is_above-clause-climb : goal.returns-then-is_above-clause-climb
returns-then-is_above-clause-climb c = climbed-on c.args.self.now c.args.target c.args.climb.columns c.with.result c.args.column c.self.inside.most c.self.inside.snapshot.now c.in_ok-finer.finer c.is_above.result
    c.requires.climb.failing (c.is_free.ensures.apart c.if-not-is_free.false) c.with.ensures c.in_ok-finer.ensures.by
    (ap (λ (s : Searching). s.table) (c.self.view_is ∙ c.in_ok-finer.ensures.same))
    (ap (λ (s : Searching). s.most) (c.self.view_is ∙ c.in_ok-finer.ensures.same))
    c.is_above.ensures.above c.if-is_above.true

pub returns-then-is_above-clause-inside : goal.returns-then-is_above-clause-inside
returns-then-is_above-clause-inside c = subst (IsSubset c.args.climb.columns) (sym c.with.ensures) (IsSubset-with c.args.climb.columns c.args.column)
