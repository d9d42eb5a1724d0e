use Rattle.std.proofs.Common.{◌∙◌, sym, ap}
use Rattle.std.specs.List.{list_any}
use Rattle.col_set.specs.ColSet.{inter, subset}
use Rattle.least_sets.proofs.Branches.{all_kept, no_length, outermost_none, outermost_kept, outermost_left, outermost_all}
use Rattle.least_sets.proofs.outermost.outermost.Goals as goal

pub returns-then-len-gt-MANY-clause-all : goal.returns-then-len-gt-MANY-clause-all
returns-then-len-gt-MANY-clause-all g c = λ w h. all_kept c.args.agree_sets.items c.args.columns w h

pub loop-w-init : goal.loop-w-init
loop-w-init g c = outermost_none c.args.agree_sets.items c.args.columns c.sorted-rest.result.items c.new-kept.result.items c.sorted-rest.ensures.members c.new-kept.ensures.items

pub loop-w-preserved-in-Continue-1 : goal.loop-w-preserved-in-Continue-1
loop-w-preserved-in-Continue-1 g c = outermost_kept c.args.agree_sets.items c.args.columns c.loop-w.rest.items c.pop.new.self.items c.loop-w.kept.items c.push.new.self.items c.in-Some.w c.in-Some.ensures.items c.in_ok-push.ensures.items c.loop-w.invariant

pub loop-w-preserved : goal.loop-w-preserved
loop-w-preserved g c = outermost_left c.args.agree_sets.items c.args.columns c.loop-w.rest.items c.pop.new.self.items c.loop-w.kept.items c.in-Some.w c.in-Some.ensures.items
    (ap (list_any (λ v. subset (inter c.in-Some.w c.args.columns) v)) (sym c.as_slice.ensures.value) ∙ sym c.is_inside.ensures ∙ c.if-not-is_inside.false) c.loop-w.invariant

pub returns-clause-all : goal.returns-clause-all
returns-clause-all g c = outermost_all c.args.agree_sets.items c.args.columns c.loop-w.rest.items c.loop-w.kept.items (no_length c.loop-w.rest.items (sym c.loop-w.rest.ok.0 ∙ c.in_default.ensures.cases.0)) c.loop-w.invariant
