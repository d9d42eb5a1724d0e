use Rattle.std.proofs.Common.{◌<◌, ℕ, length, get_or, ap, sym, ◌∙◌, subst, arith}
use Rattle.std.proofs.lemmas.Bool.{eqb-true}
use Rattle.std.proofs.lemmas.Option.{same_Some}
use Rattle.col_set.specs.ColSet.{union}
use Rattle.col_set.proofs.EachColumn.{first-Some}
use Rattle.validator.proofs.KeptLists.{refining_end, refining_column, refining_last, refining_smaller, refining_next}
use Rattle.validator.proofs.cache.refine_kept.Goals as goal

pub returns-then-eq-clause-columns : goal.returns-then-eq-clause-columns
returns-then-eq-clause-columns c d =
    refining_last c.args.snapshot.now (λ d. union (get_or c.args.kept.now.items c.args.base d).columns c.args.columns) c.loop-first.kept.items c.loop-first.slots.items c.loop-first.k c.loop-first.left c.loop-first.invariant
    c.in-Some.first (first-Some c.loop-first.left c.in-Some.first c.in-Some.ensures.value).had
    (sym c.without.ensures ∙ eqb-true c.without.result c.empty.result (sym c.eq.ensures ∙ c.if-eq.true) ∙ c.empty.ensures) d

pub returns-then-eq-clause-by : goal.returns-then-eq-clause-by
returns-then-eq-clause-by c x e =
    subst (λ (n : ℕ). n < length c.args.snapshot.now.codes) (same_Some c.in-Some.first x e)
    (refining_column c.args.snapshot.now (λ d. union (get_or c.args.kept.now.items c.args.base d).columns c.args.columns) c.loop-first.kept.items c.loop-first.slots.items c.loop-first.k c.loop-first.left c.loop-first.invariant
    c.in-Some.first (first-Some c.loop-first.left c.in-Some.first c.in-Some.ensures.value).had)

pub lightest-column-requires-clause-first : goal.lightest-column-requires-clause-first
lightest-column-requires-clause-first c = (first-Some c.loop-first.left c.in-Some.first c.in-Some.ensures.value).had

pub push_refined-requires-clause-column : goal.push_refined-requires-clause-column
push_refined-requires-clause-column c =
    refining_column c.args.snapshot.now (λ d. union (get_or c.args.kept.now.items c.args.base d).columns c.args.columns) c.loop-first.kept.items c.loop-first.slots.items c.loop-first.k c.loop-first.left c.loop-first.invariant
    c.lightest-column.result c.lightest-column.ensures.column

pub loop-first-smaller : goal.loop-first-smaller
loop-first-smaller c =
    refining_smaller c.args.snapshot.now (λ d. union (get_or c.args.kept.now.items c.args.base d).columns c.args.columns) c.loop-first.kept.items c.loop-first.slots.items c.loop-first.k c.loop-first.left c.loop-first.invariant
    c.lightest-column.result c.lightest-column.ensures.column c.without-left.result c.without-left.ensures

pub loop-first-preserved : goal.loop-first-preserved
loop-first-preserved c =
    refining_next c.args.snapshot.now (λ d. union (get_or c.args.kept.now.items c.args.base d).columns c.args.columns) c.loop-first.kept.items c.loop-first.slots.items c.loop-first.k c.loop-first.left c.loop-first.invariant
    c.lightest-column.result c.lightest-column.ensures.column c.push_refined.new.kept.items c.push_refined.new.slots.items c.len-next.result c.without-left.result c.push_refined.ensures.kept
    (let l = c.in_ok-push_refined.ensures.len in let n = c.len-next.ensures in omega (arith, c.push_refined.new.kept.ok.0))
    (λ d. ap (λ (k : ℕ). (get_or c.push_refined.new.kept.items k d).columns) c.len-next.ensures ∙ c.in_ok-push_refined.ensures.columns d) c.without-left.ensures c.in_ok-push_refined.ensures.clear

pub returns-clause-columns : goal.returns-clause-columns
returns-clause-columns c =
    refining_end c.args.snapshot.now (λ d. union (get_or c.args.kept.now.items c.args.base d).columns c.args.columns) c.loop-first.kept.items c.loop-first.slots.items c.loop-first.k c.loop-first.left c.loop-first.invariant c.in_default.ensures.value
