use Rattle.std.proofs.Common.{◌≡◌, ◌∙◌, false, refl, sym, ap}
use Rattle.std.proofs.lemmas.Bool.{true≢false}
use Rattle.col_set.specs.Subsets.{subset-true, true-subset}
use Rattle.key_finder.specs.Keys.{told_apart}
use Rattle.key_finder.proofs.PlainTests.{trying_start, trying_smaller, trying_more, trying_fails, trying_end}
use Rattle.key_finder.proofs.tests.plain.is_key.Goals as goal

pub returns-then-not-subset_of : goal.returns-then-not-subset_of
returns-then-not-subset_of c = (
  λ e. absurd (true≢false (sym e)),
  λ k. absurd (true≢false (sym (true-subset k.inside) ∙ sym c.if-not-subset_of.ensures)),
)

pub returns-then-is_told_apart : goal.returns-then-is_told_apart
returns-then-is_told_apart c = (
  λ e. absurd (true≢false (sym e)),
  λ k. absurd (true≢false (c.if-is_told_apart.ensures ∙ k.stands)),
)

pub loop-column-init : goal.loop-column-init
loop-column-init c = trying_start c.args.agree_sets.now c.args.columns c.args.x (subset-true (sym c.if-not-subset_of.ensures)) (sym c.if-is_told_apart.ensures)

pub returns-then-not-is_told_apart : goal.returns-then-not-is_told_apart
returns-then-not-is_told_apart c = (
  λ e. absurd (true≢false (sym e)),
  λ k. absurd (trying_fails c.args.agree_sets.now c.args.columns c.args.x c.loop-column.left c.loop-column.invariant c.in-Some.column c.in-Some.ensures.value
      (ap (told_apart c.args.agree_sets.now c.args.columns) (sym c.without.ensures) ∙ sym c.if-not-is_told_apart.ensures) k),
)

pub loop-column-smaller : goal.loop-column-smaller
loop-column-smaller c = trying_smaller c.args.agree_sets.now c.args.columns c.args.x c.loop-column.left c.loop-column.invariant c.in-Some.column c.without-left.result c.in-Some.ensures.value c.without-left.ensures

pub loop-column-preserved : goal.loop-column-preserved
loop-column-preserved c = trying_more c.args.agree_sets.now c.args.columns c.args.x c.loop-column.left c.loop-column.invariant c.in-Some.column c.without-left.result c.in-Some.ensures.value c.without-left.ensures
    (ap (told_apart c.args.agree_sets.now c.args.columns) (sym c.without.ensures) ∙ sym c.if-not-is_told_apart.ensures)

pub returns : goal.returns
returns c = (λ e. trying_end c.args.agree_sets.now c.args.columns c.args.x c.loop-column.left c.loop-column.invariant c.in_default.ensures.value, λ k. refl)
