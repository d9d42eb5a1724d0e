use Rattle.std.proofs.Common.{◌≡◌, ◌<◌, ℕ, List, length, get_or, Option, Some, true, sym, ap, ◌∙◌, subst, IfSome}
use Rattle.col_set.specs.ColSet.{has, minus, IsSubset}
use Rattle.col_set.proofs.EachColumn.{first-Some}
use Rattle.validator.specs.declared.cache.Kept.{Kept}
use Rattle.validator.proofs.KeptLists.{Nearest, nearest_of, nearest_or, one_chosen, none_chosen}
use Rattle.validator.proofs.cache.lightest_kept.Goals as goal

place : (kept : List Kept) (found : Option ℕ) → IfSome found (λ k. k < length kept) → (n : ℕ) → found ≡ Some n → n < length kept
place kept found l n e = subst (λ (o : Option ℕ). IfSome o (λ k. k < length kept)) e l

of : (kept : List Kept) (columns chosen : ℕ) (found : Option ℕ) → IsSubset chosen columns → IfSome found (λ k. k < length kept) → ((n : ℕ) (d : Kept) → found ≡ Some n → (get_or kept n d).columns ≡ chosen) → Nearest kept columns chosen found
of kept columns chosen found sub l e = nearest_of kept columns chosen found sub (place kept found l) e

pub loop-init : goal.loop-init
loop-init c = of c.args.kept.now c.args.columns c.empty-chosen.result c.place_of-best.result (none_chosen c.args.columns c.empty-chosen.result c.empty-chosen.ensures) c.place_of-best.ensures.place c.place_of-best.ensures.columns

pub lightest-requires-clause-first : goal.lightest-requires-clause-first
lightest-requires-clause-first c = (first-Some c.minus-left.result c.in-Some.first c.in-Some.ensures.value).had

pub loop-preserved : goal.loop-preserved
loop-preserved c =
    let h : has (minus c.args.columns c.loop.chosen) c.lightest.result ≡ true = ap (λ (x : ℕ). has x c.lightest.result) (sym c.minus-left.ensures) ∙ c.lightest.ensures.column in
    let sub : IsSubset c.with-chosen.result c.args.columns = subst (λ (x : ℕ). IsSubset x c.args.columns) (sym c.with-chosen.ensures)
    (one_chosen c.args.kept.now c.args.columns c.loop.chosen c.lightest.result c.loop.invariant.inside h) in
    subst (Nearest c.args.kept.now c.args.columns c.with-chosen.result) (sym c.or-best.ensures)
    (nearest_or c.args.kept.now c.args.columns c.loop.chosen c.with-chosen.result c.loop.best c.place_of.result c.loop.invariant
    (of c.args.kept.now c.args.columns c.with-chosen.result c.place_of.result sub c.place_of.ensures.place c.place_of.ensures.columns))
