use Rattle.std.proofs.Common.{◌≡◌, ◌<◌, ◌^◌, ℕ, length, true, sym, ap, ◌∙◌, subst}
use Rattle.std.proofs.lemmas.Bool.{ltb-true}
use Rattle.col_set.specs.ColSet.{all, subset}
use Rattle.col_set.specs.Members.{has-all}
use Rattle.col_set.specs.Subsets.{subset-true, below_from}
use Rattle.rel_base.specs.CodeTable.{CodeTable}
use Rattle.stripped_partition.specs.declared.path.Path.{Path}
use Rattle.first_rows.proofs.tests.are.Goals as goal

columns_below : (x n : ℕ) → subset x (all n) ≡ true → x < 2 ^ n
columns_below x n e = below_from x n (λ k h. ltb-true k n (sym (has-all n k) ∙ (subset-true e).each k h))

pub go_to-requires : goal.go_to-requires
go_to-requires c =
    let columns : c.columns.result ≡ length c.in_ok-path.path.table.codes = c.columns.ensures.value ∙ ap (λ (p : Path). length p.table.codes) (sym c.in_ok-path.ensures) in
    let inside : subset c.args.columns (all c.columns.result) ≡ true =
    ap (subset c.args.columns) (sym c.all.ensures) ∙ sym c.subset_of.ensures ∙ c.if-not-subset_of.false in
    subst (λ (n : ℕ). c.args.columns < 2 ^ n) columns (columns_below c.args.columns c.columns.result inside)
