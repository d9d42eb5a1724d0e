use Rattle.std.proofs.Common.{ℕ, sym, ap, ◌∙◌}
use Rattle.col_set.specs.ColSet.{has}
use Rattle.stripped_partition.proofs.Ways.{left_column, one_more}
use Rattle.stripped_partition.proofs.path.Path.take.Goals as goal

pub returns-then-has-clause-inside : goal.returns-then-has-clause-inside
returns-then-has-clause-inside c =
    one_more c.go_on.result c.args.columns c.args.self.now.columns c.args.column c.go_on.new.self.columns c.requires.inside
    (left_column c.args.columns c.columns-then-is_column.result c.args.column (ap (λ (z : ℕ). has z c.args.column) (sym c.minus.ensures) ∙ sym c.has.ensures ∙ c.if-has.true))
    c.go_on.ensures.there c.go_on.ensures.same
