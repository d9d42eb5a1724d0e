use Rattle.std.proofs.Common.{ℕ, ◌^◌, ◌<◌, length, sym, ap, ◌∙◌, subst}
use Rattle.rel_base.specs.CodeTable.{CodeTable}
use Rattle.col_set.specs.ColSet.{IsSubset, first, minus}
use Rattle.col_set.specs.Subsets.{has_within, with_subset}
use Rattle.stripped_partition.proofs.Ways.{next_column, fewer_left, all_there}
use Rattle.stripped_partition.proofs.path.Path.take_rest.Goals as goal

pub go_on-requires : goal.go_on-requires
go_on-requires c =
    let value = c.in-Some.ensures.value ∙ ap first (c.minus.ensures ∙ ap (minus c.args.columns) c.columns.ensures) in
    has_within c.args.columns (length c.loop-column.self.table.codes) c.in-Some.column
    (subst (λ (s : CodeTable). c.args.columns < 2 ^ length s.codes) (sym c.loop-column.invariant.0) c.requires.columns)
    (next_column c.args.columns c.loop-column.self.columns c.in-Some.column value)

pub loop-column-smaller : goal.loop-column-smaller
loop-column-smaller c =
    let value = c.in-Some.ensures.value ∙ ap first (c.minus.ensures ∙ ap (minus c.args.columns) c.columns.ensures) in
    fewer_left c.args.columns c.loop-column.self.columns c.in-Some.column c.go_on.new.self.columns value c.in_ok-go_on.ensures.there

pub loop-column-preserved : goal.loop-column-preserved
loop-column-preserved c =
    let value = c.in-Some.ensures.value ∙ ap first (c.minus.ensures ∙ ap (minus c.args.columns) c.columns.ensures) in (
      c.in_ok-go_on.ensures.table ∙ c.loop-column.invariant.0,
      subst (λ (z : ℕ). IsSubset z c.args.columns) (sym c.in_ok-go_on.ensures.there)
          (with_subset c.in-Some.column c.loop-column.invariant.1 (next_column c.args.columns c.loop-column.self.columns c.in-Some.column value)),
    )

pub returns-clause-there : goal.returns-clause-there
returns-clause-there c =
    all_there c.args.columns c.loop-column.self.columns c.loop-column.invariant.1 (c.in_default.ensures.value ∙ ap first (c.minus.ensures ∙ ap (minus c.args.columns) c.columns.ensures))
