use Rattle.std.proofs.Common.{◌∙◌, ap}
use Rattle.col_set.specs.ColSet.{inter, size}
use Rattle.lossless_join.proofs.Filling.{place-within, place-cell}
use Rattle.lossless_join.proofs.parts.cell_in.Goals as goal

pub cell-requires : goal.cell-requires
cell-requires c = place-within c.args.columns c.args.column c.len.result _ c.requires.column (c.len.ensures.value ∙ ap size (c.inter.ensures ∙ ap (inter c.args.columns) c.all.ensures)) c.requires.wide

pub returns : goal.returns
returns c = c.cell.ensures ∙ place-cell c.args.columns c.args.column c.len.result c.args.part.now (c.len.ensures.value ∙ ap size (c.inter.ensures ∙ ap (inter c.args.columns) c.all.ensures))
