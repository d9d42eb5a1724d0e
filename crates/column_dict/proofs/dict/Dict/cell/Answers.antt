use Rattle.std.proofs.Common.{◌<◌, Some, length, slice_get, ap, ◌∙◌, sym, arith}
use Rattle.column_dict.specs.Coding.{Coding}
use Rattle.column_dict.proofs.Laid.{cell-nowhere}
use Rattle.column_dict.proofs.Coded.{codes}
use Rattle.column_dict.proofs.dict.Dict.cell.Goals as goal

pub returns-in-None : goal.returns-in-None
returns-in-None c =
    let kept = c.self.invariant in
    let n = codes c.self.inside.nulls c.self.inside.known.entries c.self.inside.places.items c.args.self.now c.self.view_is in
    let l : c.args.code < length c.self.inside.places.items = omega (arith, n, c.requires) in
    ap (λ (d : Coding). slice_get d.cells c.args.code) (sym c.self.view_is)
    ∙ cell-nowhere c.self.inside.known.entries c.self.inside.places.items c.args.code c.index.result.now l c.index.ensures c.in-None.ensures.entry
    ∙ ap Some (sym kept.0)
