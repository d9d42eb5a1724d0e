use Rattle.std.proofs.Common.{◌∙◌, ap, length}
use Rattle.rel_base.specs.Cells.{Row}
use Rattle.plain_base.proofs.Folds.{ok_is}
use Rattle.plain_base.proofs.Rows.{covers-sets}
use Rattle.plain_base.proofs.plain_rows.PlainRows.covers.Goals as goal

pub returns : goal.returns
returns c = ok_is c.least_covers.result _ _
    (covers-sets c.args.self.now c.len.result c.as_slice.result.now (c.len.ensures ∙ ap (λ (names : Row). length names) c.names.ensures.value) (c.as_slice.ensures.value ∙ c.in_ok-sets.ensures)) c.least_covers.ensures
