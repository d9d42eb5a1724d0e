use Rattle.std.proofs.Common.{◌∙◌, ap, length}
use Rattle.rel_base.specs.Cells.{Row}
use Rattle.plain_base.proofs.Pairs.{covers_found}
use Rattle.plain_base.proofs.pairwise.covers.Goals as goal

pub returns : goal.returns
returns c = covers_found c.least_covers.result c.args.nulls c.args.relation.now c.len-columns.result c.deref.result.now c.as_slice.result.now
    (c.len-columns.ensures ∙ ap (λ (names : Row). length names) c.names.ensures.value) (c.deref.ensures.value ∙ c.in_ok-rows.ensures) (c.as_slice.ensures.value ∙ c.in_ok-sets.ensures) c.least_covers.ensures
