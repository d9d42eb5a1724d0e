use Rattle.std.specs.Prelude.{nat_lt}
use Rattle.std.proofs.Common.{rules}
use Rattle.std.proofs.lemmas.Fn.{filter_same}
use Rattle.plain_base.proofs.plain_rows.keep_below.Goals as goal

pub returns : goal.returns
returns c = filter_same _ (λ i. nat_lt i c.args.bound) _ (λ x b f' k. search rules) _ _ c.retain.ensures.filtered
