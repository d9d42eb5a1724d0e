use Rattle.std.specs.Prelude.{nat_eq, not}
use Rattle.std.proofs.Common.{rules}
use Rattle.std.proofs.lemmas.Fn.{filter_same}
use Rattle.plain_base.proofs.plain_rows.remove_number.Goals as goal

pub returns : goal.returns
returns c = filter_same _ (λ i. not (nat_eq c.args.number i)) _ (λ x b f' k. search rules) _ _ c.retain.ensures.filtered
