use Rattle.std.proofs.Common.{◌∙◌, ap, sym}
use Rattle.std.specs.Ordering.{is_eq}
use Rattle.inclusion_merge.specs.Order.{value_ties}
use Rattle.inclusion_merge.proofs.value.ValuePartialEq.eq.Goals as goal

pub returns : goal.returns
returns c = c.is_eq.ensures ∙ ap is_eq c.cmp.ensures ∙ sym (value_ties c.args.self.now c.args.other.now)
