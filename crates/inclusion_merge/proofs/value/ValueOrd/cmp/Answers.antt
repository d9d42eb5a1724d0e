use Rattle.std.proofs.Common.{◌∙◌, sym}
use Rattle.inclusion_merge.proofs.Prefixes.{same_number, value_cmp-short}
use Rattle.inclusion_merge.proofs.value.ValueOrd.cmp.Goals as goal

pub returns-then-self-le-PREFIX : goal.returns-then-self-le-PREFIX
returns-then-self-le-PREFIX c =
    value_cmp-short c.args.self.now c.args.other.now c.self.inside.prefix c.other.inside.prefix c.self.inside.bytes.now c.other.inside.bytes.now c.self.view_is c.other.view_is c.self.invariant c.other.invariant
    (same_number _ _ (sym c.cmp.ensures ∙ c.in-Equal.is)) (same_number _ _ (sym c.cmp-in-Equal.ensures ∙ c.in-Equal-cmp.is)) c.if-self-le-PREFIX.true
