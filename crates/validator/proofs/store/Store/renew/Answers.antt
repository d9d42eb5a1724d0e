use Rattle.std.proofs.Common.{◌∙◌, sym, ap, ap₂, subst, length, arith}
use Rattle.rel_base.specs.CodeTable.{CodeTable}
use Rattle.validator.specs.Kept.{AreWeights}
use Rattle.validator.specs.Links.{AreLinks, linked_of}
use Rattle.validator.proofs.store.Store.renew.Goals as goal

pub invariant_of-self : goal.invariant_of-self
invariant_of-self c = (
  λ k d l. absurd (let n = ap length c.of.ensures.kept in let e = ap (λ cache. length cache.kept.items) c.replace-cache.ensures.after in omega arith),
  subst (λ cache. AreWeights c.replace-last.new.dest.value cache.weights) (sym c.replace-cache.ensures.after) (c.of.ensures.weights c.replace-last.new.dest.value),
  c.self.invariant.2,
  subst (λ (s : CodeTable). AreLinks s c.self.inside.links.items)
      (sym (c.kept_earlier-earlier.ensures ∙ ap₂ (λ last e. linked_of (λ z. z.value) last.value e) c.replace-last.ensures.value c.take.ensures.value)) c.self.invariant.3,
)
