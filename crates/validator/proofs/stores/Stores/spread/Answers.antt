use Rattle.std.proofs.Common.{◌≡◌, ◌∙◌, List, sym, subst}
use Rattle.std.specs.List.{All}
use Rattle.std.proofs.lemmas.List.Elements.{All-push}
use Rattle.rel_base.specs.CodeTable.{CodeTable}
use Rattle.validator.proofs.stores.Stores.spread.Goals as goal

pub loop-preserved : goal.loop-preserved
loop-preserved c = record {
  own = c.loop.invariant.own;
  others = subst (λ (others : List CodeTable). All (λ (other : CodeTable). other ≡ c.args.self.now.own) others) (sym c.in_ok-push.ensures.items)
      (All-push (λ (other : CodeTable). other ≡ c.args.self.now.own) c.loop.self.others.items c.in_ok-other.other c.loop.invariant.others (c.in_ok-other.ensures ∙ c.loop.invariant.own));
}

pub returns-in_err-push : goal.returns-in_err-push
returns-in_err-push c = record {
  own = c.loop.invariant.own;
  others = subst (λ (others : List CodeTable). All (λ (other : CodeTable). other ≡ c.args.self.now.own) others) (sym c.in_err-push.ensures.items) c.loop.invariant.others;
}
