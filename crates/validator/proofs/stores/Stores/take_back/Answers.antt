use Rattle.std.proofs.Common.{◌≡◌, ◌∙◌, List, sym, subst}
use Rattle.std.specs.List.{All}
use Rattle.std.proofs.lemmas.List.Elements.{All-push}
use Rattle.rel_base.specs.CodeTable.{CodeTable}
use Rattle.validator.proofs.stores.Stores.take_back.Goals as goal

pub loop-place-preserved-in_ok-push : goal.loop-place-preserved-in_ok-push
loop-place-preserved-in_ok-push c = record {
  own = c.loop-place.invariant.own;
  others = subst (λ (others : List CodeTable). All (λ (other : CodeTable). other ≡ c.args.snapshot.now.value) others) (sym c.in_ok-push.ensures.items)
      (All-push (λ (other : CodeTable). other ≡ c.args.snapshot.now.value) c.loop-place.self.others.items c.renew.new.self c.loop-place.invariant.others (c.renew.ensures ∙ c.in_ok-clone.ensures.cases));
}
