use Rattle.std.proofs.lemmas.List.Elements.{All-pop}
use Rattle.validator.specs.Links.{IsLink}
use Rattle.validator.proofs.links.carried.Goals as goal

pub loop-link-preserved : goal.loop-link-preserved
loop-link-preserved c = record {
  old = (All-pop (IsLink c.args.earlier.now) c.loop-link.old.items c.pop.new.self.items c.pop.result c.pop.ensures.items c.loop-link.invariant.old).0;
  new = c.add_link.ensures c.args.snapshot.now c.loop-link.invariant.new c.carried-carried.ensures;
}
