use Rattle.negative_cover.proofs.FoundPairs.{recent_put}
use Rattle.negative_cover.proofs.found_pairs.FoundPairs.add.Goals as goal

pub returns-clause-seen : goal.returns-clause-seen
returns-clause-seen c = record {
  sets = c.in_ok-add_unseen.ensures.seen;
  recent = recent_put c.args.self.now.recent.items c.resize.new.self.items c.args.self.now.pairs.items c.add_unseen.new.pairs.items 1024 _ c.slot_of.result c.args.pair
      c.in_ok-add_unseen.ensures.added c.requires.recent c.in_ok-resize.ensures.items;
}
