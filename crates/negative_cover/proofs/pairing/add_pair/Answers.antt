use Rattle.std.proofs.Common.{inl, ◌≡◌, true, rules}
use Rattle.rel_base.specs.CodeTable.{live_at}
use Rattle.negative_cover.proofs.AllPairs.{compared_pair}
use Rattle.negative_cover.proofs.pairing.add_pair.Goals as goal

pub returns-clause-compared : goal.returns-clause-compared
returns-clause-compared c =
    let live : live_at c.args.snapshot.now c.args.pair.i ≡ true = search rules in
    compared_pair c.args.snapshot.now c.args.pair c.args.found.now.pairs.items c.add.new.self.pairs.items c.requires.positive c.requires.rising c.requires.live c.requires.agree c.in_ok-add.ensures.added (inl live)
