use Rattle.std.proofs.Common.{◌<◌, ◌∙◌, length, sym, arith}
use Rattle.negative_cover.proofs.FoundPairs.{recent_at}
use Rattle.negative_cover.proofs.found_pairs.FoundPairs.is_recent.Goals as goal

pub returns-then-slot-len : goal.returns-then-slot-len
returns-then-slot-len c =
    let within : c.slot_of-slot.result < length c.args.self.now.recent.items = (let t = c.if-slot-len.true in let l = c.len.ensures in omega arith) in
    λ same. recent_at c.args.self.now.recent.items c.args.self.now.pairs.items c.slot_of-slot.result c.args.agree c.index.result.now within c.index.ensures (sym c.eq.ensures ∙ same) c.requires.recent
