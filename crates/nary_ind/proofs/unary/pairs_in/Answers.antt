use Rattle.std.proofs.Common.{arith, sym}
use Rattle.std.proofs.lemmas.Option.{get_or_from_slice_get}
use Rattle.nary_ind.proofs.Starts.{pair-more}
use Rattle.nary_ind.proofs.unary.pairs_in.Goals as goal

pub loop-place-preserved : goal.loop-place-preserved
loop-place-preserved c =
    pair-more c.loop-place.pairs.keys c.insert.new.self.keys c.args.found.now c.loop-place.place c.pair_at-pair.result (omega arith)
    (sym (get_or_from_slice_get c.args.found.now c.loop-place.place c.pair_at-pair.result c.pair_at-pair.result c.pair_at-pair.ensures)) c.in_ok-insert.ensures.updates.0 c.loop-place.invariant
