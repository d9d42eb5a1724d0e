use Rattle.std.proofs.Common.{◌<◌, Bool, false, length, rules}
use Rattle.std.proofs.lemmas.List.Edits.{map_over_more}
use Rattle.candidate_cover.proofs.cand_list.free_all.Goals as goal

pub loop-place-preserved : goal.loop-place-preserved
loop-place-preserved c =
    let l : c.loop-place.place < length c.args.helds.now.items = search rules in
    map_over_more (λ (h : Bool). false) c.args.helds.now.items c.loop-place.helds.items c.loop-place.place c.index_mut.result.now l c.loop-place.invariant c.index_mut.ensures.value
