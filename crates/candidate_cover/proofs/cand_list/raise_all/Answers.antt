use Rattle.std.proofs.Common.{◌<◌, ◌∙◌, ℕ, max, length, ap, set, rules}
use Rattle.std.proofs.lemmas.List.Edits.{map_over_more}
use Rattle.candidate_cover.proofs.cand_list.raise_all.Goals as goal

pub loop-place-preserved : goal.loop-place-preserved
loop-place-preserved c =
    let l : c.loop-place.place < length c.args.uptos.now.items = search rules in
    ap (λ (u : ℕ). set c.loop-place.uptos.items c.loop-place.place u) c.later.ensures
    ∙ map_over_more (λ (u : ℕ). max u c.args.to) c.args.uptos.now.items c.loop-place.uptos.items c.loop-place.place c.index.result.now l c.loop-place.invariant c.index.ensures
