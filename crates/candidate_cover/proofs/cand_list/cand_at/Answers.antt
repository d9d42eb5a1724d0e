use Rattle.std.proofs.Common.{false, get_or, sym, subst, ◌<◌, ℕ}
use Rattle.std.proofs.lemmas.List.{get_or_default}
use Rattle.candidate_cover.proofs.Flat.{cand_read}
use Rattle.candidate_cover.proofs.cand_list.cand_at.Goals as goal

pub returns : goal.returns
returns c = λ d.
    let h = get_or c.args.helds.now c.args.place false in
    cand_read c.args.sets.now c.args.uptos.now c.args.helds.now c.args.place c.index-sets-place.result c.index-uptos-place.result h c.requires.even c.requires.place c.index-sets-place.is c.index-uptos-place.is
    (get_or_default c.args.helds.now c.args.place false h (subst (λ (n : ℕ). c.args.place < n) (sym c.requires.even.helds) c.requires.place)) d
