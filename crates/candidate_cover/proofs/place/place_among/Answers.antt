use Rattle.std.proofs.Common.{◌<◌, ◌∙◌, length, sym, rules}
use Rattle.std.proofs.lemmas.Bool.{eqb-true}
use Rattle.candidate_cover.proofs.Places.{place_seen}
use Rattle.candidate_cover.proofs.place.place_among.Goals as goal

pub returns-then-eq : goal.returns-then-eq
returns-then-eq c =
    let l : c.loop-place.place < length c.args.sets.now = search rules in
    place_seen c.args.sets.now c.args.x c.index-sets-place.result c.loop-place.place c.requires l c.index-sets-place.is (eqb-true c.index-sets-place.result c.args.x (sym c.eq.ensures ∙ c.if-eq.true))
