use Rattle.std.proofs.Common.{◌<◌, ◌∙◌, sym, rules, length}
use Rattle.candidate_cover.proofs.Places.{less_from, all_after}
use Rattle.candidate_cover.proofs.place.are_after.Goals as goal

pub returns : goal.returns
returns c = λ e k d h m.
    let l : c.args.place < length c.args.sets.now = search rules in
    all_after c.args.sets.now c.args.x c.index-sets-place.result c.args.place c.requires l c.index-sets-place.is
    (sym c.cmp_report.ensures ∙ less_from c.cmp_report.result (sym c.is_lt.ensures ∙ e)) k d h m
