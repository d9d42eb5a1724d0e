use Rattle.std.proofs.Common.{◌<◌, ◌+◌, ◌-◌, ◌∙◌, sym, arith, rules, length}
use Rattle.candidate_cover.proofs.Places.{less_from, all_before}
use Rattle.candidate_cover.proofs.place.are_before.Goals as goal

pub returns : goal.returns
returns c = λ e k d h.
    let l : c.args.place - 1 < length c.args.sets.now = search rules in
    let n : k < c.args.place - 1 + 1 = omega (arith, h) in
    all_before c.args.sets.now c.args.x c.index-sets-place.result (c.args.place - 1) c.requires.order l c.index-sets-place.is
    (sym c.cmp_report.ensures ∙ less_from c.cmp_report.result (sym c.is_lt.ensures ∙ e)) k d n
