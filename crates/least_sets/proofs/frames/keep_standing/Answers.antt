use Rattle.std.proofs.Common.{◌∙◌, ◌++◌, ◌&&◌, not, ℕ, List, ap, arith, take}
use Rattle.std.specs.List.{filter, list_any}
use Rattle.col_set.specs.ColSet.{has, inter, subset}
use Rattle.least_sets.proofs.Splitting.{slice_rest, front_of_part}
use Rattle.least_sets.proofs.frames.keep_standing.Goals as goal

pub returns : goal.returns
returns g c =
    let l = c.args.sets.now.ok.0 in
    let few = c.move_kept-kept.ensures.bound in
    let same = c.move_kept-kept.auto.sets in
    c.truncate.ensures.items
    ∙ front_of_part c.args.from c.move_kept-kept.result c.args.sets.now.len c.args.sets.now.items c.move_kept-kept.new.sets c.requires.from (omega (arith, l)) (omega (arith, few, same)) c.deref_mut.result.now c.deref_mut.ensures.value same
    ∙ ap (λ (ys : List ℕ). take c.args.from c.args.sets.now.items ++ ys) (c.move_kept-kept.ensures.kept ∙ ap (filter (λ w. not (has w c.args.column && list_any (λ v. subset (inter w c.args.free) v) c.args.others.now))) (slice_rest c.deref_mut.result.now c.args.sets.now.items c.args.from c.deref_mut.ensures.value))
