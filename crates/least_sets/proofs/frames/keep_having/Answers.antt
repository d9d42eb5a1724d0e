use Rattle.std.proofs.Common.{◌∙◌, ◌++◌, ℕ, List, ap, arith, take}
use Rattle.least_sets.specs.Growth.{having}
use Rattle.least_sets.proofs.Splitting.{slice_rest, front_of_part}
use Rattle.least_sets.proofs.frames.keep_having.Goals as goal

pub returns : goal.returns
returns g c =
    let l = c.args.sets.now.ok.0 in
    let few = c.move_having-kept.ensures.bound in
    let same = c.move_having-kept.auto.sets in
    c.truncate.ensures.items
    ∙ front_of_part c.args.from c.move_having-kept.result c.args.sets.now.len c.args.sets.now.items c.move_having-kept.new.sets c.requires.from (omega (arith, l)) (omega (arith, few, same)) c.deref_mut.result.now c.deref_mut.ensures.value same
    ∙ ap (λ (ys : List ℕ). take c.args.from c.args.sets.now.items ++ ys) (c.move_having-kept.ensures.kept ∙ ap (having c.args.column) (slice_rest c.deref_mut.result.now c.args.sets.now.items c.args.from c.deref_mut.ensures.value))
