use Rattle.std.proofs.Common.{◌-◌, ◌∙◌, ◌++◌, ℕ, List, Bool, take, drop, ap}
use Rattle.candidate_cover.proofs.Flat.{run_pushed}
use Rattle.candidate_cover.proofs.cand_list.Lists.push_run.Goals as goal

pub returns-clause-pairs : goal.returns-clause-pairs
returns-clause-pairs c =
    let start = c.args.start in
    let count = c.args.end - c.args.start in
    run_pushed c.args.self.now.sets.items c.args.self.now.uptos.items c.args.self.now.helds.items c.args.other.now.sets.items c.args.other.now.uptos.items c.args.other.now.helds.items start count
    c.extend_from_slice.new.self.items c.extend_from_slice-2.new.self.items c.extend_from_slice-3.new.self.items c.requires.even c.requires.other
    (c.in_ok-extend_from_slice.ensures.items ∙ ap (λ (ys : List ℕ). c.args.self.now.sets.items ++ take count (drop start ys)) c.deref.ensures.value)
    (c.in_ok-extend_from_slice-2.ensures.items ∙ ap (λ (ys : List ℕ). c.args.self.now.uptos.items ++ take count (drop start ys)) c.deref-2.ensures.value)
    (c.in_ok-extend_from_slice-3.ensures.items ∙ ap (λ (ys : List Bool). c.args.self.now.helds.items ++ take count (drop start ys)) c.deref-3.ensures.value)
