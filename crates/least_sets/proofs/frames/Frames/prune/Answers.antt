use Rattle.std.proofs.Common.{inr, ◌∙◌, ◌++◌, ◌&&◌, not, ℕ, List, ap, take, drop}
use Rattle.std.specs.List.{filter, list_any}
use Rattle.col_set.specs.ColSet.{has, inter, subset}
use Rattle.least_sets.specs.Branches.{lacking}
use Rattle.least_sets.proofs.Splitting.{slice_rest, new_end}
use Rattle.least_sets.proofs.frames.Frames.prune.Goals as goal

pub returns-clause-pending : goal.returns-clause-pending
returns-clause-pending g c =
    let xs = c.args.self.now.pending.items in
    inr (c.keep_standing.ensures ∙ ap (λ (others : List ℕ). take c.args.pending_from xs ++ filter (λ w. not (has w c.args.column && list_any (λ v. subset (inter w c.args.free) v) others)) (drop c.args.pending_from xs)) (
    slice_rest c.deref-2.result.now c.push_lacking.new.found.items c.len-own_end.result c.deref-2.ensures.value
    ∙ new_end c.args.self.now.own.items _ c.push_lacking.new.found.items c.len-own_end.result c.in_ok-push_lacking.ensures (c.len-own_end.ensures ∙ c.args.self.now.own.ok.0)
    ∙ ap (lacking c.args.column) (slice_rest c.deref.result.now xs c.args.pending_from c.deref.ensures.value)
    ))
