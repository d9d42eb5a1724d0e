use Rattle.stripped_partition.proofs.path.Path.go_to.Goals as goal

pub invariant_of-self : goal.invariant_of-self
invariant_of-self c =
    let kept = c.self.invariant in
    record { whole = kept.whole; each = c.go_back.ensures.levels c.self.inside.snapshot.now kept.each; clear = kept.clear }
