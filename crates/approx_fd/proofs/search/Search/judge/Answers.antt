use Rattle.std.proofs.Common.{◌∙◌}
use Rattle.col_set.specs.declared.target.Target.TheVariants.{Col}
use Rattle.approx_fd.proofs.Sweeping.{failing-after}
use Rattle.approx_fd.proofs.search.Search.judge.Goals as goal

pub climb_from-requires-clause-failing : goal.climb_from-requires-clause-failing
climb_from-requires-clause-failing c =
    failing-after c.args.self.now.table c.removed.new.self.table c.args.self.now.most c.removed.new.self.most c.args.candidate.left (Col c.args.candidate.column) c.in_ok-removed.field-0
    c.in_ok-removed.ensures.table c.in_ok-removed.ensures.most (c.is_left_side.ensures.lacks c.if-not-is_left_side.false) c.in_ok-removed.ensures.value c.in-None.is
