use Rattle.std.proofs.Common.{sym, subst}
use Rattle.std.specs.Prelude.{is_ok}
use Rattle.stripped_partition.specs.Paths.{IsTop}
use Rattle.stripped_partition.proofs.Ways.{pushed_levels}
use Rattle.stripped_partition.proofs.path.Levels.push.Goals as goal

pub returns-in-Some-clause-levels : goal.returns-in-Some-clause-levels
returns-in-Some-clause-levels c s are is = record {
  before = pushed_levels s (is_ok c.push.result) c.args.self.now.below.items c.push.new.self.items c.in-Some.last c.push.ensures.items are.before (subst (IsTop s) (sym c.in-Some.ensures.value) are.last);
  last = subst (IsTop s) (sym c.replace.ensures.after) is;
}
