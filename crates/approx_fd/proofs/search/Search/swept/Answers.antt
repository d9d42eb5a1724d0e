use Rattle.std.proofs.Common.{◌∙◌}
use Rattle.approx_fd.proofs.Sweeping.{found-in, more-found}
use Rattle.approx_fd.proofs.search.Search.swept.Goals as goal

pub loop-size-preserved : goal.loop-size-preserved
loop-size-preserved c = record {
  table = c.in_ok-more.ensures.table ∙ c.loop-size.invariant.table;
  most = c.in_ok-more.ensures.most ∙ c.loop-size.invariant.most;
  found = more-found c.args.self.now.table c.args.self.now.most c.loop-size.found c.in_ok-more.more c.add.new.self c.loop-size.invariant.found
      (found-in c.args.self.now.table c.loop-size.self.table c.args.self.now.most c.loop-size.self.most c.in_ok-more.more c.loop-size.invariant.table c.loop-size.invariant.most c.in_ok-more.ensures.found)
      c.in_ok-add.ensures.failures c.in_ok-add.ensures.counts;
}
