use Rattle.std.proofs.Common.{◌∙◌}
use Rattle.nary_ind.proofs.Starts.{columns-more, starts-more}
use Rattle.nary_ind.proofs.unary.columns_of.Goals as goal

pub loop-relation-preserved : goal.loop-relation-preserved
loop-relation-preserved c = record {
  begin = starts-more c.args.relations.now c.loop-relation.relation-index c.len.result c.loop-relation.starts.items c.push.new.self.items c.loop-relation.cells.items c.loop-relation-test.true c.loop-relation.invariant.begin
      c.loop-relation.invariant.same (c.len.ensures ∙ c.loop-relation.cells.ok.0) c.in_ok-push.ensures.items;
  same = columns-more c.args.relations.now c.loop-relation.relation-index c.relation-item.result c.loop-relation.cells.items c.push_columns.new.cells.items c.loop-relation-test.true c.relation-item.is c.loop-relation.invariant.same c.in_ok-push_columns.ensures;
}
