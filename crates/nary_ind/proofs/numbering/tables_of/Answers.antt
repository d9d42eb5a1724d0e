use Rattle.std.proofs.Common.{◌≡◌, ◌∙◌, ◌+◌, ap, arith, length}
use Rattle.std.proofs.lemmas.List.{length_push}
use Rattle.nary_ind.proofs.Numbers.{null-more, tables-are, tables-step}
use Rattle.nary_ind.proofs.numbering.tables_of.Goals as goal

pub loop-relation-preserved : goal.loop-relation-preserved
loop-relation-preserved c = record {
  null = null-more c.loop-relation.numbers c.table_of.new.numbers c.loop-relation.invariant.null c.in_ok-table_of.ensures.more;
  long = ap length c.in_ok-push.ensures.items ∙ length_push c.loop-relation.tables.items c.in_ok-table_of.field-0 ∙ ap (λ n. n + 1) c.loop-relation.invariant.long;
  tables = tables-step c.loop-relation.numbers c.table_of.new.numbers c.args.unary.now c.loop-relation.relation c.loop-relation.tables.items c.push.new.self.items c.in_ok-table_of.field-0 c.in_ok-table_of.ensures.more c.loop-relation.invariant.long
      c.in_ok-push.ensures.items c.loop-relation.invariant.tables c.in_ok-table_of.ensures.table;
}

pub returns : goal.returns
returns c =
    let e : c.loop-relation.relation ≡ length c.args.unary.now = let a = c.loop-relation.auto.relation-end in let f = c.loop-relation-test.false in let v = ap length c.relations-relations.ensures in omega arith in
    tables-are c.loop-relation.numbers c.len-count.ensures.coding c.loop-relation.invariant.null c.args.unary.now c.loop-relation.tables.items (c.loop-relation.invariant.long ∙ e) (λ p l. c.loop-relation.invariant.tables p (omega arith))
