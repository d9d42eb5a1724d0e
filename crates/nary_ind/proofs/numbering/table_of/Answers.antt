use Rattle.std.proofs.Common.{◌∙◌, ◌+◌, ap, length, map}
use Rattle.std.proofs.lemmas.List.{length-map, length_push, map_push}
use Rattle.nary_ind.proofs.Numbers.{columns-step, more-more}
use Rattle.nary_ind.proofs.numbering.table_of.Goals as goal

pub loop-column-preserved : goal.loop-column-preserved
loop-column-preserved c = record {
  more = more-more c.args.numbers.now c.loop-column.numbers c.numbers_if_used.new.numbers c.loop-column.invariant.more c.in_ok-numbers_if_used.ensures.more;
  long = ap length c.in_ok-push.ensures.items ∙ length_push c.loop-column.columns.items c.in_ok-numbers_if_used.field-0 ∙ ap (λ n. n + 1) c.loop-column.invariant.long;
  numbers = columns-step c.loop-column.numbers c.numbers_if_used.new.numbers c.args.unary.now c.args.relation c.loop-column.column (map (λ v. v.items) c.loop-column.columns.items) (map (λ v. v.items) c.push.new.self.items) c.in_ok-numbers_if_used.field-0.items
      c.in_ok-numbers_if_used.ensures.more (length-map c.loop-column.columns.items (λ v. v.items) ∙ c.loop-column.invariant.long) (ap (map (λ v. v.items)) c.in_ok-push.ensures.items ∙ map_push (λ v. v.items) c.loop-column.columns.items c.in_ok-numbers_if_used.field-0)
      c.loop-column.invariant.numbers c.in_ok-numbers_if_used.ensures.numbers;
}
