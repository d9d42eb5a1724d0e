use Rattle.std.proofs.Common.{◌≡◌, ◌++◌, ◌∙◌, ◌+◌, ◌-◌, ℕ, length, sym, subst, ap}
use Rattle.std.proofs.lemmas.List.{length_push}
use Rattle.normalize_text.specs.Demo.{rows_from}
use Rattle.normalize_text.proofs.Drawn.{row-wide, rows_end, rows_more}
use Rattle.normalize_text.proofs.demo.relation_of.Goals as goal

pub with_row-requires-clause-wide : goal.with_row-requires-clause-wide
with_row-requires-clause-wide c =
    ap length c.in_ok-row.ensures.row ∙ row-wide (c.loop-place.place + 1) c.loop-place.generator.state ∙ sym c.requires.wide ∙ sym (ap length c.loop-place.invariant.names)

pub loop-place-preserved : goal.loop-place-preserved
loop-place-preserved c =
    let long = c.loop-place.invariant.long in
    let more = ap length c.in_ok-relation-2.ensures.rows in
    let one = length_push c.loop-place.relation.rows c.in_ok-row.row in
    record {
      text = subst (λ (s : ℕ). c.in_ok-relation-2.relation.rows ++ rows_from (c.args.count - (c.loop-place.place + 1)) (c.loop-place.place + 1 + 1) s ≡ rows_from c.args.count 1 c.args.seed) (sym c.in_ok-row.ensures.state)
          (rows_more c.args.count c.loop-place.place c.loop-place.generator.state c.loop-place.relation.rows c.in_ok-relation-2.relation.rows (rows_from c.args.count 1 c.args.seed) c.in_ok-row.row c.loop-place-test.true
          c.loop-place.invariant.text c.in_ok-row.ensures.row c.in_ok-relation-2.ensures.rows);
      below = c.in_ok-row.ensures.below;
      names = c.in_ok-relation-2.ensures.names ∙ c.loop-place.invariant.names;
      long = more ∙ one ∙ ap (λ (n : ℕ). n + 1) long;
    }

pub returns-clause-rows : goal.returns-clause-rows
returns-clause-rows c = rows_end c.args.count c.loop-place.place (c.loop-place.place + 1) c.loop-place.generator.state c.loop-place.relation.rows (rows_from c.args.count 1 c.args.seed) c.loop-place-test.false c.loop-place.invariant.text
