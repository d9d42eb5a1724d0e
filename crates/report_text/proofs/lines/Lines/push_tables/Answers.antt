use Rattle.std.proofs.Common.{◌∙◌, ◌+◌, ◌++◌, ap, append_assoc, arith}
use Rattle.std.specs.List.{flat_map}
use Rattle.report_text.specs.Tables.{tables_text, table_lines, alternate_line, alternates_of}
use Rattle.report_text.proofs.Numbered.{numbered-more, numbered-all}
use Rattle.report_text.proofs.lines.Lines.push_tables.Goals as goal

pub loop-place-preserved : goal.loop-place-preserved
loop-place-preserved c =
    let number = c.loop-place.place + 1 in
    let others = flat_map alternate_line (alternates_of c.args.alternates.now number) in
    let both = c.in_ok-push_alternates.ensures.ok ∙ ap (λ t. t ++ others) c.in_ok-push.ensures.ok ∙ append_assoc c.loop-place.self _ others in
    numbered-more (table_lines c.args.alternates.now) c.args.tables.now c.loop-place.place _ c.index-tables-place.result _ _ _ c.loop-place-test.true c.index-tables-place.is both c.loop-place.invariant

pub returns-clause-ok : goal.returns-clause-ok
unfolding tables_text
returns-clause-ok c = numbered-all (table_lines c.args.alternates.now) c.args.tables.now c.loop-place.place _ _ (omega arith) c.loop-place.invariant
