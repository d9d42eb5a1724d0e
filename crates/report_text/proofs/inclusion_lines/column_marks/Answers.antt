use Rattle.std.proofs.Common.{◌∙◌, [], refl, arith}
use Rattle.report_text.specs.Inclusions.{column_marks, relation_marks}
use Rattle.report_text.proofs.Numbered.{numbered-more, numbered-all}
use Rattle.report_text.proofs.inclusion_lines.column_marks.Goals as goal

pub loop-place-preserved : goal.loop-place-preserved
loop-place-preserved c = (
  c.in_ok-push_relation_marks.ensures.partial,
  numbered-more relation_marks c.args.widths.now c.loop-place.place 0 _ [] _ _ (omega arith) refl c.in_ok-push_relation_marks.ensures.fields c.loop-place.invariant.1,
)

pub returns : goal.returns
unfolding column_marks
returns c = c.of.ensures ∙ numbered-all relation_marks c.args.widths.now c.loop-place.place [] _ (omega arith) c.loop-place.invariant.1
