use Rattle.std.proofs.Common.{◌∙◌, sym}
use Rattle.csv_load.proofs.LeadingMarks.{without_marks-marked, without_marks-plain}
use Rattle.csv_load.proofs.marks.after_marks.Goals as goal

pub loop-after-preserved : goal.loop-after-preserved
loop-after-preserved c =
    let (marked, rest, _) = c.in-Some.ensures.cases in
    rw rest (sym (without_marks-marked c.loop-after.rest.now marked) ∙ c.loop-after.invariant)

pub returns : goal.returns
returns c = sym (without_marks-plain c.loop-after.rest.now c.in_default.ensures.cases) ∙ c.loop-after.invariant
