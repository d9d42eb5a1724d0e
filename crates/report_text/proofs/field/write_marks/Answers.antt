use Rattle.std.proofs.Common.{◌≡◌, ◌∙◌, ◌++◌, ◌+◌, List, ℕ, sym, ap, ap₂}
use Rattle.std.proofs.lemmas.List.{take_all}
use Rattle.report_text.specs.Field.{column_mark, marks_text}
use Rattle.report_text.proofs.MarksText.{marks_tail, marks_text-first, marks_text-none}
use Rattle.report_text.proofs.field.write_marks.Goals as goal

pub returns-in_default : goal.returns-in_default
returns-in_default c = c.clear.ensures.items ∙ sym (marks_text-none c.args.relation c.args.columns.now c.in_default.ensures.cases)

pub returns : goal.returns
returns c =
    let first : c.push_mark.new.text.items ≡ column_mark c.args.relation (c.in-Some.first.now + 1) = c.in_ok-push_mark.ensures ∙ ap (λ (t : List ℕ). t ++ column_mark c.args.relation (c.in-Some.first.now + 1)) c.clear.ensures.items in
    let whole = take_all c.loop-column.column-index c.in-Some.rest.now c.loop-column-test.false in
    c.loop-column.invariant ∙ ap₂ (λ (t u : List ℕ). t ++ u) first (ap (marks_tail c.args.relation) whole)
    ∙ sym (ap (marks_text c.args.relation) c.in-Some.ensures.cases.0 ∙ marks_text-first c.args.relation c.in-Some.first.now c.in-Some.rest.now)
