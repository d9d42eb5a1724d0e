use Rattle.std.proofs.Common.{◌∙◌, ap₂, sym, arith}
use Rattle.col_set.proofs.Codes.{report-by_size, report-same, report-less, report-greater, differ_from_xor, not_equal, is_equal, has_from_shift, lacks_from_shift}
use Rattle.col_set.specs.ColSet.{report_cmp}
use Rattle.col_set.proofs.col_set.ColSet.cmp_report.Goals as goal

pub returns-then-ne : goal.returns-then-ne
returns-then-ne c =
    report-by_size _ _ (omega arith) (omega arith) _ c.cmp-by_size.ensures (not_equal _ c.if-ne.ensures)
    ∙ ap₂ report_cmp c.self.view_is c.other.view_is

pub returns-then-differing-eq0 : goal.returns-then-differing-eq0
returns-then-differing-eq0 c = report-same _ _ c.if-differing-eq0.true ∙ ap₂ report_cmp c.self.view_is c.other.view_is

pub overflow_shr-self-inside : goal.overflow_shr-self-inside
overflow_shr-self-inside c = (differ_from_xor c.self.inside.bits c.other.inside.bits (let h = c.if-differing-eq0.false in omega arith) (omega arith) (omega arith)).within

pub returns-then-self-least-eq1 : goal.returns-then-self-least-eq1
returns-then-self-least-eq1 c =
    report-less _ _ _ (omega arith) (omega arith) (sym c.cmp-by_size.ensures ∙ is_equal _ c.if-ne.ensures)
    (differ_from_xor c.self.inside.bits c.other.inside.bits (let h = c.if-differing-eq0.false in omega arith) (omega arith) (omega arith)) (has_from_shift _ _ c.if-self-least-eq1.true)
    ∙ ap₂ report_cmp c.self.view_is c.other.view_is

pub returns-else-self-least-eq1 : goal.returns-else-self-least-eq1
returns-else-self-least-eq1 c =
    report-greater _ _ _ (omega arith) (omega arith) (sym c.cmp-by_size.ensures ∙ is_equal _ c.if-ne.ensures)
    (differ_from_xor c.self.inside.bits c.other.inside.bits (let h = c.if-differing-eq0.false in omega arith) (omega arith) (omega arith)) (lacks_from_shift _ _ c.if-self-least-eq1.false)
    ∙ ap₂ report_cmp c.self.view_is c.other.view_is
