use Rattle.std.proofs.Common.{◌≡◌, length, take, decimal, sym, ap, ◌∙◌, arith, length-take-le}
use Rattle.report_text.proofs.NumberTable.{number-after}
use Rattle.report_text.proofs.plain_line.PlainLine.push_number.Goals as goal

pub returns-clause-text : goal.returns-clause-text
returns-clause-text c =
    let text = c.text.result.now in
    let len = c.self.inside.len in
    let is : take c.count.result text ≡ decimal c.args.number = ap (λ n. take n text) c.count.ensures.value ∙ c.text.ensures in
    let size : length c.args.self.now ≡ len = ap length (sym c.self.view_is) ∙ length-take-le len _ (omega (arith, c.self.invariant, c.self.told)) in
    rw c.copy_from_slice.ensures.after (number-after c.self.inside.bytes text c.args.self.now (decimal c.args.number) len _ c.count.result c.args.separator (omega (arith, c.requires.room, c.self.told)) c.self.view_is c.count.ensures.value is)
