use Rattle.std.proofs.Common.{◌+◌, ◌<◌, ◌^◌, sym, arith}
use Rattle.report_text.proofs.PlainText.{IsPlain-columns, IsPlain-decimal, fd-plain}
use Rattle.report_text.proofs.plain_line.PlainLine.write_fd.Goals as goal

pub returns : goal.returns
returns c =
    let fits : c.args.fd.now.right + 1 < 2 ^ 64 = omega arith in
    rw (c.push.ensures, c.push_number.ensures.text, c.from.ensures, c.push_columns.ensures.text, c.begin.ensures)
    (sym (fd-plain _ _ (IsPlain-columns c.args.fd.now.left c.push_columns.ensures.below) (IsPlain-decimal (c.args.fd.now.right + 1) fits)))
