use Rattle.std.proofs.Common.{sym}
use Rattle.report_text.proofs.PlainText.{IsPlain-columns, key-plain}
use Rattle.report_text.proofs.plain_line.PlainLine.write_key.Goals as goal

pub returns : goal.returns
returns c = rw (c.push.ensures, c.push_columns.ensures.text, c.begin.ensures) (sym (key-plain _ (IsPlain-columns c.args.key c.push_columns.ensures.below)))
