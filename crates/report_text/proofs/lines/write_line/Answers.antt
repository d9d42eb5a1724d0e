use Rattle.report_text.proofs.LineText.{HasFields-none}
use Rattle.report_text.proofs.lines.write_line.Goals as goal

pub loop-field-init : goal.loop-field-init
loop-field-init c = HasFields-none c.args.writer.now c.requires
