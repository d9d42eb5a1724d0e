use Rattle.report_text.proofs.LineText.{HasFields-none}
use Rattle.report_text.proofs.lines.write_row.Goals as goal

pub loop-place-init : goal.loop-place-init
loop-place-init c = HasFields-none c.args.writer.now c.requires
