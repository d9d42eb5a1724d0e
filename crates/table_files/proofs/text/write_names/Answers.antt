use Rattle.report_text.proofs.LineText.{HasFields-none}
use Rattle.table_files.proofs.text.write_names.Goals as goal

pub loop-column-init : goal.loop-column-init
loop-column-init c = HasFields-none c.args.writer.now c.requires.at_line
