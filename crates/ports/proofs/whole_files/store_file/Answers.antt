use Rattle.ports.proofs.Shelves.{Stores-cut}
use Rattle.ports.proofs.whole_files.store_file.Goals as goal

pub returns-in-Failed-close-clause-stores : goal.returns-in-Failed-close-clause-stores
returns-in-Failed-close-clause-stores g c =
    let made = c.in-Created.ensures in
    let written = c.write_whole-answer in
    Stores-cut written.result _ _ c.args.bytes.now _ _ _ _ made.content made.opened written.ensures.appended c.close.ensures.content
