use Rattle.cover_cert.proofs.Forms.{giant-same}
use Rattle.cover_cert.proofs.checking.up_to_giant.Goals as goal

pub returns-in-Some : goal.returns-in-Some
returns-in-Some c rows = giant-same c.args.bytes.now c.in-Some.parted.upto.now c.in-Some.parted.behind.now c.in-Some.ensures rows
