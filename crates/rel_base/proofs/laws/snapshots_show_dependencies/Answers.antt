use Rattle.rel_base.proofs.Shown.{holds_in-shown, holds_in_below-shown}
use Rattle.rel_base.proofs.laws.snapshots_show_dependencies.Goals as goal

pub returns : goal.returns
returns c s r is shows = record { all = holds_in-shown s r is shows; among = holds_in_below-shown s r is shows }
