use Rattle.rel_base.proofs.Alike.{holds_in-alike, holds_in_below-alike}
use Rattle.rel_base.proofs.laws.alike_snapshots_hold_the_same.Goals as goal

pub returns : goal.returns
returns c s u alike = record { all = holds_in-alike s u alike; among = holds_in_below-alike s u alike }
