use Rattle.std.proofs.Common.{◌≡◌, take}
use Rattle.synth_3nf.specs.Tables.{with_rights}
use Rattle.synth_3nf.proofs.tables.with_rights.Given as goal

abbrev pub invariant-loop-fd : goal.invariant-loop-fd
invariant-loop-fd l = l.columns ≡ with_rights (take l.fd-index l.kept) l.left
