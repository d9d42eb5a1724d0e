use Rattle.std.proofs.Common.{◌≡◌}
use Rattle.col_set.specs.ColSet.{all}
use Rattle.fd_closure.specs.Keys.{shrunk}
use Rattle.synth_3nf.specs.Tables.{reaches_all}
use Rattle.synth_3nf.proofs.tables.whole_key.Given as goal

abbrev pub invariant-loop-column : goal.invariant-loop-column
invariant-loop-column l = shrunk (reaches_all l.n l.kept) l.column l.key ≡ shrunk (reaches_all l.n l.kept) l.n (all l.n)
