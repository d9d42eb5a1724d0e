use Rattle.std.proofs.Common.{◌≡◌, take, ℕ}
use Rattle.std.specs.BTreeSet.{contains, IsOrdered}
use Rattle.col_set.specs.ColSet.{report_cmp}
use Rattle.synth_3nf.proofs.Tabling.{is_left}
use Rattle.synth_3nf.proofs.tables.left_set.Given as goal

abbrev pub invariant-loop-fd : goal.invariant-loop-fd
invariant-loop-fd l = IsOrdered report_cmp l.lefts × ((q : ℕ) → contains report_cmp l.lefts q ≡ is_left (take l.fd-index l.kept) q)
