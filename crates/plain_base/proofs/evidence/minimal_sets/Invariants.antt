use Rattle.std.proofs.Common.{◌≡◌, ◌&&◌, not, take, ℕ, eqb}
use Rattle.std.specs.List.{list_any}
use Rattle.std.specs.BTreeSet.{contains, IsOrdered}
use Rattle.col_set.specs.ColSet.{report_cmp}
use Rattle.col_set.specs.Minimal.{proper_subset}
use Rattle.plain_base.proofs.evidence.minimal_sets.Given as goal

abbrev pub invariant-loop-x : goal.invariant-loop-x
invariant-loop-x l = IsOrdered report_cmp l.kept × ((q : ℕ) → contains report_cmp l.kept q ≡ list_any (λ y. eqb y q && not (list_any (λ v. proper_subset v y) l.sets)) (take l.x-index l.sets))
