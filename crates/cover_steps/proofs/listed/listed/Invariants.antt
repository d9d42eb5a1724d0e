use Rattle.std.proofs.Common.{◌≡◌, ◌<◌, ℕ}
use Rattle.std.specs.List.{flat_map}
use Rattle.col_set.specs.declared.target.Target.TheVariants.{Col}
use Rattle.col_set.specs.ColSet.{upto, report_cmp}
use Rattle.col_set.specs.Lists.{Rises}
use Rattle.rel_base.specs.Covers.{fds_to}
use Rattle.candidate_cover.specs.Cands.{cands_of, lefts}
use Rattle.cover_steps.proofs.listed.listed.Given as goal

abbrev pub invariant-loop-column : goal.invariant-loop-column
invariant-loop-column l = record {
  fds : l.fds.items ≡ flat_map (λ a. fds_to a (lefts (cands_of l.candidates (Col a)))) (upto l.column);
  order : (a : ℕ) → a < l.column → Rises report_cmp (lefts (cands_of l.candidates (Col a)));
}
