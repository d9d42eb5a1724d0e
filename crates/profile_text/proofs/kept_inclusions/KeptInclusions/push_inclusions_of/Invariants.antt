use Rattle.std.proofs.Common.{◌≡◌, ◌++◌, ◌∷◌, [], filter}
use Rattle.col_set.specs.ColSet.{upto}
use Rattle.rel_base.specs.Inclusion.{all_columns, included}
use Rattle.inclusion_merge.specs.Candidates.{pairs_from}
use Rattle.profile_text.specs.Including.{IsIncludedIn}
use Rattle.profile_text.proofs.kept_inclusions.KeptInclusions.push_inclusions_of.Given as goal

abbrev pub invariant-loop-referenced : goal.invariant-loop-referenced
invariant-loop-referenced l = record {
  pairs : l.pairs.items ≡ l.fn.pairs.items ++ filter (λ p. included (all_columns (l.live ∷ [])) p.0 p.1) (pairs_from l.dependent (upto l.referenced));
  known : IsIncludedIn (all_columns (l.live ∷ [])) l.dependent l.known;
}
