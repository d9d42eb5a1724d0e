use Rattle.std.proofs.Common.{◌≡◌, ◌∷◌, [], length, filter, flat_map}
use Rattle.col_set.specs.ColSet.{upto}
use Rattle.rel_base.specs.Inclusion.{all_columns, included}
use Rattle.inclusion_merge.specs.Candidates.{pairs_from}
use Rattle.profile_text.specs.Including.{AreIncludedIn}
use Rattle.profile_text.proofs.kept_inclusions.KeptInclusions.among.Given as goal

abbrev pub invariant-loop-dependent : goal.invariant-loop-dependent
invariant-loop-dependent l = record {
  pairs : l.pairs.items ≡ filter (λ p. included (all_columns (l.rows ∷ [])) p.0 p.1) (flat_map (λ c. pairs_from c (upto l.width)) (upto l.dependent));
  earlier : AreIncludedIn (all_columns (l.rows ∷ [])) l.earlier.items;
  long : length l.earlier.items ≡ l.dependent;
}
