use Rattle.std.proofs.Common.{◌≡◌, ◌∙◌, ◌++◌, ◌+◌, ◌∷◌, [], ℕ, List, ap, sym, subst, filter, length, rules}
use Rattle.std.proofs.lemmas.List.{length_push}
use Rattle.col_set.specs.ColSet.{upto}
use Rattle.rel_base.specs.Inclusion.{all_columns, included}
use Rattle.rel_base.specs.RowState.{RowState}
use Rattle.inclusion_merge.specs.Candidates.{pairs_from}
use Rattle.inclusion_merge.proofs.Pairing.{rows_more}
use Rattle.profile_text.specs.Including.{IsIncludedIn}
use Rattle.profile_text.proofs.Including.{none_earlier, one_earlier}
use Rattle.profile_text.proofs.Inclusions.{inclusions-all}
use Rattle.profile_text.proofs.kept_inclusions.KeptInclusions.among.Goals as goal

pub loop-dependent-init : goal.loop-dependent-init
loop-dependent-init c = record {
  pairs = search rules;
  earlier = none_earlier (all_columns (c.args.rows.now ∷ [])) _ (search rules);
  long = search rules;
}

pub loop-dependent-preserved : goal.loop-dependent-preserved
loop-dependent-preserved c =
    let passes = λ (p : ℕ × ℕ). included (all_columns (c.args.rows.now ∷ [])) p.0 p.1 in
    let i = c.loop-dependent.dependent in
    record {
      pairs =
          subst (λ (r : RowState). c.push_inclusions_of.new.pairs.items ≡ c.loop-dependent.pairs.items ++ filter (λ p. included (all_columns (r ∷ [])) p.0 p.1) (pairs_from i (upto c.args.width))) c.in_ok-live.ensures
          c.in_ok-referenced.ensures.pairs
          ∙ ap (λ (pairs : List (ℕ × ℕ)). pairs ++ filter passes (pairs_from i (upto c.args.width))) c.loop-dependent.invariant.pairs
          ∙ sym (rows_more passes c.args.width i);
      earlier = one_earlier (all_columns (c.args.rows.now ∷ [])) _ _ i c.in_ok-referenced.referenced c.loop-dependent.invariant.earlier c.loop-dependent.invariant.long
          (subst (λ (r : RowState). IsIncludedIn (all_columns (r ∷ [])) i c.in_ok-referenced.referenced) c.in_ok-live.ensures c.in_ok-referenced.ensures.referenced) c.in_ok-push.ensures.items;
      long = ap length c.in_ok-push.ensures.items ∙ length_push _ _ ∙ ap (λ (n : ℕ). n + 1) c.loop-dependent.invariant.long;
    }

pub returns : goal.returns
returns c = c.loop-dependent.invariant.pairs ∙ inclusions-all c.args.rows.now c.args.width c.loop-dependent.dependent c.requires.width c.loop-dependent.auto.dependent-end c.loop-dependent-test.false
