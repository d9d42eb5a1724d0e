use Rattle.std.proofs.Common.{◌∙◌, ◌++◌, ℕ, List, ap, sym, filter}
use Rattle.col_set.specs.ColSet.{upto}
use Rattle.inclusion_merge.specs.Candidates.{is_left, pairs_from}
use Rattle.inclusion_merge.proofs.Pairing.{rows_more}
use Rattle.inclusion_merge.proofs.pairs.pairs_of.Goals as goal

pub loop-dependent-preserved : goal.loop-dependent-preserved
loop-dependent-preserved c =
    let kept = c.args.kept.now in
    let i = c.loop-dependent.dependent in
    c.in_ok-push_pairs_of.ensures
    ∙ ap (λ (pairs : List (ℕ × ℕ)). pairs ++ filter (is_left kept) (pairs_from i (upto kept.columns))) c.loop-dependent.invariant
    ∙ sym (rows_more (is_left kept) kept.columns i)
