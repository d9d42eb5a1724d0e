use Rattle.std.proofs.Common.{◌≡◌, ℕ, List, false, take, Some}
use Rattle.std.specs.List.{All}
use Rattle.rel_base.specs.RowState.{RowState}
use Rattle.least_sets.specs.Drafts.{is_news}
use Rattle.negative_cover.specs.declared.negative_cover.Witness.{Witness}
use Rattle.cover_steps.specs.Evidences.{IsEvidence, IsNews}
use Rattle.cover_steps.proofs.evidence.noted_each.Given as goal

abbrev pub invariant-loop-evidence : goal.invariant-loop-evidence
invariant-loop-evidence l = ((r : RowState) (n : ℕ) (ws : List Witness) → All (IsEvidence r) l.found → IsNews r n ws l.fn.start.witnesses.items l.fn.start.draft → IsNews r n ws l.news.witnesses.items l.news.draft)
    × All (λ e. is_news l.news.draft.width l.news.draft.agree_sets e.agree ≡ false) (take l.evidence-index l.found)
    × ((a : ℕ) → l.last ≡ Some a → is_news l.news.draft.width l.news.draft.agree_sets a ≡ false)
