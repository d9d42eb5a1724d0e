use Rattle.std.proofs.Common.{◌≡◌, ◌∙◌, ◌∷◌, [], length, sym, ap, arith}
use Rattle.std.proofs.lemmas.List.{length-map, length-replicate}
use Rattle.candidate_cover.specs.Cands.{fresh}
use Rattle.candidate_cover.specs.Marks.{cands}
use Rattle.candidate_cover.proofs.candidate_cover.CandidateCover.new.Goals as goal

pub invariant_of-result : goal.invariant_of-result
invariant_of-result c =
    let many : length c.loop-column.lists.items ≡ c.loop-column.column = sym (length-map c.loop-column.lists.items cands) ∙ ap length c.loop-column.invariant ∙ length-replicate c.loop-column.column (fresh 0 ∷ []) in
    omega arith
