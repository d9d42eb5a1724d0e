use Rattle.std.proofs.Common.{◌∙◌, ◌++◌, List, IsPermutation, ap, subst}
use Rattle.std.proofs.lemmas.List.Sorted.{Contains-permutation, IsPermutation-sym}
use Rattle.col_set.proofs.Places.{Contains-listed, Listed-contained}
use Rattle.negative_cover.specs.declared.negative_cover.Witness.{Witness}
use Rattle.cover_cert.proofs.evidence.by_size.Goals as goal

moved : (c : goal.After-sort_unstable_by_key) → IsPermutation c.args.witnesses.now c.sort_unstable_by_key.new.self.items
moved c = subst (λ (ws : List Witness). IsPermutation ws c.sort_unstable_by_key.new.self.items)
    (c.in_ok-extend_from_slice.ensures.items ∙ ap (λ (ws : List Witness). ws ++ c.args.witnesses.now) c.in_ok-sorted.ensures.items) c.sort_unstable_by_key.ensures.permutation

pub returns : goal.returns
returns c = λ w.
    let before = c.args.witnesses.now in
    let after = c.sort_unstable_by_key.new.self.items in (
      (λ l. Listed-contained w before (Contains-permutation after before w (IsPermutation-sym before after (moved c)) (Contains-listed w after l))),
      (λ l. Listed-contained w after (Contains-permutation before after w (moved c) (Contains-listed w before l))),
    )
