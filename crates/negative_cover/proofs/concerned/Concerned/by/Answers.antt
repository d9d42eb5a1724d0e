use Rattle.std.proofs.Common.{◌≡◌, ◌+◌, subst, sym, ap, ◌∙◌, ℕ, List, [], ◌∷◌, ◌++◌, take}
use Rattle.std.proofs.lemmas.List.{take_more}
use Rattle.negative_cover.specs.declared.negative_cover.Witness.{Witness}
use Rattle.negative_cover.specs.Witnesses.{sets_of}
use Rattle.negative_cover.specs.declared.concerned.Concerned.{Concerned}
use Rattle.negative_cover.specs.Concerning.{AreConcerned}
use Rattle.negative_cover.proofs.Concerning.{told-more, sets_of-one_more}
use Rattle.negative_cover.proofs.concerned.Concerned.by.Goals as goal

pub loop-witness-preserved : goal.loop-witness-preserved
loop-witness-preserved c =
    let items : List Witness = c.witnesses-witness-items.result.now in
    let more : take (c.loop-witness.witness-index + 1) items ≡ take c.loop-witness.witness-index items ++ c.witness-item.result ∷ [] =
    take_more items c.loop-witness.witness-index c.witness-item.result c.loop-witness-test.true ∙ ap (λ (w : Witness). take c.loop-witness.witness-index items ++ w ∷ []) (sym c.witness-item.is) in
    let sets = sets_of-one_more (take c.loop-witness.witness-index items) c.witness-item.result ∙ sym (ap sets_of more) in
    subst (λ (ws : List ℕ). AreConcerned c.args.columns ws c.args.agree c.told-concerned.result) sets
    (subst (λ (x : Concerned). AreConcerned c.args.columns (sets_of (take c.loop-witness.witness-index items) ++ c.witness-item.result.agree ∷ []) c.args.agree x) (sym c.told-concerned.ensures)
    (told-more c.args.columns (sets_of (take c.loop-witness.witness-index items)) c.args.agree c.witness-item.result.agree c.loop-witness.concerned c.loop-witness.invariant))
