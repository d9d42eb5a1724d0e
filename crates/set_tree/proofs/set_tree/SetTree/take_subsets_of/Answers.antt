use Rattle.std.proofs.Common.{◌∙◌, ◌++◌, ◌∷◌, [], sym, ap, not, take}
use Rattle.std.specs.List.{filter}
use Rattle.std.proofs.lemmas.List.{take_more, take_all}
use Rattle.set_tree.specs.Pairs.{without_key}
use Rattle.set_tree.proofs.Listing.{is_among, none_out, one_out, all_out}
use Rattle.set_tree.proofs.set_tree.SetTree.take_subsets_of.Goals as goal

pub loop-pair-init : goal.loop-pair-init
loop-pair-init g c = none_out c.args.self.now

pub loop-pair-preserved : goal.loop-pair-preserved
loop-pair-preserved g c =
    c.remove.ensures.pairs
    ∙ ap (λ ps. without_key ps c.pair-item.result.0) c.loop-pair.invariant
    ∙ one_out c.args.self.now (take c.loop-pair.pair-index c.as_slice-pair-items.result.now) c.pair-item.result
    ∙ ap (λ qs. filter (λ p. not (is_among qs p)) c.args.self.now)
    (ap (λ q. take c.loop-pair.pair-index c.as_slice-pair-items.result.now ++ q ∷ []) c.pair-item.is
    ∙ sym (take_more c.as_slice-pair-items.result.now c.loop-pair.pair-index c.pair-item.result c.loop-pair-test.true))

pub returns-clause-left : goal.returns-clause-left
returns-clause-left g c =
    c.loop-pair.invariant
    ∙ ap (λ qs. filter (λ p. not (is_among qs p)) c.args.self.now) (take_all c.loop-pair.pair-index c.as_slice-pair-items.result.now c.loop-pair-test.false ∙ c.as_slice-pair-items.ensures.value ∙ c.in_ok-taken.ensures.pairs)
    ∙ all_out c.args.self.now c.args.z
