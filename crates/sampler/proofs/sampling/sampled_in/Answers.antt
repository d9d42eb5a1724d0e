use Rattle.std.proofs.Common.{◌++◌, List, [], arith, subst}
use Rattle.std.specs.List.{All, Contains}
use Rattle.negative_cover.specs.declared.negative_cover.Witness.{Witness}
use Rattle.sampler.specs.Agreeing.{all_agreeing, IsNear}
use Rattle.sampler.proofs.Agreeing.{agreeing_near, all_among}
use Rattle.sampler.proofs.sampling.sampled_in.Goals as goal

pub returns : goal.returns
returns c =
    let r = c.args.rows.now in
    let s = c.args.snapshot.now in
    let pairs = c.in_ok-pairs.pairs.items in
    all_among (IsNear r s) r pairs [] c.push_unseen.new.found.items
    (subst (λ (ps : List _). All (Contains ([] ++ all_agreeing r ps)) c.push_unseen.new.found.items) c.as_slice.ensures.value
    (subst (λ (ws : List Witness). All (Contains (ws ++ all_agreeing r c.as_slice.result.now)) c.push_unseen.new.found.items) c.new-found.ensures.items c.in_ok-push_unseen.ensures.among))
    (λ k d l. absurd (omega arith)) (agreeing_near r s c.args.column pairs c.requires c.in_ok-pairs.ensures.neighbours)
