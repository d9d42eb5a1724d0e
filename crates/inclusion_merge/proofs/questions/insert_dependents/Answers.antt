use Rattle.std.proofs.Common.{◌≡◌, ℕ, arith, true, get_or}
use Rattle.col_set.proofs.Places.{Listed-get_or}
use Rattle.inclusion_merge.specs.WideSet.{has_wide}
use Rattle.inclusion_merge.proofs.Asking.{each_more, each_of_all, insert_grows, insert_has}
use Rattle.inclusion_merge.proofs.questions.insert_dependents.Goals as goal

pub insert_wide-requires : goal.insert_wide-requires
insert_wide-requires c = let within = c.requires (get_or c.args.pairs.now c.loop-pair.pair-index (0, 0)) (Listed-get_or c.args.pairs.now c.loop-pair.pair-index (0, 0) (omega arith)) in omega arith

pub loop-pair-preserved : goal.loop-pair-preserved
loop-pair-preserved c =
    let pairs = c.args.pairs.now in
    let i = c.loop-pair.pair-index in
    let old = has_wide c.loop-pair.named in
    let new = has_wide c.insert_wide.new.parts in
    let grows = insert_grows old new (get_or pairs i (0, 0)).0 c.insert_wide.ensures in
    record {
      grows = λ k e. grows k (c.loop-pair.invariant.grows k e);
      each =
          each_more (λ (p : ℕ × ℕ). new p.0 ≡ true) pairs (0, 0) i (omega arith) (λ p h. grows p.0 (c.loop-pair.invariant.each p h))
          (insert_has old new (get_or pairs i (0, 0)).0 c.insert_wide.ensures);
    }

pub returns : goal.returns
returns c = each_of_all (λ (p : ℕ × ℕ). has_wide c.loop-pair.named p.0 ≡ true) c.args.pairs.now (0, 0) c.loop-pair.pair-index (omega arith) c.loop-pair.invariant.each
