use Rattle.std.proofs.Common.{◌≡◌, ℕ, List, subst, rules}
use Rattle.negative_cover.specs.FoundPairs.{HasCompared}
use Rattle.negative_cover.proofs.AllPairs.{compared_block}
use Rattle.negative_cover.proofs.pairing.all_pairs.Goals as goal

pub loop-alloc-preserved : goal.loop-alloc-preserved
loop-alloc-preserved c =
    let same : c.deref.result.now ≡ c.in_ok-late.late.items = search rules in
    record {
      seen = c.in_ok-push_pairs.ensures.seen;
      compared = compared_block c.args.snapshot.now c.args.from c.loop-alloc.start c.block_end-end.result c.to-to.result c.in_ok-late.late.items c.loop-alloc.found.pairs.items c.push_pairs.new.found.pairs.items
          c.to-to.ensures.value c.in_ok-late.ensures
          (subst (λ (rows : List ℕ). HasCompared c.args.snapshot.now c.loop-alloc.start c.block_end-end.result rows c.loop-alloc.found.pairs.items c.push_pairs.new.found.pairs.items) same c.in_ok-push_pairs.ensures.compared)
          c.loop-alloc.invariant.compared;
    }
