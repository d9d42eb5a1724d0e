use Rattle.std.proofs.Common.{◌≡◌, ◌∷◌, map, length}
use Rattle.rel_base.specs.Cells.{Row}
use Rattle.rel_base.specs.Agreement.{agree}
use Rattle.rel_base.specs.Validity.{pairs}
use Rattle.plain_base.proofs.Pairs.{pairs_more, pairs_end, none_left, All-rest}
use Rattle.plain_base.proofs.pairwise.agree_sets.Goals as goal

pub loop-row-preserved : goal.loop-row-preserved
loop-row-preserved c =
    let is : c.loop-row.left.now ≡ c.in-Some.row.now ∷ c.in-Some.others.now = c.in-Some.ensures.cases.0 in
    record {
      told = pairs_more (λ p. agree c.args.nulls c.args.columns p.0 p.1) c.in-Some.row.now c.in-Some.others.now c.loop-row.left.now c.loop-row.sets.items c.push_agree_sets.new.sets.items
          (map (λ p. agree c.args.nulls c.args.columns p.0 p.1) (pairs c.args.rows.now)) is c.in_ok-push_agree_sets.ensures c.loop-row.invariant.told;
      wide = All-rest (λ (row : Row). length row ≡ c.args.columns) c.in-Some.row.now c.in-Some.others.now c.loop-row.left.now is c.loop-row.invariant.wide;
    }

pub returns : goal.returns
returns c = pairs_end (λ p. agree c.args.nulls c.args.columns p.0 p.1) c.loop-row.left.now c.loop-row.sets.items (map (λ p. agree c.args.nulls c.args.columns p.0 p.1) (pairs c.args.rows.now))
    (none_left c.loop-row.left.now c.in_default.ensures.cases) c.loop-row.invariant.told
