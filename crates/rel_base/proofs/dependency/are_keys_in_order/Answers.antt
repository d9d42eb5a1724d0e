use Rattle.std.proofs.Common.{refl, arith}
use Rattle.col_set.specs.Columns.{report_total}
use Rattle.rel_base.proofs.Adjacent.{AllPairs-adjacent}
use Rattle.rel_base.proofs.dependency.are_keys_in_order.Goals as goal

pub returns : goal.returns
returns c = (λ t. AllPairs-adjacent report_total c.args.keys.now (λ k d l. let e = c.loop-place-test.false in c.loop-place.invariant k d (omega arith)), λ all. refl)
