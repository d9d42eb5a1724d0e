use Rattle.std.proofs.Common.{ℕ, subst}
use Rattle.std.proofs.lemmas.Option.{get_or_from_slice_get}
use Rattle.col_set.specs.ColSet.{IsSubset}
use Rattle.fd_closure.proofs.Filing.{common_none}
use Rattle.fd_closure.proofs.blocks.common_at.Goals as goal

pub returns-then-sides-start-le-BLOCK_SIDES : goal.returns-then-sides-start-le-BLOCK_SIDES
returns-then-sides-start-le-BLOCK_SIDES c side e = common_none c.empty.result side.0 c.empty.ensures

pub returns : goal.returns
returns c side e = subst (λ (p : ℕ × ℕ). IsSubset c.first_apart.result p.0) (get_or_from_slice_get c.args.sides.now c.args.start side c.index-sides-start.result e) c.first_apart.ensures
