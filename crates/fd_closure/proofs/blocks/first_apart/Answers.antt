use Rattle.std.proofs.Common.{ℕ, sym, subst}
use Rattle.col_set.specs.ColSet.{IsSubset}
use Rattle.fd_closure.proofs.Filing.{minus_inside}
use Rattle.fd_closure.proofs.Reaching.{rest_smaller}
use Rattle.fd_closure.proofs.blocks.first_apart.Goals as goal

pub loop-column-smaller : goal.loop-column-smaller
loop-column-smaller c = rest_smaller c.loop-column.rest c.without-rest.result c.in-Some.column c.in-Some.ensures.value c.without-rest.ensures

pub returns : goal.returns
returns c = subst (λ (z : ℕ). IsSubset z c.args.one) (sym c.minus.ensures) (minus_inside c.args.one c.match-first.rest)
