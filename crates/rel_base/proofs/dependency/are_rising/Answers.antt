use Rattle.std.proofs.Common.{refl, arith}
use Rattle.std.proofs.lemmas.Bool.{false≢true}
use Rattle.rel_base.proofs.Adjacent.{AllPairs-adjacent, not-adjacent, fd_total}
use Rattle.rel_base.proofs.dependency.are_rising.Goals as goal

pub returns-then-ne : goal.returns-then-ne
returns-then-ne c =
    let l = c.loop-place-test.true in let p = c.loop-place.auto.place in (
      λ t. absurd (false≢true t),
      λ all. absurd (not-adjacent fd_total c.args.fds.now c.loop-place.place c.index-fds-place.result c.index-fds-place-in-loop-place.result c.cmp_report.result c.ne.result (omega arith) l
          c.index-fds-place.is c.index-fds-place-in-loop-place.is c.cmp_report.ensures c.ne.ensures c.if-ne.true all),
    )

pub returns : goal.returns
returns c = (λ t. AllPairs-adjacent fd_total c.args.fds.now (λ k d l. let e = c.loop-place-test.false in c.loop-place.invariant k d (omega arith)), λ all. refl)
