use Rattle.std.proofs.Common.{List, subst, sym}
use Rattle.std.specs.List.{All}
use Rattle.approx_fd.specs.declared.sweeps.Findings.{Findings}
use Rattle.approx_fd.specs.Sweeps.{AreFindings}
use Rattle.approx_fd.proofs.Sweeping.{more-found}
use Rattle.approx_fd.proofs.by_workers.swept_by.Goals as goal

pub loop-more-preserved : goal.loop-more-preserved
loop-more-preserved g c =
    let P : Findings → Type 0 = AreFindings c.args.snapshot.now c.args.errors in
    let each = subst (λ (fs : List Findings). All P fs) (sym c.deref-more-items.ensures.value) c.in_ok-each.ensures in
    more-found c.args.snapshot.now c.args.errors c.loop-more.found c.more-item.result c.add.new.self c.loop-more.invariant
    (subst P (sym c.more-item.is) (each c.loop-more.more-index c.more-item.result c.loop-more-test.true)) c.in_ok-add.ensures.failures c.in_ok-add.ensures.counts
