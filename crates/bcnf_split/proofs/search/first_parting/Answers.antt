use Rattle.bcnf_split.proofs.Searching.{walked-all}
use Rattle.bcnf_split.proofs.search.first_parting.Goals as goal

pub returns-clause-first : goal.returns-clause-first
returns-clause-first c r t x e = walked-all c.args.covers.now c.args.s c.fds-fds.result.now c.loop-fd.fd-index c.loop-fd.first c.loop-fd.invariant c.fds-fds.ensures.value c.loop-fd-test.false r t x e
