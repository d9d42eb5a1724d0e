use Rattle.bcnf_split.proofs.Searching.{Walked}
use Rattle.bcnf_split.proofs.search.first_parting.Given as goal

abbrev pub invariant-loop-fd : goal.invariant-loop-fd
invariant-loop-fd l = Walked l.covers l.s l.fds l.fd-index l.first
