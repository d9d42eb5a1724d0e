use Rattle.fd_closure.proofs.Walking.{closure-one, columns-whole}
use Rattle.fd_closure.proofs.laws.closures_are_unique.Goals as goal

pub returns : goal.returns
returns c fds = record { one = closure-one fds; columns = columns-whole fds }
