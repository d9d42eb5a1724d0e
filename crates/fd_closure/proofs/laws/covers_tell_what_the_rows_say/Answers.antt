use Rattle.rel_base.proofs.Ordered.{covers-in_order}
use Rattle.fd_closure.proofs.Closing.{closure-determined, closure-determines}
use Rattle.fd_closure.proofs.Telling.{shrunk-table_key}
use Rattle.fd_closure.proofs.Walking.{closure_of-closure}
use Rattle.fd_closure.proofs.laws.covers_tell_what_the_rows_say.Goals as goal

pub returns : goal.returns
returns c r is = record {
  order = (covers-in_order r is).fds;
  closure = closure-determined r;
  determines = closure-determines r;
  under = closure_of-closure r;
  key = λ s b. shrunk-table_key r s is.narrow b;
}
