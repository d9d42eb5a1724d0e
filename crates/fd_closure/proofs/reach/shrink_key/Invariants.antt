use Rattle.std.proofs.Common.{◌≡◌}
use Rattle.col_set.specs.ColSet.{IsSubset, subset}
use Rattle.fd_closure.specs.Closure.{closure_of}
use Rattle.fd_closure.specs.Keys.{shrunk}
use Rattle.fd_closure.proofs.reach.shrink_key.Given as goal

abbrev pub invariant-loop-column : goal.invariant-loop-column
invariant-loop-column l = record {
  inside : IsSubset l.key l.fn.s;
  value : shrunk (λ x. subset l.fn.s (closure_of l.covers.fds x)) l.column l.key ≡ shrunk (λ x. subset l.fn.s (closure_of l.covers.fds x)) 128 l.fn.s;
}
