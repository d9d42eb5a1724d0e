use Rattle.std.proofs.Common.{◌≡◌, List}
use Rattle.col_set.specs.ColSet.{IsSubset, subset}
use Rattle.col_set.specs.declared.col_set.TheConstants.{MOST_COLUMNS}
use Rattle.rel_base.specs.declared.dependency.Fd.{Fd}
use Rattle.fd_closure.specs.Closure.{closure_of, Tells}
use Rattle.fd_closure.specs.Keys.{shrunk}
use Rattle.fd_closure.proofs.left_sides.LeftSides.shrink_key.Given as goal

abbrev pub invariant-loop-column : goal.invariant-loop-column
invariant-loop-column l = record {
  inside : IsSubset l.key l.fn.s;
  told : (fds : List Fd) → Tells fds l.fn.self → shrunk (λ x. subset l.fn.s (closure_of fds x)) l.column l.key ≡ shrunk (λ x. subset l.fn.s (closure_of fds x)) MOST_COLUMNS l.fn.s;
}
