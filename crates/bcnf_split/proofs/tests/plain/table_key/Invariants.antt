use Rattle.std.proofs.Common.{◌≡◌, ◌<◌, ◌^◌}
use Rattle.rel_base.specs.RowState.{RowState, width}
use Rattle.rel_base.specs.Validity.{agree_sets}
use Rattle.fd_closure.specs.Determined.{determines_all}
use Rattle.fd_closure.specs.Keys.{shrunk, table_key}
use Rattle.bcnf_split.proofs.tests.plain.table_key.Given as goal

abbrev pub invariant-loop-column : goal.invariant-loop-column
invariant-loop-column l = (r : RowState) → agree_sets r ≡ l.sets → width r ≡ l.n → l.fn.s < 2 ^ l.n → shrunk (λ x. determines_all r x l.fn.s) l.column l.key ≡ table_key r l.fn.s
