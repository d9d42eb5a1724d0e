use Rattle.std.proofs.Common.{◌≡◌, ◌++◌, length}
use Rattle.rel_base.specs.LentCodes.{lent}
use Rattle.row_log.specs.Distinct.{AreUsed, unmarked}
use Rattle.row_log.proofs.column.used_codes.Given as goal

abbrev pub invariant-loop-place : goal.invariant-loop-place
invariant-loop-place l = (length l.used.items ≡ l.fn.count) × AreUsed l.flags (lent l.older ++ l.own) l.place l.used.items × (l.left ≡ unmarked l.used.items)
