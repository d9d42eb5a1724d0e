use Rattle.std.proofs.Common.{◌≡◌, take}
use Rattle.rel_base.specs.LentCodes.{lent}
use Rattle.row_log.proofs.codes.CodeList.joined.Given as goal

abbrev pub invariant-loop-place : goal.invariant-loop-place
invariant-loop-place l = l.codes.items ≡ take l.place (lent l.older)
