use Rattle.std.proofs.Common.{◌≡◌, ◌<◌, ℕ, true, get_or}
use Rattle.validator.proofs.chain.are_same.Given as goal

abbrev pub invariant-loop-place : goal.invariant-loop-place
invariant-loop-place g l = l.same ≡ true → (k : ℕ) (d : g.row.C.Denot) → k < l.place → g.C.Code.number (get_or l.codes k d) ≡ g.C.Code.number (get_or l.others k d)
