use Rattle.std.proofs.Common.{◌≡◌, ◌++◌}
use Rattle.nary_text.proofs.Heads.{first_heads}
use Rattle.nary_text.proofs.listing.push_heads.Given as goal

abbrev pub invariant-loop-place : goal.invariant-loop-place
invariant-loop-place l = l.lines ≡ l.initial.lines ++ first_heads l.place l.files l.coded
