use Rattle.std.proofs.Common.{◌≡◌, take}
use Rattle.rel_base.proofs.packed_codes.words_of.Given as goal

abbrev pub invariant-loop-code : goal.invariant-loop-code
invariant-loop-code l = l.list.items ≡ take l.code-index l.codes
