-- Lent codes as the list that they are.
use Rattle.std.specs.Prelude.{ℕ, List}
use Rattle.rel_base.specs.declared.packed_codes.CodeSlice.{CodeSlice}
use Rattle.rel_base.specs.declared.packed_codes.CodeSlice.TheVariants.{Bytes, Words, Full}

-- the list, whatever the width
abbrev pub lent : CodeSlice → List ℕ
lent (Bytes list) = list.now
lent (Words list) = list.now
lent (Full list) = list.now
