-- What a text that a dictionary keeps is seen as.
use Rattle.std.specs.Prelude.{◌≤◌, ℕ, ⊤, List, take}
use Rattle.column_dict.specs.declared.text.Kept.{Kept}
use Rattle.column_dict.specs.declared.text.Kept.TheVariants.{Short, Middle, Wide, Long}

-- its bytes
abbrev pub bytes_of : Kept → List ℕ
bytes_of (Short count bytes) = take count bytes
bytes_of (Middle count bytes) = take count bytes.value
bytes_of (Wide count bytes) = take count bytes.value
bytes_of (Long bytes) = bytes.value.items

-- no block is read past its end
abbrev pub IsKept : Kept → Type 0
IsKept (Short count bytes) = count ≤ 14
IsKept (Middle count bytes) = count ≤ 24
IsKept (Wide count bytes) = count ≤ 40
IsKept (Long bytes) = ⊤
