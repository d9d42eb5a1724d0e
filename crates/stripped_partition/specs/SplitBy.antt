-- What a column tells apart in the groups of a partition.
use Rattle.std.specs.Prelude.{◌≡◌, ◌==◌, ℕ, not, Bool, List, Option, option_map, unwrap_or, slice_index}
use Rattle.std.specs.List.{list_any, find, Contains}
use Rattle.rel_base.specs.CodeTable.{CodeTable, code_at}

-- the first row of a group, which is its least
abbrev pub least : List ℕ → ℕ
least group = slice_index group 0

-- whether two rows have different codes in a column
abbrev pub differ : CodeTable → ℕ → ℕ → ℕ → Bool
differ s a i j = not (code_at s i a == code_at s j a)

-- whether a column splits a group: a row of it differs from its least row
abbrev pub is_split : CodeTable → ℕ → List ℕ → Bool
is_split s a group = list_any (differ s a (least group)) group

-- a group's least row, and the least of its rows that differs from it in the column
abbrev pub split_pair : CodeTable → ℕ → List ℕ → ℕ × ℕ
split_pair s a group = (least group, unwrap_or (find (differ s a (least group)) group) (least group))

-- that of the first group that the column splits, if there is one
unfoldable pub split_by : CodeTable → ℕ → List (List ℕ) → Option (ℕ × ℕ)
split_by s a groups = option_map (split_pair s a) (find (is_split s a) groups)

-- the rows of a group have equal codes in a column
abbrev pub AgreesOn : CodeTable → ℕ → List ℕ → Type 0
AgreesOn s a group = (i j : ℕ) → Contains group i → Contains group j → code_at s i a ≡ code_at s j a
