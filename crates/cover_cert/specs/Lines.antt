-- What one record of a certificate says.
use Rattle.std.specs.Prelude.{if◌then◌else◌, ◌==◌, ℕ, [], ◌∷◌, length, Option, Some, None, option_map}
use Rattle.rel_base.specs.Cells.{Cell, Row, cell}
use Rattle.rel_base.specs.Agreement.{same_cell}
use Rattle.cover_cert.specs.declared.line.Kind.{Kind}
use Rattle.cover_cert.specs.declared.line.Kind.TheVariants as kind
use Rattle.cover_cert.specs.declared.line.Line.{Line}
use Rattle.cover_cert.specs.declared.line.Line.TheVariants as line
use Rattle.cover_cert.specs.Fields.{number, column_of, columns_of}

-- ---- the first field
-- cert, pair, key, fd and end
abbrev pub cert_word : Cell
cert_word = 99 ∷ 101 ∷ 114 ∷ 116 ∷ []

abbrev pub pair_word : Cell
pair_word = 112 ∷ 97 ∷ 105 ∷ 114 ∷ []

abbrev pub key_word : Cell
key_word = 107 ∷ 101 ∷ 121 ∷ []

abbrev pub fd_word : Cell
fd_word = 102 ∷ 100 ∷ []

abbrev pub end_word : Cell
end_word = 101 ∷ 110 ∷ 100 ∷ []

unfoldable pub kind_of : Cell → Option Kind
kind_of word =
    if same_cell word cert_word then Some kind.Cert
    else if same_cell word pair_word then Some kind.Pair
    else if same_cell word key_word then Some kind.Key
    else if same_cell word fd_word then Some kind.Fd
    else if same_cell word end_word then Some kind.End
    else None

-- how many fields a record of a kind has
abbrev pub fields_in : Kind → ℕ
fields_in kind.Cert = 3
fields_in kind.Pair = 3
fields_in kind.Key = 2
fields_in kind.Fd = 3
fields_in kind.End = 1

-- ---- the other fields
-- a line of two numbers, where both are there
abbrev pub of_both : {A B : Type 0} → (A → B → Line) → Option A → Option B → Option Line
of_both make None b = None
of_both make (Some a) None = None
of_both make (Some a) (Some b) = Some (make a b)

-- what the second and the third field say in a record of a kind
abbrev pub line_by : Kind → Cell → Cell → Option Line
line_by kind.Cert second third = of_both (λ columns rows. line.Cert (record { columns = columns; rows = rows })) (number second) (number third)
line_by kind.Pair second third = of_both (λ i j. line.Pair (record { first = i; second = j })) (number second) (number third)
line_by kind.Key second third = option_map line.Key (columns_of second)
line_by kind.Fd second third = of_both (λ left right. line.Fd (record { left = left; right = right })) (columns_of second) (column_of third)
line_by kind.End second third = Some line.End

-- the same, where there is a kind, and the record has its number of fields
abbrev pub line_where : Option Kind → Row → Option Line
line_where None row = None
line_where (Some kind) row = if length row == fields_in kind then line_by kind (cell row 1) (cell row 2) else None

-- the line that a record of a text is, if it is one
unfoldable pub line_of : Row → Option Line
line_of row = line_where (kind_of (cell row 0)) row
