-- Numbers and columns in the fields of a certificate.
use Rattle.std.specs.Prelude.{◌&&◌, ◌||◌, if◌then◌else◌, ◌==◌, ◌+◌, ◌-◌, not, nat_le, ℕ, Bool, List, [], ◌∷◌, length, slice_index, Option, Some, None, option_map}
use Rattle.std.specs.Char.{is_ascii_digit}
use Rattle.std.specs.List.{list_all}
use Rattle.std.specs.Str.Parse.{digits_value}
use Rattle.col_set.specs.ColSet.{Columns, set_of}
use Rattle.rel_base.specs.Cells.{Cell}

-- ---- numbers
-- one to ten bytes, of which the first is the digit 0 only where it stands alone
abbrev pub is_plain : Cell → Bool
is_plain field = nat_le 1 (length field) && nat_le (length field) 10 && (length field == 1 || not (slice_index field 0 == 48))

-- the number that digits write, if nothing else is there
abbrev pub value_of : Cell → Option ℕ
value_of field = if list_all is_ascii_digit field then Some (digits_value 10 field) else None

-- a number, if it is no more than so many
abbrev pub at_most : ℕ → Option ℕ → Option ℕ
at_most most None = None
at_most most (Some n) = if nat_le n most then Some n else None

-- the number that a field writes in plain decimal, 0 to 4294967295, if it does
unfoldable pub number : Cell → Option ℕ
number field = if is_plain field then at_most 4294967295 (value_of field) else None

-- ---- columns
-- the column, counted from 0, that a number from 1 to 128 names
abbrev pub column_numbered : Option ℕ → Option ℕ
column_numbered None = None
column_numbered (Some n) = if nat_le 1 n && nat_le n 128 then Some (n - 1) else None

-- the column that a word names
abbrev pub column_of : Cell → Option ℕ
column_of word = column_numbered (number word)

-- a byte before the words
abbrev pub before_words : ℕ → List Cell → List Cell
before_words byte [] = (byte ∷ []) ∷ []
before_words byte (word ∷ words) = (byte ∷ word) ∷ words

-- the words of a field: what stands between its spaces
unfoldable pub words : Cell → List Cell
words [] = [] ∷ []
words (byte ∷ bytes) = if byte == 32 then [] ∷ words bytes else before_words byte (words bytes)

-- the words behind one: none at the end, or those behind the space that stands there
abbrev pub words_after : Cell → List Cell
words_after [] = []
words_after (byte ∷ bytes) = words bytes

-- a column that is at least so great, before the columns from the next one on
abbrev pub ascending_with : ℕ → Option ℕ → (ℕ → Option (List ℕ)) → Option (List ℕ)
ascending_with least None rest = None
ascending_with least (Some column) rest = if nat_le least column then option_map (λ columns. column ∷ columns) (rest (column + 1)) else None

-- the columns that words name, if they ascend and the first is at least so great
unfoldable pub ascending : ℕ → List Cell → Option (List ℕ)
ascending least [] = Some []
ascending least (word ∷ others) = ascending_with least (column_of word) (λ next. ascending next others)

-- the column set that a field writes: columns that ascend, with a space between, or nothing
unfoldable pub columns_of : Cell → Option Columns
columns_of [] = Some (set_of [])
columns_of (byte ∷ bytes) = option_map set_of (ascending 0 (words (byte ∷ bytes)))
