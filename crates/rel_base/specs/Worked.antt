-- Small relations to try the definitions on.
use Rattle.std.specs.Prelude.{ℕ, true, List, [], ◌∷◌}
use Rattle.rel_base.specs.declared.nulls.Nulls.{Nulls}
use Rattle.rel_base.specs.declared.nulls.Nulls.TheVariants.{Equal}
use Rattle.rel_base.specs.declared.batch.Op.{Op}
use Rattle.rel_base.specs.declared.batch.Op.TheVariants.{Insert, Delete, Update}
use Rattle.rel_base.specs.Cells.{Cell, Row}
use Rattle.rel_base.specs.CodeTable.{CodeTable}
use Rattle.rel_base.specs.RowState.{RowState}
use Rattle.rel_base.specs.declared.limits.TheConstants.{MOST_ROWS}

-- a cell of one byte, and NULL
abbrev pub one : ℕ → Cell
one byte = byte ∷ []

abbrev pub null : Cell
null = []

-- a row of two cells
abbrev pub two : Cell → Cell → Row
two a b = a ∷ b ∷ []

-- the columns k and v, and the rows (1, x), (1, y) and (2, z)
unfoldable pub letters : RowState
letters = record {
  names = two (one 107) (one 118);
  nulls = Equal;
  limit = MOST_ROWS;
  given = two (one 49) (one 120) ∷ two (one 49) (one 121) ∷ two (one 50) (one 122) ∷ [];
  live = 1 ∷ 2 ∷ 3 ∷ [];
}

-- the same rows as codes
unfoldable pub letter_codes : CodeTable
letter_codes = record { codes = (0 ∷ 0 ∷ 1 ∷ []) ∷ (0 ∷ 1 ∷ 2 ∷ []) ∷ []; live = true ∷ true ∷ true ∷ []; to = 4 }

-- the columns a and b, and the rows (NULL, 1) and (NULL, 2), with NULL read one way or the other
unfoldable pub blanks : Nulls → RowState
blanks nulls = record {
  names = two (one 97) (one 98);
  nulls = nulls;
  limit = MOST_ROWS;
  given = two null (one 49) ∷ two null (one 50) ∷ [];
  live = 1 ∷ 2 ∷ [];
}

-- the columns a, b and c, and the rows of an exclusive or
unfoldable pub parity : RowState
parity = record {
  names = one 97 ∷ one 98 ∷ one 99 ∷ [];
  nulls = Equal;
  limit = MOST_ROWS;
  given = (one 48 ∷ one 48 ∷ one 48 ∷ []) ∷ (one 48 ∷ one 49 ∷ one 49 ∷ []) ∷ (one 49 ∷ one 48 ∷ one 49 ∷ []) ∷ (one 49 ∷ one 49 ∷ one 48 ∷ []) ∷ [];
  live = 1 ∷ 2 ∷ 3 ∷ 4 ∷ [];
}

-- row 2 ends, and (5, q) comes
unfoldable pub exchange : List Op
exchange = Delete 2 ∷ Insert (two (one 53) (one 113)) ∷ []

-- (3, w) comes, and row 9 is to end
unfoldable pub misses : List Op
misses = Insert (two (one 51) (one 119)) ∷ Delete 9 ∷ []

-- row 2 becomes (1, x)
unfoldable pub repeats : List Op
repeats = Update 2 (two (one 49) (one 120)) ∷ []
