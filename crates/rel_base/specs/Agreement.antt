-- The agreement of two rows.
use Rattle.std.specs.Prelude.{◌≡◌, ◌≢◌, ℕ, Bool, not, ◌&&◌, [], nat_eq}
use Rattle.std.specs.List.{filter}
use Rattle.std.specs.Cmp.Lexicographic.{pointwise}
use Rattle.rel_base.specs.declared.nulls.Nulls.{Nulls}
use Rattle.rel_base.specs.declared.nulls.Nulls.TheVariants.{Equal, Distinct}
use Rattle.col_set.specs.ColSet.{Columns, set_of, upto}
use Rattle.rel_base.specs.Cells.{Cell, Row, cell}

-- whether two cells have the same bytes
abbrev pub same_cell : Cell → Cell → Bool
same_cell = pointwise nat_eq

-- whether two cells agree: they are equal, and where NULL agrees with nothing, they are not NULL
abbrev pub agrees : Nulls → Cell → Cell → Bool
agrees Equal a b = same_cell a b
agrees Distinct a b = same_cell a b && not (same_cell a [])

-- the same as a fact
abbrev pub Agrees : Nulls → Cell → Cell → Type 0
Agrees Equal a b = a ≡ b
Agrees Distinct a b = (a ≡ b) × (a ≢ [])

-- the agree set of two rows: the columns, of the first n, in which their cells agree
unfoldable pub agree : Nulls → ℕ → Row → Row → Columns
agree nulls n a b = set_of (filter (λ k. agrees nulls (cell a k) (cell b k)) (upto n))
