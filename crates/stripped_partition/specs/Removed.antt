-- How many rows stand out in groups: those that do not have the code that most rows of their group have.
use Rattle.std.specs.Prelude.{◌<◌, ◌≤◌, ◌-◌, ◌==◌, ℕ, List, [], ◌∷◌, length, map, count_by, max, nat_le, Option, Some, None, if◌then◌else◌}
use Rattle.std.specs.List.{All, sum_by}
use Rattle.rel_base.specs.CodeTable.{CodeTable, code_at}
use Rattle.rel_base.specs.Shows.{live_numbers}

-- the greatest of these numbers, or 0
unfoldable pub greatest : List ℕ → ℕ
greatest [] = 0
greatest (x ∷ xs) = max x (greatest xs)

-- how often the code stands in this list that stands there most often
unfoldable pub largest_part : List ℕ → ℕ
largest_part codes = greatest (map (λ c. count_by (λ d. d == c) codes) codes)

-- a group's size less the number of rows that most of its rows agree with in a column
unfoldable pub outside_largest : CodeTable → ℕ → List ℕ → ℕ
outside_largest s a group = length group - largest_part (map (λ row. code_at s row a) group)

-- the sum of that over the groups
unfoldable pub removed_of : CodeTable → ℕ → List (List ℕ) → ℕ
removed_of s a groups = sum_by (outside_largest s a) groups

-- a number, where it is no more than this
abbrev pub up_to : ℕ → ℕ → Option ℕ
up_to most n = if nat_le n most then Some n else None

-- what there is to count with: so many slots, and room for the codes of so many rows
pub record Room : Type 0 where
  pub slots : ℕ
  pub rows : ℕ

-- there is a slot for each code of the snapshot, and room for all its live rows
pub record HasRoom (s : CodeTable) (room : Room) : Type 0 where
  pub some : 0 < room.slots
  pub coded : All (λ codes. All (λ code. code < room.slots) codes) s.codes
  pub rows : length (live_numbers s) ≤ room.rows
