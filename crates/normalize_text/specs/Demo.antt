-- The relation that `demo` makes of a seed, and the line of counts that it writes.
use Rattle.std.specs.Prelude.{if◌then◌else◌, ◌==◌, ◌++◌, ◌+◌, ◌*◌, ◌/◌, ◌%◌, ℕ, zero, suc, List, [], ◌∷◌, length, map, codes, decimal}
use Rattle.col_set.specs.ColSet.{all}
use Rattle.rel_base.specs.Cells.{Row}
use Rattle.rel_base.specs.Relation.{Content}
use Rattle.rel_base.specs.RowState.{RowState, width}
use Rattle.rel_base.specs.Covers.{covers}
use Rattle.rel_base.specs.Inclusion.{all_columns, inclusions}
use Rattle.bcnf_split.specs.Split.{splits}
use Rattle.report_text.specs.Outcome.{demo_line}

-- one draw, and what it gives
abbrev pub next_state : ℕ → ℕ
next_state s = (s * 1103515245 + 12345) % 2147483648

abbrev pub drawn : ℕ → ℕ
drawn s = s / 65536

-- the state after so many draws
unfoldable pub state_after : ℕ → ℕ → ℕ
state_after seed zero = seed
state_after seed (suc k) = next_state (state_after seed k)

-- 1 or NULL
abbrev pub last_cell : ℕ → List ℕ
last_cell d = if d % 2 == 1 then codes "1" else []

-- the row of a number by the six draws that are made for it
unfoldable pub drawn_row : ℕ → ℕ → ℕ → ℕ → ℕ → ℕ → ℕ → Row
drawn_row r d1 d2 d3 d4 d5 d6 =
    map decimal (r ∷ d1 % 10 ∷ d2 % 20 ∷ d3 % 50 ∷ d4 % 100 ∷ d5 % 1000
    ∷ (7 * (d1 % 10) + 3) % 10 ∷ (d2 % 20 + d3 % 50) % 13 ∷ 0 ∷ d5 % 1000 % 25 ∷ 3 * (d4 % 100) ∷ [])
    ++ last_cell d6 ∷ []

-- the row of a number where the state is s before its draws
unfoldable pub row_from : ℕ → ℕ → Row
row_from r s =
    drawn_row r (drawn (state_after s 1)) (drawn (state_after s 2)) (drawn (state_after s 3))
    (drawn (state_after s 4)) (drawn (state_after s 5)) (drawn (state_after s 6))

-- so many rows from this number on, the first of them drawn in this state
unfoldable pub rows_from : ℕ → ℕ → ℕ → List Row
rows_from zero r s = []
rows_from (suc n) r s = row_from r s ∷ rows_from n (r + 1) (state_after s 6)

abbrev pub demo_rows : ℕ
demo_rows = 5000

abbrev pub demo_names : Row
demo_names =
    codes "c1" ∷ codes "c2" ∷ codes "c3" ∷ codes "c4" ∷ codes "c5" ∷ codes "c6"
    ∷ codes "c7" ∷ codes "c8" ∷ codes "c9" ∷ codes "c10" ∷ codes "c11" ∷ codes "c12" ∷ []

unfoldable pub demo_content : ℕ → Content
demo_content seed = record { names = demo_names; rows = rows_from demo_rows 1 seed }

-- the counts of the lines that `normalize` writes for a row state
unfoldable pub demo_text : ℕ → RowState → List ℕ
demo_text seed r =
    demo_line seed (length (covers r).keys) (length (covers r).fds) (length (inclusions (all_columns (r ∷ [])))) (length (splits r (all (width r))))
