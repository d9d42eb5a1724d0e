-- Which columns are included in which, as the search has it.
use Rattle.std.specs.Prelude.{◌≡◌, ◌≢◌, ◌↔◌, ◌<◌, ◌^◌, ◌++◌, ◌==◌, ◌&&◌, ◌||◌, ℕ, Bool, false, List, [], length, map, slice_index_or}
use Rattle.std.specs.List.{AllZip, Contains, list_any}
use Rattle.col_set.specs.ColSet.{upto}
use Rattle.rel_base.specs.Cells.{Cell}
use Rattle.rel_base.specs.RowState.{RowState, width}
use Rattle.rel_base.specs.Inclusion.{all_columns, inclusions}
use Rattle.row_log.specs.Distinct.{AreDistinctCells}
use Rattle.nary_ind.specs.Laws.{start_of, position_of}

-- two columns have the same cells, NULL aside
pub record SameFilled (xs ys : List Cell) : Type 0 where
  pub each : (a : Cell) → a ≢ [] → Contains xs a ↔ Contains ys a

-- the distinct cells of each of the first columns of a relation stand behind the others
pub record AddsColumns (r : RowState) (count : ℕ) (old new : List (List Cell)) : Type 0 where
  pub added : List (List Cell)
  pub each : AllZip (AreDistinctCells r) (upto count) added
  pub behind : new ≡ old ++ added

-- columns of all relations up to order, repetition and NULL, and where those of each relation begin
pub record AreAllColumns (rs : List RowState) (starts : List ℕ) (cells : List (List Cell)) : Type 0 where
  pub begin : starts ≡ map (start_of (map width rs)) (upto (length rs))
  pub same : AllZip SameFilled (all_columns rs) cells

-- whether a pair is one of these
abbrev pub has_pair : List (ℕ × ℕ) → ℕ → ℕ → Bool
has_pair pairs c d = list_any (λ p. (c == p.0) && (d == p.1)) pairs

-- whether a column is in one of these pairs
abbrev pub is_in : List (ℕ × ℕ) → ℕ → Bool
is_in pairs c = list_any (λ p. (c == p.0) || (c == p.1)) pairs

-- whether a column of a relation is included in another or has one that is included in it
unfoldable pub is_used : List RowState → ℕ → ℕ → Bool
is_used rs p c = is_in (inclusions (all_columns rs)) (position_of rs p c)

-- The inclusions among the columns of all relations as a set, and which columns are in one of them.
pub record IsUnary (rs : List RowState) (starts : List ℕ) (set : List (ℕ × ℕ)) (flags : List Bool) : Type 0 where
  pub begin : starts ≡ map (start_of (map width rs)) (upto (length rs))
  pub few : length (all_columns rs) < 2 ^ 64
  pub pairs : (c d : ℕ) → has_pair set c d ≡ has_pair (inclusions (all_columns rs)) c d
  pub long : length flags ≡ length (all_columns rs)
  pub used : (c : ℕ) → slice_index_or flags c false ≡ is_in (inclusions (all_columns rs)) c
