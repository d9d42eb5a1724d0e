-- Where a search for a candidate may begin.
use Rattle.std.specs.Prelude.{if◌then◌else◌, ◌≡◌, ◌<◌, ◌+◌, ◌==◌, ◌&&◌, ◌||◌, nat_lt, ℕ, Bool, true, false, Option}
use Rattle.std.specs.Option.{option_map}
use Rattle.std.specs.Ordering.{is_lt}
use Rattle.col_set.specs.declared.target.Target.{Target}
use Rattle.col_set.specs.declared.target.Target.TheVariants.{Col, RowId}
use Rattle.col_set.specs.ColSet.{report_cmp}
use Rattle.col_set.specs.Target.{IsColumnTarget}
use Rattle.col_set.specs.Lists.{Listed}
use Rattle.candidate_cover.specs.declared.cand.Cand.{Cand}
use Rattle.candidate_cover.specs.declared.cand.Marking.{Marking}
use Rattle.candidate_cover.specs.declared.cand.Marking.TheVariants.{Marked, Dropped}
use Rattle.candidate_cover.specs.Lists.{CandLists}
use Rattle.candidate_cover.specs.Cands.{width, cands_of}
use Rattle.rel_base.specs.RowState.{next}
use Rattle.cover_steps.specs.Core.{Core, is_unfinished, is_drawable, first_unfinished}
use Rattle.negative_cover.specs.declared.concerned.Concerned.{Concerned}
use Rattle.cover_core.specs.declared.cursor.Cursor.{Cursor}
use Rattle.cover_core.specs.declared.cursor.Cursors.{Cursors}
use Rattle.cover_core.specs.declared.cursor.Unfinished.{Unfinished}
use Rattle.negative_cover.specs.Concerning.{concerns}

-- how many targets come before this one
abbrev pub rank : Target → ℕ
rank RowId = 0
rank (Col a) = a + 1

-- no candidate before the cursor passes the test: none of an earlier target, and none of its target that stands before its left side
pub record IsPast (p : Cand → Bool) (c : CandLists) (cursor : Cursor) : Type 0 where
  pub target : IsColumnTarget (width c) cursor.target
  pub earlier : (t : Target) (k : Cand) → rank t < rank cursor.target → Listed k (cands_of c t) → p k ≡ false
  pub before : (k : Cand) → Listed k (cands_of c cursor.target) → is_lt (report_cmp k.left cursor.left) ≡ true → p k ≡ false

-- the same, but for candidates of these targets, whose lists are new
pub record IsPastBut (p : Cand → Bool) (c : CandLists) (concerned : Concerned) (cursor : Cursor) : Type 0 where
  pub target : IsColumnTarget (width c) cursor.target
  pub earlier : (t : Target) (k : Cand) → concerns concerned t ≡ false → rank t < rank cursor.target → Listed k (cands_of c t) → p k ≡ false
  pub before : (k : Cand) → concerns concerned cursor.target ≡ false → Listed k (cands_of c cursor.target) → is_lt (report_cmp k.left cursor.left) ≡ true
      → p k ≡ false

-- whether one cursor stands before another
abbrev pub stands_before : Cursor → Cursor → Bool
stands_before a b = nat_lt (rank a.target) (rank b.target) || ((rank a.target == rank b.target) && is_lt (report_cmp a.left b.left))

-- the one that stands first
abbrev pub lesser : Cursor → Cursor → Cursor
lesser a b = if stands_before a b then a else b

-- whether a candidate that was marked up to this number, if it was, may be below that one still
abbrev pub is_late : Marking → ℕ → ℕ → Bool
is_late Marked to n = nat_lt to n
is_late Dropped to n = false

-- where a candidate stands, and below which number it is known to hold
abbrev pub place : (Target × Cand) → Unfinished
place e = record { target = e.0; left = e.1.left; upto = e.1.upto }

-- what a book's cursors are for
pub record ArePast (s : Core) (cursors : Cursors) : Type 0 where
  pub unfinished : IsPast (is_unfinished (next s.rows)) s.candidates cursors.unfinished
  pub drawable : IsPast (is_drawable (next s.rows)) s.candidates cursors.drawable

-- both, where the lists of some targets are new
pub record ArePastBut (n : ℕ) (c : CandLists) (concerned : Concerned) (cursors : Cursors) : Type 0 where
  pub unfinished : IsPastBut (is_unfinished n) c concerned cursors.unfinished
  pub drawable : IsPastBut (is_drawable n) c concerned cursors.drawable

-- what a book keeps of the first unfinished candidate
abbrev pub IsFirst : Core → Option Unfinished → Type 0
IsFirst s first = first ≡ option_map place (first_unfinished s)
