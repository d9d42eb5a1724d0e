-- The laws of the definitions, which functions with an empty body ensure.
use Rattle.std.specs.Prelude.{◌≡◌, ◌≢◌, ◌<◌, ◌≤◌, ◌^◌, ◌↔◌, ℕ, true, List, length, Ok}
use Rattle.std.specs.List.{All, AllPairs, Contains}
use Rattle.col_set.specs.declared.target.Target.{Target}
use Rattle.col_set.specs.declared.target.Target.TheVariants.{Col, RowId}
use Rattle.col_set.specs.declared.col_set.TheConstants.{MOST_COLUMNS}
use Rattle.std.specs.Ordering.{nat_cmp, on, then_cmp}
use Rattle.std.specs.declared.cmp.Ordering.{Ordering}
use Rattle.std.specs.declared.cmp.Ordering.TheVariants.{Less}
use Rattle.col_set.specs.ColSet.{Columns, IsSubset, report_cmp}
use Rattle.rel_base.specs.declared.limits.TheConstants.{MOST_ROWS, MOST_CELL_BYTES, MOST_BYTES}
use Rattle.rel_base.specs.declared.batch.Op.{Op}
use Rattle.rel_base.specs.declared.batch.Op.TheVariants.{Insert, Delete}
use Rattle.rel_base.specs.Cells.{Cell, Row}
use Rattle.rel_base.specs.CodeTable.{CodeTable}
use Rattle.rel_base.specs.RowState.{RowState, IsRowState, width, next, row}
use Rattle.rel_base.specs.Validity.{agree_of, agree_sets, holds, Holds, holds_below, HoldsBelow, unique}
use Rattle.rel_base.specs.Minimality.{min_fd, MinFd, min_key, MinKey}
use Rattle.rel_base.specs.declared.dependency.Fd.{Fd}
use Rattle.rel_base.specs.Covers.{CoverLists, fd_cmp, covers, least_covers}
use Rattle.rel_base.specs.Batches.{applied, after_from, IsAsWide}
use Rattle.rel_base.specs.Alike.{Alike}
use Rattle.rel_base.specs.Shows.{Shows, holds_in, HoldsIn, holds_in_below, HoldsInBelow}
use Rattle.rel_base.specs.Inclusion.{included, Included, inclusions}
use Rattle.rel_base.specs.Projection.{part, projection}

-- ---- limits
-- The standard limits in digits.
pub record StandardLimits : Type 0 where
  pub columns : MOST_COLUMNS ≡ 128
  pub rows : MOST_ROWS ≡ 1000000
  pub cell : MOST_CELL_BYTES ≡ 65536
  pub bytes : MOST_BYTES ≡ 268435456

-- ---- validity
-- The tests say what the facts say.
pub record TestsMean (r : RowState) : Type 0 where
  pub dependency : (x : Columns) (t : Target) → (holds r x t ≡ true) ↔ Holds r x t
  pub among : (b : ℕ) (x : Columns) (t : Target) → (holds_below b r x t ≡ true) ↔ HoldsBelow b r x t
  pub minimal : (x : Columns) (a : ℕ) → x < 2 ^ width r → a < width r → (min_fd r x a ≡ true) ↔ MinFd r x a
  pub key : (x : Columns) → x < 2 ^ width r → (min_key r x ≡ true) ↔ MinKey r x

-- More columns on the left keep a dependency.
abbrev pub MoreColumnsKeep : Type 0
MoreColumnsKeep = (r : RowState) (x y : Columns) (t : Target) → IsSubset x y → holds r x t ≡ true → holds r y t ≡ true

-- A key determines every column.
abbrev pub KeysDetermine : Type 0
KeysDetermine = (r : RowState) (x : Columns) (a : ℕ) → unique r x ≡ true → holds r x (Col a) ≡ true

-- ---- covers
-- The minimal keys and dependencies are the least sets of the agree sets of the live rows.
abbrev pub CoversAreLeast : Type 0
CoversAreLeast = (r : RowState) → covers r ≡ least_covers (width r) (agree_sets r)

-- The covers have each minimal key and each minimal dependency, each once, in order, and nothing else.
pub record CoversListed (r : RowState) : Type 0 where
  pub keys : (x : Columns) → Contains (covers r).keys x ↔ MinKey r x
  pub keys_in_order : AllPairs (λ x y. report_cmp x y ≡ Less) (covers r).keys
  pub fds : (f : Fd) → Contains (covers r).fds f ↔ MinFd r f.left f.right
  pub fds_in_order : AllPairs (λ f g. fd_cmp f g ≡ Less) (covers r).fds

-- w is the agree set of two different live rows, as the relation reads NULL
pub record IsAgreeSet (r : RowState) (w : Columns) : Type 0 where
  pub first : ℕ
  pub second : ℕ
  pub first_live : Contains r.live first
  pub second_live : Contains r.live second
  pub different : first ≢ second
  pub agrees : w ≡ agree_of r first second

-- the listed keys are unique, and the listed dependencies hold
pub record AllHold (r : RowState) (lists : CoverLists) : Type 0 where
  pub keys : All (λ x. Holds r x RowId) lists.keys
  pub fds : All (λ f. Holds r f.left (Col f.right)) lists.fds

-- Where all that some agree sets of its rows leave holds in a row state, that is its covers.
abbrev pub HoldingEvidenceLeavesCovers : Type 0
HoldingEvidenceLeavesCovers = (r : RowState) (ws : List Columns) → IsRowState r → All (IsAgreeSet r) ws → AllHold r (least_covers (width r) ws)
    → least_covers (width r) ws ≡ covers r

-- ---- batches
-- s may come after r: rows keep their numbers, no number is used twice, and of the rows that r had, none is live again.
pub record Follows (r s : RowState) : Type 0 where
  pub names : s.names ≡ r.names
  pub nulls : s.nulls ≡ r.nulls
  pub limit : s.limit ≡ r.limit
  pub more : next r ≤ next s
  pub rows : (number : ℕ) → 0 < number → number < next r → row s number ≡ row r number
  pub live : (number : ℕ) → number < next r → Contains s.live number → Contains r.live number

-- What a batch leaves is a row state that may come after the one before.
abbrev pub BatchesFollow : Type 0
BatchesFollow = (k : ℕ) (r s : RowState) (ops : List Op) → IsRowState r → All (IsAsWide (width r)) ops → after_from k r ops ≡ Ok s → IsRowState s × Follows r s

-- Inserts can only make dependencies fail, and deletes can only make them hold.
pub record InsertsAndDeletes : Type 0 where
  pub insert : (r s : RowState) (new : Row) (x : Columns) (t : Target) → IsRowState r → applied r (Insert new) ≡ Ok s → holds s x t ≡ true → holds r x t ≡ true
  pub delete : (r s : RowState) (number : ℕ) (x : Columns) (t : Target) → IsRowState r → applied r (Delete number) ≡ Ok s → holds r x t ≡ true
      → holds s x t ≡ true

-- ---- inclusions and projections
-- The test of an inclusion says what the fact says.
abbrev pub InclusionsMean : Type 0
InclusionsMean = (columns : List (List Cell)) (c d : ℕ) → c < length columns → d < length columns → (included columns c d ≡ true) ↔ Included columns c d

-- the order of inclusions: by dependent column, then by referenced column
abbrev pub pair_cmp : ℕ × ℕ → ℕ × ℕ → Ordering
pair_cmp = then_cmp (on (λ p. p.0) nat_cmp) (on (λ p. p.1) nat_cmp)

-- The inclusions of a list of columns have each inclusion, each once, in order, and nothing else.
pub record InclusionsListed (columns : List (List Cell)) : Type 0 where
  pub pairs : (c d : ℕ) → Contains (inclusions columns) (c, d) ↔ Included columns c d
  pub in_order : AllPairs (λ p q. pair_cmp p q ≡ Less) (inclusions columns)

-- A projection has the part of each live row and nothing else, each once.
pub record ProjectionMeans (r : RowState) (s : Columns) : Type 0 where
  pub parts : (p : Row) → Contains (projection r s) p ↔ ((number : ℕ) × Contains r.live number × (part s (row r number) ≡ p))
  pub once : AllPairs (λ p q. p ≢ q) (projection r s)

-- ---- snapshots
-- A dependency holds in the codes of a snapshot, and among its rows below a number, exactly where it holds so in the row state that it shows.
pub record SnapshotsShow (s : CodeTable) (r : RowState) : Type 0 where
  pub all : (x : Columns) (t : Target) → holds_in s x t ≡ holds r x t
  pub among : (b : ℕ) (x : Columns) (t : Target) → holds_in_below b s x t ≡ holds_below b r x t

-- The tests of a dependency in a snapshot say what the facts say.
pub record SnapshotTestsMean (s : CodeTable) : Type 0 where
  pub dependency : (x : Columns) (t : Target) → (holds_in s x t ≡ true) ↔ HoldsIn s x t
  pub among : (b : ℕ) (x : Columns) (t : Target) → (holds_in_below b s x t ≡ true) ↔ HoldsInBelow b s x t

-- Alike snapshots hold the same dependencies.
pub record AlikeHoldTheSame (s u : CodeTable) : Type 0 where
  pub all : (x : Columns) (t : Target) → holds_in s x t ≡ holds_in u x t
  pub among : (b : ℕ) (x : Columns) (t : Target) → holds_in_below b s x t ≡ holds_in_below b u x t

-- Two snapshots that show the same row state are alike.
abbrev pub ShowingTheSameIsAlike : Type 0
ShowingTheSameIsAlike = (s u : CodeTable) (r : RowState) → IsRowState r → Shows s r → Shows u r → Alike s u

-- To be alike is an equivalence.
pub record AlikeIsEquivalence : Type 0 where
  pub itself : (s : CodeTable) → Alike s s
  pub turned : (s u : CodeTable) → Alike s u → Alike u s
  pub trans : (s u v : CodeTable) → Alike s u → Alike u v → Alike s v
