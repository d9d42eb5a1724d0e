-- The laws of the definitions, which functions with an empty body ensure.
use Rattle.std.specs.Prelude.{◌≡◌, ℕ, true, [], ◌∷◌, ◌++◌, ◌↔◌, None, MatchOption, IfSome}
use Rattle.std.specs.List.{All, Contains}
use Rattle.col_set.specs.ColSet.{Columns, IsSubset, has, union, minus}
use Rattle.rel_base.specs.RowState.{RowState}
use Rattle.rel_base.specs.Minimality.{MinFd}
use Rattle.bcnf_split.specs.Bcnf.{IsBcnf, violates, Violates, first_violation}
use Rattle.bcnf_split.specs.Split.{dependents, splits}

-- The test says what the fact says, and where nothing violates it, a table is in BCNF.
pub record ViolationsMean (r : RowState) (s : Columns) : Type 0 where
  pub test : (x : Columns) → (violates r s x ≡ true) ↔ Violates r s x
  pub none : (first_violation r s ≡ None) ↔ IsBcnf r s

-- The first violating set in report order is the left side of a minimal dependency inside the table.
pub record IsLeftSide (r : RowState) (s x : Columns) : Type 0 where
  pub column : ℕ
  pub own : has s column ≡ true
  pub minimal : MinFd r x column

abbrev pub FirstIsLeftSide : RowState → Columns → Type 0
FirstIsLeftSide r s = IfSome (first_violation r s) (IsLeftSide r s)

-- The split is what the definition says of each set of the columns at hand.
abbrev pub SplitsAsSaid : RowState → Columns → Type 0
SplitsAsSaid r s =
    MatchOption (first_violation r s) (splits r s ≡ s ∷ []) (λ x. splits r s ≡ splits r (minus s (dependents r s x)) ++ splits r (union x (dependents r s x)))

-- Its tables are all in BCNF, lie inside the set that is split, and together have each of its columns.
pub record SplitMeans (r : RowState) (s : Columns) : Type 0 where
  pub normal : All (IsBcnf r) (splits r s)
  pub inside : All (λ table. IsSubset table s) (splits r s)
  pub every : (a : ℕ) → has s a ≡ true → (table : Columns) × Contains (splits r s) table × (has table a ≡ true)
