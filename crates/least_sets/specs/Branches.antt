-- How the least column sets that no agree set contains are split by a column: those with it, and those without it.
use Rattle.std.specs.Prelude.{◌≡◌, ◌≤◌, ◌-◌, ◌⊎◌, ◌++◌, ℕ, Bool, true, false, not, ◌&&◌, List, map, length, take, drop}
use Rattle.std.specs.List.{filter, list_any, flat_map}
use Rattle.least_sets.specs.declared.frames.Run.{Run}
use Rattle.col_set.specs.ColSet.{Columns, IsSubset, has, without, union, inter, subset}
use Rattle.col_set.specs.Lists.{Listed}

-- whether one of the agree sets contains x
abbrev pub covered : List Columns → Columns → Bool
covered ws x = list_any (λ w. subset x w) ws

-- the agree sets that lack the column
abbrev pub lacking : ℕ → List Columns → List Columns
lacking k ws = filter (λ w. not (has w k)) ws

-- whether one of the agree sets has the column
abbrev pub sees : List Columns → ℕ → Bool
sees ws k = list_any (λ w. has w k) ws

-- the agree sets of a run, and of each of some runs
abbrev pub part : List Columns → Run → List Columns
part own r = take (r.stop - r.start) (drop r.start own)

abbrev pub parts : List Columns → List Run → List (List Columns)
parts own runs = map (part own) runs

abbrev pub join : List (List Columns) → List Columns
join lists = flat_map (λ vs. vs) lists

-- the run stands within the list
pub record IsWithin (own : List Columns) (r : Run) : Type 0 where
  pub order : r.start ≤ r.stop
  pub bound : r.stop ≤ length own

pub record AreWithin (own : List Columns) (runs : List Run) : Type 0 where
  pub each : (r : Run) → Listed r runs → IsWithin own r

-- behind the old agree sets and the old runs, which stand as they did, are new runs with these lists
pub record IsEntered (old : List Columns) (old_runs : List Run) (lists : List (List Columns)) (own : List Columns) (runs : List Run) : Type 0 where
  pub more : List Columns
  pub own_is : own ≡ old ++ more
  pub new : List Run
  pub runs_is : runs ≡ old_runs ++ new
  pub parts_are : parts own new ≡ lists
  pub within : AreWithin own runs

-- vs are those of the agree sets that lack the column d of s
pub record IsRun (s : Columns) (own vs : List Columns) (d : ℕ) : Type 0 where
  pub chosen : has s d ≡ true
  pub lack : (w : Columns) → Listed w vs → has w d ≡ false
  pub all : (w : Columns) → Listed w own → has w d ≡ false → Listed w vs

-- there is a list for each column of s, of the agree sets that lack it, and no other list
pub record IsCut (s : Columns) (lists : List (List Columns)) : Type 0 where
  pub each : (vs : List Columns) → Listed vs lists → (d : ℕ) × IsRun s (join lists) vs d
  pub every : (d : ℕ) → has s d ≡ true → (vs : List Columns) × Listed vs lists × IsRun s (join lists) vs d

-- each column of s has one of the agree sets that lacks it
pub record IsOwned (own : List Columns) (s : Columns) : Type 0 where
  pub each : (d : ℕ) → has s d ≡ true → list_any (λ w. not (has w d)) own ≡ true

-- a column of s that all of the agree sets have
pub record IsUnowned (own : List Columns) (s : Columns) : Type 0 where
  pub column : ℕ
  pub chosen : has s column ≡ true
  pub none : list_any (λ w. not (has w column)) own ≡ false

-- x has all columns of s and none but these and the free ones, no agree set contains it, and one contains each proper subset of it
pub record IsLeastFrom (ws : List Columns) (s free x : Columns) : Type 0 where
  pub above : IsSubset s x
  pub within : IsSubset x (union s free)
  pub stands : covered ws x ≡ false
  pub smallest : (y : Columns) → IsSubset y x → covered ws y ≡ false → y ≡ x

-- What is known where s is chosen and the free columns are not decided yet. The pending agree sets contain s, and tell of each set from s
-- on whether an agree set contains it. The own ones lack one column of s each, and each least set from s on keeps one for each column of s.
pub record IsBranch (ws : List Columns) (s free : Columns) (pending own : List Columns) : Type 0 where
  pub apart : (d : ℕ) → has s d ≡ true → has free d ≡ false
  pub real : (w : Columns) → Listed w pending → Listed w ws
  pub holds : (w : Columns) → Listed w pending → IsSubset s w
  pub tells : (x : Columns) → IsSubset s x → IsSubset x (union s free) → covered ws x ≡ true → covered pending x ≡ true
  pub own_real : (w : Columns) → Listed w own → Listed w ws
  pub own_one : (w : Columns) → Listed w own → (d : ℕ) → has s d ≡ true → has w d ≡ false → IsSubset (without s d) w
  pub own_all : (x : Columns) → IsLeastFrom ws s free x → (d : ℕ) → has s d ≡ true → covered own (without x d) ≡ true
  pub minimal : (d : ℕ) → has s d ≡ true → covered ws (without s d) ≡ true

-- the new list has the old sets, and else least ones from s on; where it is whole, it has all of these
pub record HasBranched (whole : Bool) (ws : List Columns) (s free : Columns) (old new : List Columns) : Type 0 where
  pub each : (x : Columns) → Listed x new → Listed x old ⊎ IsLeastFrom ws s free x
  pub kept : (x : Columns) → Listed x old → Listed x new
  pub every : whole ≡ true → (x : Columns) → IsLeastFrom ws s free x → Listed x new

-- The sets with some of the free columns are among the new ones. What is left to look for are those with none of these columns, and
-- with them the list is as whole.
pub record HasEnded (ws : List Columns) (s free left : Columns) (pending own old mid : List Columns) : Type 0 where
  pub branch : IsBranch ws s left pending own
  pub whole : (all : Bool) (new : List Columns) → HasBranched all ws s left mid new → HasBranched all ws s free old new

-- the agree sets without those that have the column and lie, as far as the free columns go, inside one that lacks it
abbrev pub pruned : ℕ → Columns → List Columns → List Columns
pruned k free ws = filter (λ w. not (has w k && list_any (λ v. subset (inter w free) v) (lacking k ws))) ws
