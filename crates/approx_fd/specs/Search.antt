-- What a search for approximate dependencies has at hand and finds.
use Rattle.std.specs.Prelude.{◌≡◌, ◌<◌, ◌≤◌, ◌^◌, ℕ, false, not, List, length, map, Option, None, Some}
use Rattle.std.specs.List.{All, filter}
use Rattle.col_set.specs.declared.target.Target.{Target}
use Rattle.col_set.specs.ColSet.{Columns, IsSubset, all_sets}
use Rattle.col_set.specs.Target.{has_target}
use Rattle.col_set.specs.Evidence.{refuted}
use Rattle.col_set.specs.Lists.{Listed}
use Rattle.rel_base.specs.CodeTable.{CodeTable}
use Rattle.stripped_partition.specs.AnyOrder.{AreGroupsBy}
use Rattle.approx_fd.specs.declared.found.NearKey.{NearKey}
use Rattle.approx_fd.specs.declared.climb.Climb.{Climb}
use Rattle.approx_fd.specs.Removal.{removed_in}

-- what a search is seen as: the snapshot, how many rows may be removed, and the columns of the groups at hand
pub record Searching : Type 0 where
  pub table : CodeTable
  pub most : ℕ
  pub at : Columns

-- w lacks t, and more rows than so many are to be removed for w to determine t
pub record IsFailing (s : CodeTable) (most : ℕ) (t : Target) (w : Columns) : Type 0 where
  pub lacks : has_target w t ≡ false
  pub above : most < removed_in s w t

-- the groups by the columns of a climb: its own, or else those at hand
abbrev pub AreOwn : CodeTable → Columns → Columns → Option (List (List ℕ)) → Type 0
AreOwn s at columns None = at ≡ columns
AreOwn s at columns (Some groups) = AreGroupsBy s columns groups

-- a climb stands at a set that fails, and has its groups
pub record IsClimb (s : Searching) (t : Target) (c : Climb) : Type 0 where
  pub failing : IsFailing s.table s.most t c.columns
  pub groups : AreOwn s.table s.at c.columns c.own

-- these sets, each with how many rows are to be removed for it
abbrev pub counted : CodeTable → Target → List Columns → List NearKey
counted s t xs = map (λ x. record { columns = x; removed = removed_in s x t }) xs

-- so many rows are to be removed, which is not too many
pub record IsCounted (s : CodeTable) (most : ℕ) (t : Target) (k : NearKey) : Type 0 where
  pub removed : k.removed ≡ removed_in s k.columns t
  pub few : k.removed ≤ most

-- a set that fails and contains some of these candidates
pub record IsNews (s : CodeTable) (most : ℕ) (t : Target) (xs : List Columns) (w : Columns) : Type 0 where
  pub candidate : Columns
  pub listed : Listed candidate xs
  pub inside : IsSubset candidate w
  pub failing : IsFailing s most t w

-- a left side within the columns that lacks the target
pub record IsCandidate (s : CodeTable) (t : Target) (x : Columns) : Type 0 where
  pub below : x < 2 ^ length s.codes
  pub lacks : has_target x t ≡ false

-- of each of these sets few enough rows are to be removed
abbrev pub ArePassing : CodeTable → ℕ → Target → List Columns → Type 0
ArePassing s most t xs = All (λ x. removed_in s x t ≤ most) xs

-- how many sets of n columns these refute for no target
unfoldable pub standing : ℕ → List Columns → Target → ℕ
standing n ws t = length (filter (λ x. not (refuted ws t x)) (all_sets n))
