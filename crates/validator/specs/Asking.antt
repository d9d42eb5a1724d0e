-- What is asked of a store's partitions.
use Rattle.std.specs.Prelude.{◌≡◌, ◌<◌, ◌≤◌, ◌^◌, ℕ, true, length, Vec, vec_len}
use Rattle.std.specs.declared.alloc.Global.{Global}
use Rattle.col_set.specs.Target.{IsColumnTarget}
use Rattle.rel_base.specs.CodeTable.{CodeTable}
use Rattle.rel_base.specs.Shows.{holds_in_below}
use Rattle.validator.specs.Verdicts.{AreFound}
use Rattle.validator.specs.declared.cache.Asked.{Asked}

-- The left side and the target are columns of the snapshot, the dependency holds among the rows below `from`, and some pair is wanted.
pub record IsAsked (s : CodeTable) (asked : Asked) : Type 0 where
  pub left : asked.left < 2 ^ length s.codes
  pub target : IsColumnTarget (length s.codes) asked.target
  pub below : holds_in_below asked.from s asked.left asked.target ≡ true
  pub some : 0 < asked.most

-- these pairs answer it: they are what shows that the dependency does not hold, and no more than were wanted
pub record IsAnswer (s : CodeTable) (asked : Asked) (pairs : Vec (ℕ × ℕ) Global) : Type 0 where
  pub found : AreFound s asked.left asked.target pairs.items
  pub few : vec_len pairs ≤ asked.most
