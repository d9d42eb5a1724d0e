-- What a book keeps.
use Rattle.rel_base.specs.CodeTable.{CodeTable, IsCodeTable}
use Rattle.rel_base.specs.Shows.{Shows}
use Rattle.cover_steps.specs.Core.{Core}
use Rattle.cover_steps.specs.Sound.{Sound}

-- its state is sound, and its snapshot shows its rows
pub record IsBook (s : Core) (snapshot : CodeTable) : Type 0 where
  pub sound : Sound s
  pub table : IsCodeTable snapshot
  pub shows : Shows snapshot s.rows
