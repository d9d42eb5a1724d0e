-- Tests of entries.
use Rattle.std.specs.Prelude.{◌≤◌, ◌-◌, Bool}
use Rattle.std.specs.List.{All}
use Rattle.col_set.specs.declared.target.Target.{Target}
use Rattle.candidate_cover.specs.declared.cand.Cand.{Cand}
use Rattle.rel_base.specs.RowState.{next}
use Rattle.cover_steps.specs.Core.{Core, entries}

-- a test of entries that looks at the candidate alone
abbrev pub on_cand : (Cand → Bool) → (Target × Cand) → Bool
on_cand p e = p e.1

-- each candidate is known to hold among all rows but the last one given at least
abbrev pub AreNear : Core → Type 0
AreNear s = All (λ e. next s.rows - 1 ≤ e.1.upto) (entries s)
