-- What pairs of rows agree on.
use Rattle.std.specs.Prelude.{◌<◌, ◌==◌, ◌&&◌, ℕ, Bool, not, List, length, map}
use Rattle.std.specs.List.{filter}
use Rattle.rel_base.specs.CodeTable.{CodeTable}
use Rattle.rel_base.specs.RowState.{RowState}
use Rattle.rel_base.specs.Batches.{is_live}
use Rattle.rel_base.specs.Validity.{agree_of}
use Rattle.negative_cover.specs.declared.negative_cover.Witness.{Witness}
use Rattle.cover_steps.specs.Sound.{IsWitness}
use Rattle.sampler.specs.Window.{IsPair}

-- whether the rows are different, and both live
abbrev pub are_two : RowState → ℕ × ℕ → Bool
are_two r p = not (p.0 == p.1) && (is_live r p.0 && is_live r p.1)

-- the rows, with what they agree on
abbrev pub agreeing : RowState → ℕ × ℕ → Witness
agreeing r p = record { i = p.0; j = p.1; agree = agree_of r p.0 p.1 }

-- those of these pairs that are of different live rows, with what they agree on
unfoldable pub all_agreeing : RowState → List (ℕ × ℕ) → List Witness
all_agreeing r pairs = map (agreeing r) (filter (are_two r) pairs)

-- Two different live rows and what they agree on, which are neighbours on some column.
pub record IsNear (r : RowState) (s : CodeTable) (w : Witness) : Type 0 where
  pub witness : IsWitness r w
  pub column : ℕ
  pub within : column < length s.codes
  pub pair : IsPair s column 1 w.i w.j
