use Rattle.std.proofs.Common.{◌≡◌, ◌<◌, ◌≤◌, ◌++◌, ◌∷◌, ℕ, [], length, get_or}
use Rattle.csv.specs.Records.{fields_of}
use Rattle.rel_base.specs.Cells.{cell}
use Rattle.rel_base.proofs.relation.Relation.with_record.Given as goal

abbrev pub invariant-loop-place : goal.invariant-loop-place
invariant-loop-place l =
    (length l.columns.items ≡ length l.initial.columns.items)
    × ((j : ℕ) → j < l.place → get_or l.columns.items j [] ≡ get_or l.initial.columns.items j [] ++ cell (fields_of l.fields) j ∷ [])
    × ((j : ℕ) → l.place ≤ j → get_or l.columns.items j [] ≡ get_or l.initial.columns.items j [])
