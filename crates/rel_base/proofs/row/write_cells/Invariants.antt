use Rattle.std.proofs.Common.{◌≡◌, length, take, ◌≤◌}
use Rattle.std.specs.List.{flat_map, fold}
use Rattle.rel_base.specs.Hashed.{cell_writes}
use Rattle.rel_base.proofs.row.write_cells.Given as goal

abbrev pub invariant-loop-place : goal.invariant-loop-place
invariant-loop-place g l = (l.place ≤ length l.row) × (l.state ≡ fold g.H.Hasher.write l.initial.state (flat_map cell_writes (take l.place l.row)))
