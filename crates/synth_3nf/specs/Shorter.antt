-- Dependencies that are chosen by how many columns they have on the left.
use Rattle.std.specs.Prelude.{nat_le, ℕ, List}
use Rattle.std.specs.List.{filter}
use Rattle.col_set.specs.ColSet.{size}
use Rattle.rel_base.specs.declared.dependency.Fd.{Fd}

-- those that have at most so many
abbrev pub shorter : ℕ → List Fd → List Fd
shorter most fds = filter (λ fd. nat_le (size fd.left) most) fds
