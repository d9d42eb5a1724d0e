-- Candidates by how many columns they have.
use Rattle.std.specs.Prelude.{ℕ, nat_le, Bool, ◌&&◌}
use Rattle.col_set.specs.ColSet.{size}
use Rattle.candidate_cover.specs.declared.cand.Cand.{Cand}

-- whether a candidate has at least and at most so many columns
abbrev pub is_between : ℕ → ℕ → Cand → Bool
is_between least most c = nat_le least (size c.left) && nat_le (size c.left) most
