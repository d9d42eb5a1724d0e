-- Two snapshots that serve one another: the same live rows, which agree in the same columns, whatever numbers their cells have.
use Rattle.std.specs.Prelude.{◌≡◌, ◌<◌, ◌↔◌, ℕ, length}
use Rattle.std.specs.List.{Contains}
use Rattle.rel_base.specs.CodeTable.{CodeTable, code_at}
use Rattle.rel_base.specs.Shows.{live_numbers}

pub record Alike (s u : CodeTable) : Type 0 where
  pub columns : length s.codes ≡ length u.codes
  pub next : s.to ≡ u.to
  pub live : live_numbers s ≡ live_numbers u
  pub codes : (i j k : ℕ) → Contains (live_numbers s) i → Contains (live_numbers s) j → k < length s.codes
      → (code_at s i k ≡ code_at s j k) ↔ (code_at u i k ≡ code_at u j k)
