-- Facts at the limits of the program as its users run it.
use Rattle.std.specs.Prelude.{◌≡◌}
use Rattle.rel_base.specs.declared.limits.Limits.{Limits}

-- a fact at the standard limits
pub record AtStandard (P : Limits → Type 0) : Type 0 where
  pub limits : Limits
  pub columns : limits.columns ≡ 128
  pub rows : limits.rows ≡ 1000000
  pub cell : limits.cell ≡ 65536
  pub bytes : limits.bytes ≡ 268435456
  pub fact : P limits
