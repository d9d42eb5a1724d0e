-- Which way a test went, by what came of it.
use Rattle.std.proofs.Common.{◌≡◌, Bool, true, false, cond, refl, Result, Ok, Err}

module _ {X E : Type 0} where
  pub same_Ok : {x y : X} → (let ok : X → Result X E = λ z. Ok z in ok x ≡ ok y) → x ≡ y
  same_Ok e = cc

  pub refused_or : (b : Bool) (w : E) (x y : X) → cond b (Err w) (Ok x) ≡ Ok y → (b ≡ false) × (x ≡ y)
  refused_or true w x y e = absurd (cc)
  refused_or false w x y e = (refl, same_Ok e)

  pub passed_or : (b : Bool) (w : E) (r : Result X E) (y : X) → cond b r (Err w) ≡ Ok y → (b ≡ true) × (r ≡ Ok y)
  passed_or true w r y e = (refl, e)
  passed_or false w r y e = absurd (cc)
