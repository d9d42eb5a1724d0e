-- What a list of agree sets leaves (HyFD's negative and positive cover, Papenbrock and Naumann, 2016).
use Rattle.std.specs.Prelude.{if◌then◌else◌, ◌≡◌, ◌<◌, ◌^◌, ℕ, ◌==◌, Bool, false, not, ◌&&◌, List, [], ◌∷◌, map}
use Rattle.std.specs.List.{filter, list_any, flat_map}
use Rattle.col_set.specs.declared.target.Target.{Target}
use Rattle.col_set.specs.ColSet.{Columns, IsSubset, has, with, subset, upto, all_sets}
use Rattle.col_set.specs.Target.{has_target, is_target}
use Rattle.col_set.specs.Minimal.{proper_subset, is_minimal}

-- the agree set of two rows contains x and lacks t: the two agree on x and not on t
abbrev pub refutes : Columns → Columns → Target → Bool
refutes w x t = subset x w && not (has_target w t)

-- some agree set of the list refutes that x determines t
unfoldable pub refuted : List Columns → Target → Columns → Bool
refuted ws t x = list_any (λ w. refutes w x t) ws

-- the sets of n columns without t, in report order, that are not refuted and have no unrefuted proper subset
unfoldable pub least : ℕ → List Columns → Target → List Columns
least n ws t = filter (λ x. not (has_target x t) && is_minimal n (λ y. not (refuted ws t y)) x) (all_sets n)

-- the same as a fact
pub record IsLeast (n : ℕ) (ws : List Columns) (t : Target) (x : Columns) : Type 0 where
  pub below : x < 2 ^ n
  pub lacks : has_target x t ≡ false
  pub stands : refuted ws t x ≡ false
  pub smallest : (y : Columns) → IsSubset y x → refuted ws t y ≡ false → y ≡ x

-- a candidate with one more column, outside z and other than t
unfoldable pub extensions : ℕ → Target → Columns → Columns → List Columns
extensions n t z x = map (with x) (filter (λ k. not (has z k) && not (is_target k t)) (upto n))

-- the candidates, where each that lies inside z gives way to its extensions
unfoldable pub replaced : ℕ → Target → Columns → List Columns → List Columns
replaced n t z xs = flat_map (λ x. if subset x z then extensions n t z x else x ∷ []) xs

-- of these sets, those that have no proper subset among them, each once, in report order
unfoldable pub minimal_of : ℕ → List Columns → List Columns
minimal_of n xs = filter (λ x. list_any (λ y. y == x) xs && not (list_any (λ y. proper_subset y x) xs)) (all_sets n)
