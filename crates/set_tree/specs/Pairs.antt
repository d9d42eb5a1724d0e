-- Column sets with a value each, as a list of pairs in report order.
use Rattle.std.specs.Prelude.{if◌then◌else◌, ◌==◌, ◌≢◌, Bool, not, List, ◌∷◌, ◌++◌, map, Option}
use Rattle.std.specs.List.{filter, find, list_any, Contains, AllPairs}
use Rattle.std.specs.Option.{option_map}
use Rattle.std.specs.Ordering.{is_lt}
use Rattle.col_set.specs.ColSet.{Columns, subset, report_cmp}
use Rattle.col_set.specs.Lists.{Rises}

module _ {V : Type 0} where
  abbrev pub keys : List (Columns × V) → List Columns
  keys ps = map (λ p. p.0) ps

  -- each key stands before each later one
  abbrev pub IsInOrder : List (Columns × V) → Type 0
  IsInOrder ps = Rises (λ p q. report_cmp p.0 q.0) ps

  -- whether the column set is a key
  abbrev pub is_key : List (Columns × V) → Columns → Bool
  is_key ps x = list_any (λ p. p.0 == x) ps

  -- the value of a key
  abbrev pub value_at : List (Columns × V) → Columns → Option V
  value_at ps x = option_map (λ p. p.1) (find (λ p. p.0 == x) ps)

  -- the pairs with the keys before x, the pair of x and v, and the pairs with the keys after x
  abbrev pub inserted : List (Columns × V) → Columns → V → List (Columns × V)
  inserted ps x v = filter (λ p. is_lt (report_cmp p.0 x)) ps ++ (x, v) ∷ filter (λ p. is_lt (report_cmp x p.0)) ps

  -- where x is a key, its value becomes v
  abbrev pub with_value : List (Columns × V) → Columns → V → List (Columns × V)
  with_value ps x v = map (λ p. if p.0 == x then (x, v) else p) ps

  abbrev pub without_key : List (Columns × V) → Columns → List (Columns × V)
  without_key ps x = filter (λ p. not (p.0 == x)) ps

  -- the pairs whose keys lie inside z, and the others
  abbrev pub inside : List (Columns × V) → Columns → List (Columns × V)
  inside ps z = filter (λ p. subset p.0 z) ps

  abbrev pub not_inside : List (Columns × V) → Columns → List (Columns × V)
  not_inside ps z = filter (λ p. not (subset p.0 z)) ps

  -- each of these pairs and no other, each key once, in any order
  pub record AreThose (wanted ps : List (Columns × V)) : Type 0 where
    pub every : (p : Columns × V) → Contains wanted p → Contains ps p
    pub only : (p : Columns × V) → Contains ps p → Contains wanted p
    pub once : AllPairs (λ p q. p.0 ≢ q.0) ps
