-- Left sides with their marks, as a list of pairs in report order, and the three flat lists that it is kept in.
use Rattle.std.specs.Prelude.{if◌then◌else◌, ◌≡◌, ℕ, ◌==◌, Bool, not, List, [], ◌∷◌, ◌++◌, map, length, Option}
use Rattle.std.specs.List.{filter, find, list_any}
use Rattle.std.specs.Option.{option_map}
use Rattle.std.specs.Ordering.{is_lt}
use Rattle.col_set.specs.ColSet.{Columns, subset, report_cmp}
use Rattle.col_set.specs.Lists.{Rises}
use Rattle.candidate_cover.specs.declared.cand.Mark.{Mark}

-- the pairs of three lists, up to the end of the shortest
abbrev pub pairs_of : List Columns → List ℕ → List Bool → List (Columns × Mark)
pairs_of [] us hs = []
pairs_of (x ∷ xs) [] hs = []
pairs_of (x ∷ xs) (u ∷ us) [] = []
pairs_of (x ∷ xs) (u ∷ us) (h ∷ hs) = (x, record { upto = u; held = h }) ∷ pairs_of xs us hs

-- the three lists are of one length
pub record AreEven (xs : List Columns) (us : List ℕ) (hs : List Bool) : Type 0 where
  pub uptos : length us ≡ length xs
  pub helds : length hs ≡ length xs

abbrev pub keys : List (Columns × Mark) → List Columns
keys ps = map (λ p. p.0) ps

-- each key stands before each later one
abbrev pub IsInOrder : List (Columns × Mark) → Type 0
IsInOrder ps = Rises (λ p q. report_cmp p.0 q.0) ps

-- whether the column set is a key
abbrev pub is_key : List (Columns × Mark) → Columns → Bool
is_key ps x = list_any (λ p. p.0 == x) ps

-- the marks of a key
abbrev pub value_at : List (Columns × Mark) → Columns → Option Mark
value_at ps x = option_map (λ p. p.1) (find (λ p. p.0 == x) ps)

-- where x is a key, its marks become v
abbrev pub with_value : List (Columns × Mark) → Columns → Mark → List (Columns × Mark)
with_value ps x v = map (λ p. if p.0 == x then (x, v) else p) ps

-- the pairs whose keys lie inside z, and the others
abbrev pub inside : List (Columns × Mark) → Columns → List (Columns × Mark)
inside ps z = filter (λ p. subset p.0 z) ps

abbrev pub not_inside : List (Columns × Mark) → Columns → List (Columns × Mark)
not_inside ps z = filter (λ p. not (subset p.0 z)) ps

-- the pairs whose keys do not stand before x
abbrev pub from : Columns → List (Columns × Mark) → List (Columns × Mark)
from x ps = filter (λ p. not (is_lt (report_cmp p.0 x))) ps

-- the pairs whose keys stand before x, and after it
abbrev pub before : Columns → List (Columns × Mark) → List (Columns × Mark)
before x ps = filter (λ p. is_lt (report_cmp p.0 x)) ps

abbrev pub after : Columns → List (Columns × Mark) → List (Columns × Mark)
after x ps = filter (λ p. is_lt (report_cmp x p.0)) ps

-- Each of the column sets, which rise, changes sides: one that is a key goes, and one that is none comes with the marks v.
abbrev pub toggled : List (Columns × Mark) → List Columns → Mark → List (Columns × Mark)
toggled ps [] v = ps
toggled ps (x ∷ xs) v = before x ps ++ ((if is_key ps x then [] else (x, v) ∷ []) ++ toggled (after x ps) xs v)
