-- The laws of the definitions, which functions with an empty body ensure.
use Rattle.std.specs.Prelude.{◌≡◌, ◌<◌, ◌^◌, ℕ, ◌⊎◌, true, false, List, [], ◌∷◌, ◌++◌, ◌↔◌}
use Rattle.std.specs.List.{Contains, AllPairs}
use Rattle.std.specs.declared.cmp.Ordering.TheVariants.{Less}
use Rattle.col_set.specs.declared.target.Target.{Target}
use Rattle.col_set.specs.ColSet.{Columns, IsSubset, empty, report_cmp, all_sets}
use Rattle.col_set.specs.Target.{has_target}
use Rattle.col_set.specs.Evidence.{IsLeast, refuted, least, replaced, minimal_of}

-- The list of all column sets of n columns has each of them once, in report order.
pub record ListsAllSets (n : ℕ) : Type 0 where
  pub every : (x : ℕ) → x < 2 ^ n → Contains (all_sets n) x
  pub only : (x : ℕ) → Contains (all_sets n) x → x < 2 ^ n
  pub sorted : AllPairs (λ x y. report_cmp x y ≡ Less) (all_sets n)

-- The subsets are an order.
pub record SubsetsOrdered : Type 0 where
  pub itself : (x : ℕ) → IsSubset x x
  pub trans : (x y z : ℕ) → IsSubset x y → IsSubset y z → IsSubset x z
  pub antisymm : (x y : ℕ) → IsSubset x y → IsSubset y x → x ≡ y

-- The least sets are those that are not refuted, in which each proper subset is.
abbrev pub LeastMeans : Type 0
LeastMeans = (n : ℕ) (ws : List ℕ) (t : Target) (x : ℕ) → Contains (least n ws t) x ↔ IsLeast n ws t x

-- With a further agree set z that lacks t, each candidate inside z gives way to its extensions, and non-minimal sets are dropped.
abbrev pub LeastAfterOneMore : Type 0
LeastAfterOneMore = (n : ℕ) (ws : List ℕ) (t : Target) (z : ℕ) → has_target z t ≡ false
    → least n (ws ++ z ∷ []) t ≡ minimal_of n (replaced n t z (least n ws t))

-- What is least depends on which agree sets there are, and not on their order or number.
abbrev pub LeastOfTheSame : Type 0
LeastOfTheSame = (n : ℕ) (vs ws : List ℕ) (t : Target) → ((w : ℕ) → Contains vs w ↔ Contains ws w) → least n vs t ≡ least n ws t

-- x lies inside a withdrawn agree set that lacks t
pub record WithdrawnInside (gone : List ℕ) (t : Target) (x : ℕ) : Type 0 where
  pub set : ℕ
  pub withdrawn : Contains gone set
  pub lacks : has_target set t ≡ false
  pub inside : IsSubset x set

-- Where agree sets are withdrawn, what is least of the rest is least of all, or lies inside a withdrawn set that lacks t.
abbrev pub LeastAfterFewer : Type 0
LeastAfterFewer = (n : ℕ) (rest gone : List ℕ) (t : Target) (x : ℕ) → Contains (least n rest t) x → Contains (least n (rest ++ gone) t) x
    ⊎ WithdrawnInside gone t x

-- With no agree set the empty set is the one candidate.
abbrev pub LeastOfNone : Type 0
LeastOfNone = (n : ℕ) (t : Target) → least n [] t ≡ empty ∷ []

-- no set that ws leaves is refuted by vs
abbrev pub NoneIsRefuted : ℕ → List Columns → List Columns → Target → Type 0
NoneIsRefuted n ws vs t = (x : Columns) → Contains (least n ws t) x → refuted vs t x ≡ false

-- Evidence whose least sets more evidence refutes none of has the least sets of all: where each set that ws refutes is refuted by
-- vs, as where each of ws is among vs, and no set that ws leaves is refuted by vs, both leave the same.
pub record EvidenceThatHoldsIsWhole (n : ℕ) (ws vs : List Columns) (t : Target) : Type 0 where
  pub stronger : ((x : Columns) → x < 2 ^ n → refuted ws t x ≡ true → refuted vs t x ≡ true) → NoneIsRefuted n ws vs t → least n ws t ≡ least n vs t
  pub among : ((w : Columns) → Contains ws w → Contains vs w) → NoneIsRefuted n ws vs t → least n ws t ≡ least n vs t
