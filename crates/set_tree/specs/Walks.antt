-- What a tree has: as a list in report order, and in the order of a walk.
use Rattle.std.specs.Prelude.{if◌then◌else◌, ◌==◌, ◌≡◌, ◌||◌, ◌&&◌, ℕ, zero, suc, Bool, false, List, [], ◌∷◌, ◌++◌, Option, Some, None, slice_get}
use Rattle.std.specs.List.{flat_map}
use Rattle.std.specs.Option.{is_some}
use Rattle.std.specs.Ordering.{is_lt}
use Rattle.col_set.specs.ColSet.{Columns, has, with, empty, all_sets, report_cmp}
use Rattle.col_set.specs.declared.col_set.TheConstants.{MOST_COLUMNS}
use Rattle.set_tree.specs.declared.node.Node.{Node}
use Rattle.set_tree.specs.Tree.{Shape, tip, fork, look, root, Keep, Ascends}

module _ {V : Type 0} where
  -- a column set with its value, if it has one
  abbrev pub entry : Columns → Option V → List (Columns × V)
  entry x None = []
  entry x (Some v) = (x, v) ∷ []

  -- the column sets that have a value, in report order
  unfoldable pub listed : (Columns → Option V) → List (Columns × V)
  listed m = flat_map (λ x. entry x (m x)) (all_sets MOST_COLUMNS)

  -- the values of a tree: that of the empty set stands by itself
  abbrev pub values : Option V → Shape V → Columns → Option V
  values top t x = if x == empty then top else look t x

  -- the shape of the nodes below a link, of so many columns one after another
  unfoldable pub read : ℕ → List (Node V) → Option ℕ → Shape V
  read zero ns link = tip
  read (suc n) ns None = tip
  read (suc n) ns (Some at) = elim (slice_get ns at) [ None ↦ tip | Some d ↦ fork at d.column d.value (read n ns d.child) (read n ns d.next) ]

  -- the nodes keep a tree below the link
  pub record Reads (ns : List (Node V)) (link : Option ℕ) (from : ℕ) (t : Shape V) : Type 0 where
    pub starts : link ≡ root t
    pub kept : Keep ns t
    pub ascends : Ascends from t

  -- some tree
  pub record Rooted (ns : List (Node V)) (link : Option ℕ) : Type 0 where
    pub from : ℕ
    pub shape : Shape V
    pub tree : Reads ns link from shape

  -- whether a path lies inside x
  unfoldable pub any_inside : Shape V → Columns → Bool
  any_inside tip x = false
  any_inside (fork at c v l r) x = (has x c && (is_some v || any_inside l x)) || any_inside r x

  -- the paths inside x with their values, one after another as a walk meets them, each with the columns of the prefix more
  unfoldable pub walk : Columns → Shape V → Columns → List (Columns × V)
  walk prefix tip x = []
  walk prefix (fork at c v l r) x = (if has x c then entry (with prefix c) v ++ walk (with prefix c) l x else []) ++ walk prefix r x

  -- the least in report order of those that pass the test, of one found so far and these
  abbrev pub nearer : (Columns × V → Bool) → Option (Columns × V) → Columns × V → Option (Columns × V)
  nearer p None q = if p q then Some q else None
  nearer p (Some b) q = if is_lt (report_cmp q.0 b.0) && p q then Some q else Some b

module _ {V A : Type 0} where
  -- what is joined of a list, one pair after another
  unfoldable pub joined : (A → Columns × V → A) → A → List (Columns × V) → A
  joined f a [] = a
  joined f a (p ∷ ps) = joined f (f a p) ps
