-- A prefix tree: its shape, the nodes in which it is kept, and the values that it has.
use Rattle.std.specs.Prelude.{if◌then◌else◌, ◌==◌, ◌≡◌, ◌≤◌, ◌<◌, ◌+◌, ◌-◌, nat_lt, ℕ, zero, suc, true, List, [], ◌∷◌, length, Option, Some, None, slice_get}
use Rattle.col_set.specs.ColSet.{Columns, has, without, empty}
use Rattle.col_set.specs.declared.col_set.TheConstants.{MOST_COLUMNS}
use Rattle.set_tree.specs.declared.node.Node.{Node}

-- Nothing, or a column: the place of its node, the column, the value of the path that ends here, what stands below it and what beside it.
pub data Shape (V : Type 0) : Type 0 where
  tip : Shape V
  fork : ℕ → ℕ → Option V → Shape V → Shape V → Shape V

module _ {V : Type 0} where
  -- the value of a path
  unfoldable pub look : Shape V → Columns → Option V
  look tip y = None
  look (fork at c v l r) y = if has y c then (if without y c == empty then v else look l (without y c)) else look r y

  -- the place of the node at which a path ends
  unfoldable pub spot : Shape V → Columns → Option ℕ
  spot tip y = None
  spot (fork at c v l r) y = if has y c then (if without y c == empty then Some at else spot l (without y c)) else spot r y

  -- the shape with this value at a place
  unfoldable pub revalued : ℕ → Option V → Shape V → Shape V
  revalued place value tip = tip
  revalued place value (fork at c v l r) = fork at c (if at == place then value else v) (revalued place value l) (revalued place value r)

  -- the columns of each path ascend, from a column on
  unfoldable pub Ascends : ℕ → Shape V → Type 0
  Ascends from tip = zero ≡ zero
  Ascends from (fork at c v l r) = (from ≤ c) × (c < MOST_COLUMNS) × Ascends (suc c) l × Ascends (suc c) r

  -- the place of the first node
  unfoldable pub root : Shape V → Option ℕ
  root tip = None
  root (fork at c v l r) = Some at

  -- the nodes have the shape
  unfoldable pub Keep : List (Node V) → Shape V → Type 0
  Keep ns tip = zero ≡ zero
  Keep ns (fork at c v l r) = (slice_get ns at ≡ Some (record { value = v; child = root l; next = root r; column = c })) × Keep ns l × Keep ns r

-- 1 for the place itself
unfoldable pub one : ℕ → ℕ → ℕ
one at k = if at == k then 1 else 0

-- 1 for what lies behind so many places
unfoldable pub behind : ℕ → ℕ → ℕ
behind n k = if nat_lt k n then 0 else 1

-- how often a list has a place
unfoldable pub times : List ℕ → ℕ → ℕ
times [] k = 0
times (at ∷ us) k = one at k + times us k

-- how often a place may be handed out: where it waits to be used again, or lies behind the n nodes
unfoldable pub spare : ℕ → List ℕ → ℕ → ℕ
spare n us k = times us k + behind n k

module _ {V : Type 0} where
  -- how many nodes of the shape stand at a place
  unfoldable pub uses : Shape V → ℕ → ℕ
  uses tip k = 0
  uses (fork at c v l r) k = one at k + (uses l k + uses r k)

  -- how many columns may follow at a link
  unfoldable pub tall : List (Node V) → Option ℕ → ℕ
  tall ns link = elim link [ None ↦ 0 | Some at ↦ elim (slice_get ns at) [ None ↦ 0 | Some d ↦ MOST_COLUMNS - d.column ] ]

  -- The nodes keep a tree below the link whose columns ascend, and no place is used twice.
  pub record IsTree (ns : List (Node V)) (us : List ℕ) (link : Option ℕ) (from : ℕ) (t : Shape V) : Type 0 where
    pub starts : link ≡ root t
    pub kept : Keep ns t
    pub ascends : Ascends from t
    pub once : (k : ℕ) → uses t k + spare (length ns) us k ≤ 1

  -- some tree stands there whose columns are no less than the column
  pub record Stands (ns : List (Node V)) (us : List ℕ) (link : Option ℕ) (column : ℕ) : Type 0 where
    pub from : ℕ
    pub shape : Shape V
    pub tree : IsTree ns us link from shape
    pub above : from ≤ column

  -- Where a tree became another one, no place is used that was not used or spare, and the nodes at all other places are the same.
  pub record IsLocal (ns : List (Node V)) (us : List ℕ) (t : Shape V) (new : List (Node V)) (waiting : List ℕ) (u : Shape V) : Type 0 where
    pub fewer : (k : ℕ) → uses u k + spare (length new) waiting k ≤ uses t k + spare (length ns) us k
    pub same : (k : ℕ) → uses t k + spare (length ns) us k ≡ 0 → slice_get new k ≡ slice_get ns k

  -- a tree at a link that a tree became, of these values
  pub record Becomes (ns : List (Node V)) (us : List ℕ) (from : ℕ) (t : Shape V) (new : List (Node V)) (waiting : List ℕ)
      (link : Option ℕ) (values : Columns → Option V) : Type 0 where
    pub shape : Shape V
    pub starts : link ≡ root shape
    pub kept : Keep new shape
    pub ascends : Ascends from shape
    pub same : (y : Columns) → look shape y ≡ values y
    pub local : IsLocal ns us t new waiting shape

  -- the values of a tree, with this value for a path
  abbrev pub but : Shape V → Columns → Option V → Columns → Option V
  but t x value y = if y == x then value else look t y

  -- a node that is still to be kept at a place, with trees below it and beside it
  pub record IsLoose (ns : List (Node V)) (us : List ℕ) (place from column : ℕ) (value : Option V) (below beside : Shape V) : Type 0 where
    pub within : place < length ns
    pub kept_below : Keep ns below
    pub kept_beside : Keep ns beside
    pub ascends : Ascends from (fork place column value below beside)
    pub once : (k : ℕ) → uses (fork place column value below beside) k + spare (length ns) us k ≤ 1

module _ {V : Type 0} where
  -- keeping the node at the place makes a tree at the link of what stands below it and beside it
  abbrev pub Retains : List (Node V) → List ℕ → ℕ → Node V → List (Node V) → List ℕ → Option ℕ → Type 0
  Retains ns us place node new waiting link = (from : ℕ) (below beside : Shape V) → node.child ≡ root below → node.next ≡ root beside
      → IsLoose ns us place from node.column node.value below beside
      → Becomes ns us from (fork place node.column node.value below beside) new waiting link (look (fork place node.column node.value below beside))

  -- a path at the link got this value
  abbrev pub Gives : List (Node V) → List ℕ → Option ℕ → ℕ → List (Node V) → List ℕ → Option ℕ → Columns → Option V → Type 0
  Gives ns us link column new waiting to x value = (from : ℕ) (t : Shape V) → IsTree ns us link from t → from ≤ column
      → Becomes ns us from t new waiting to (but t x value)

-- the columns of a path behind its first one
abbrev pub AreBehind : ℕ → Columns → Type 0
AreBehind column rest = (k : ℕ) → has rest k ≡ true → column < k
