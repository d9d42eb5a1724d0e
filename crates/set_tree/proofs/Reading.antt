-- Trees that are read.
use Rattle.std.proofs.Common.{◌≡◌, ◌≢◌, ℕ, suc, ◌-◌, ◌<◌, ◌==◌, ◌&&◌, ◌||◌, Bool, true, false, refl, sym, ap, ◌∙◌, subst, arith, List, [], ◌∷◌, ◌++◌, length, Option, Some, None, if◌then◌else◌}
use Rattle.std.specs.List.{slice_get}
use Rattle.std.specs.Option.{is_some}
use Rattle.std.proofs.lemmas.Option.{slice_get_within, none-some}
use Rattle.std.proofs.lemmas.Bool.{eq-eqb, ne_eqb}
use Rattle.col_set.specs.ColSet.{has, with, without, empty}
use Rattle.col_set.specs.declared.col_set.TheConstants.{MOST_COLUMNS}
use Rattle.set_tree.specs.declared.node.Node.{Node}
use Rattle.set_tree.specs.Tree.{Shape, tip, fork, spot, root, Keep, Ascends, tall}
use Rattle.set_tree.specs.Walks.{Reads, Rooted, any_inside, walk, entry, joined}
use Rattle.set_tree.proofs.Growing.{some-injective, tall_at}

module _ {V : Type 0} where
  pub record Opening (ns : List (Node V)) (from place : ℕ) (node : Node V) (t : Shape V) : Type 0 where
    pub below : Shape V
    pub beside : Shape V
    pub is : t ≡ fork place node.column node.value below beside
    pub below_tree : Reads ns node.child (suc node.column) below
    pub beside_tree : Reads ns node.next (suc node.column) beside
    pub narrow : node.column < MOST_COLUMNS

  pub opening : (ns : List (Node V)) (from place : ℕ) (node : Node V) (t : Shape V) → slice_get ns place ≡ Some node → Reads ns (Some place) from t → Opening ns from place node t
  unfolding Keep root Ascends
  opening ns from place node tip here tree = absurd (none-some place (sym tree.starts))
  opening ns from place node (fork at c v l r) here tree =
      let e : place ≡ at = some-injective place at tree.starts in
      let same : node ≡ record { value = v; child = root l; next = root r; column = c } = some-injective node _ (sym here ∙ ap (slice_get ns) e ∙ tree.kept.0) in
      record {
        below = l;
        beside = r;
        is = (λ i. fork (sym e i) (sym (ap (λ (n : Node V). n.column) same) i) (sym (ap (λ (n : Node V). n.value) same) i) l r);
        below_tree = record { starts = ap (λ (n : Node V). n.child) same; kept = tree.kept.1; ascends = subst (λ (k : ℕ). Ascends (suc k) l) (sym (ap (λ (n : Node V). n.column) same)) tree.ascends.2 };
        beside_tree = record { starts = ap (λ (n : Node V). n.next) same; kept = tree.kept.2; ascends = subst (λ (k : ℕ). Ascends (suc k) r) (sym (ap (λ (n : Node V). n.column) same)) tree.ascends.3 };
        narrow = subst (λ (k : ℕ). k < MOST_COLUMNS) (sym (ap (λ (n : Node V). n.column) same)) tree.ascends.1;
      }

  tall_below : (ns : List (Node V)) (link : Option ℕ) (column : ℕ) (t : Shape V) → column < MOST_COLUMNS → Reads ns link (suc column) t → tall ns link < MOST_COLUMNS - column
  unfolding Keep root Ascends tall
  tall_below ns link column tip l tree = subst (λ (o : Option ℕ). tall ns o < MOST_COLUMNS - column) (sym tree.starts) (omega (arith, l))
  tall_below ns link column (fork at c v s r) l tree =
      subst (λ (o : Option ℕ). tall ns o < MOST_COLUMNS - column) (sym tree.starts)
      (subst (λ (n : ℕ). n < MOST_COLUMNS - column) (sym (tall_at ns at _ tree.kept.0)) (omega (arith, l, tree.ascends.0, tree.ascends.1)))

  reads_within : (ns : List (Node V)) (from place : ℕ) (t : Shape V) → Reads ns (Some place) from t → place < length ns
  unfolding Keep root
  reads_within ns from place tip tree = absurd (none-some place (sym tree.starts))
  reads_within ns from place (fork at c v l r) tree = slice_get_within ns place _ (ap (slice_get ns) (some-injective place at tree.starts) ∙ tree.kept.0)

  module _ (ns : List (Node V)) (link : Option ℕ) (place : ℕ) (s : Rooted ns link) (e : link ≡ Some place) where
    pub rooted_within : place < length ns
    rooted_within = reads_within ns s.from place s.shape (subst (λ (l : Option ℕ). Reads ns l s.from s.shape) e s.tree)

    module _ (node : Node V) (here : slice_get ns place ≡ Some node) where
      whole : Opening ns s.from place node s.shape
      whole = opening ns s.from place node s.shape here (subst (λ (l : Option ℕ). Reads ns l s.from s.shape) e s.tree)

      pub rooted_below : Rooted ns node.child
      rooted_below = record { from = suc node.column; shape = whole.below; tree = whole.below_tree }

      pub rooted_beside : Rooted ns node.next
      rooted_beside = record { from = suc node.column; shape = whole.beside; tree = whole.beside_tree }

      pub column_narrow : node.column < MOST_COLUMNS
      column_narrow = whole.narrow

      height : tall ns link ≡ MOST_COLUMNS - node.column
      height = ap (tall ns) e ∙ tall_at ns place node here

      pub below_falls : tall ns node.child < tall ns link
      below_falls = subst (λ (n : ℕ). tall ns node.child < n) (sym height) (tall_below ns node.child node.column whole.below whole.narrow whole.below_tree)

      pub beside_falls : tall ns node.next < tall ns link
      beside_falls = subst (λ (n : ℕ). tall ns node.next < n) (sym height) (tall_below ns node.next node.column whole.beside whole.narrow whole.beside_tree)

    -- a tree that begins at the place is what the node there opens
    pub opens : (node : Node V) → slice_get ns place ≡ Some node → (from : ℕ) (t : Shape V) → Reads ns link from t → Opening ns from place node t
    opens node here from t tree = opening ns from place node t here (subst (λ (l : Option ℕ). Reads ns l from t) e tree)

  -- what begins nowhere is nothing
  pub reads_nothing : (ns : List (Node V)) (link : Option ℕ) (from : ℕ) (t : Shape V) → link ≡ None → Reads ns link from t → t ≡ tip
  unfolding root
  reads_nothing ns link from tip e tree = refl
  reads_nothing ns link from (fork at c v l r) e tree = absurd (none-some at (sym e ∙ tree.starts))

  -- ---- what a walk meets at a node
  module _ (at c : ℕ) (v : Option V) (l r : Shape V) (x : ℕ) where
    pub spot_past : has x c ≡ false → spot (fork at c v l r) x ≡ spot r x
    unfolding spot
    spot_past e = ap (λ (b : Bool). if b then (if without x c == empty then Some at else spot l (without x c)) else spot r x) e

    pub spot_here : has x c ≡ true → without x c ≡ empty → spot (fork at c v l r) x ≡ Some at
    unfolding spot
    spot_here e i = ap (λ (b : Bool). if b then (if without x c == empty then Some at else spot l (without x c)) else spot r x) e ∙ ap (λ (b : Bool). if b then Some at else spot l (without x c)) (eq-eqb (without x c) empty i)

    pub spot_below : has x c ≡ true → without x c ≢ empty → spot (fork at c v l r) x ≡ spot l (without x c)
    unfolding spot
    spot_below e i = ap (λ (b : Bool). if b then (if without x c == empty then Some at else spot l (without x c)) else spot r x) e ∙ ap (λ (b : Bool). if b then Some at else spot l (without x c)) (ne_eqb (without x c) empty i)

    pub any_past : has x c ≡ false → any_inside (fork at c v l r) x ≡ any_inside r x
    unfolding any_inside
    any_past e = ap (λ (b : Bool). (b && (is_some v || any_inside l x)) || any_inside r x) e

    pub any_here : has x c ≡ true → any_inside (fork at c v l r) x ≡ ((is_some v || any_inside l x) || any_inside r x)
    unfolding any_inside
    any_here e = ap (λ (b : Bool). (b && (is_some v || any_inside l x)) || any_inside r x) e

    pub walk_past : (p : ℕ) → has x c ≡ false → walk p (fork at c v l r) x ≡ walk p r x
    unfolding walk
    walk_past p e = ap (λ (b : Bool). (if b then entry (with p c) v ++ walk (with p c) l x else []) ++ walk p r x) e

    pub walk_here : (p : ℕ) → has x c ≡ true → walk p (fork at c v l r) x ≡ (entry (with p c) v ++ walk (with p c) l x) ++ walk p r x
    unfolding walk
    walk_here p e = ap (λ (b : Bool). (if b then entry (with p c) v ++ walk (with p c) l x else []) ++ walk p r x) e

pub spot_nothing : (V : Type 0) (x : ℕ) → spot {V = V} tip x ≡ None
unfolding spot
spot_nothing V x = refl

pub any_nothing : (V : Type 0) (x : ℕ) → any_inside {V = V} tip x ≡ false
unfolding any_inside
any_nothing V x = refl

pub walk_nothing : (V : Type 0) (p x : ℕ) → walk {V = V} p tip x ≡ []
unfolding walk
walk_nothing V p x = refl

module _ {V A : Type 0} where
  pub joined-append : (f : A → ℕ × V → A) (a : A) (ps qs : List (ℕ × V)) → joined f a (ps ++ qs) ≡ joined f (joined f a ps) qs
  unfolding joined
  joined-append f a [] qs = refl
  joined-append f a (p ∷ ps) qs = joined-append f (f a p) ps qs

  pub joined_none : (f : A → ℕ × V → A) (a : A) → joined f a [] ≡ a
  unfolding joined
  joined_none f a = refl

  pub joined_one : (f : A → ℕ × V → A) (a : A) (p : ℕ × V) → joined f a (p ∷ []) ≡ f a p
  unfolding joined
  joined_one f a p = refl

pub regroup : {X : Type 0} (a b c d : List X) → ((a ++ b) ++ c) ++ d ≡ a ++ ((b ++ c) ++ d)
regroup [] b c d = refl
regroup (x ∷ a) b c d = ap (λ xs. x ∷ xs) (regroup a b c d)
