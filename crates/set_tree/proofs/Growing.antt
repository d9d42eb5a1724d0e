-- Trees that become others.
use Rattle.std.proofs.Common.{inl, inr, ◌≡◌, ◌≢◌, ℕ, suc, ◌+◌, ◌-◌, ◌<◌, ◌≤◌, ◌==◌, Bool, true, false, eqb, refl, sym, ap, ap₂, ◌∙◌, subst, arith, List, length, Option, Some, None, if◌then◌else◌}
use Rattle.std.specs.List.{slice_get}
use Rattle.std.proofs.lemmas.Option.{slice_get_within, none-some}
use Rattle.std.proofs.lemmas.Bool.{eqb-true, eq-eqb, true≢false}
use Rattle.col_set.specs.ColSet.{has, with, empty}
use Rattle.col_set.specs.declared.col_set.TheConstants.{MOST_COLUMNS}
use Rattle.set_tree.specs.declared.node.Node.{Node}
use Rattle.set_tree.specs.Tree.{Shape, tip, fork, look, root, Keep, Ascends, uses, spare, one, tall, IsTree, Stands, IsLocal, Becomes, IsLoose, but, revalued, Retains, Gives}
use Rattle.set_tree.proofs.Places.{one_same, one_cases}
use Rattle.set_tree.proofs.Values.{look_absent, look_here, look_below, look_beside}

pub some-injective : {A : Type 0} (a b : A) → Some a ≡ Some b → a ≡ b
some-injective a b e = ap (λ (o : Option _). elim o [ None ↦ a | Some x ↦ x ]) e

module _ {V : Type 0} where
  -- ---- the same nodes
  pub keep_same : (ns new : List (Node V)) (t : Shape V) → Keep ns t → ((k : ℕ) → 0 < uses t k → slice_get new k ≡ slice_get ns k) → Keep new t
  unfolding Keep uses
  keep_same ns new tip k f = refl
  keep_same ns new (fork at c v l r) k f = (
    f at (let e : one at at ≡ 1 = one_same at in omega (arith, e)) ∙ k.0,
    keep_same ns new l k.1 (λ j h. f j (omega (arith, h))),
    keep_same ns new r k.2 (λ j h. f j (omega (arith, h))),
  )

  pub ascends_lower : (t : Shape V) (from lower : ℕ) → lower ≤ from → Ascends from t → Ascends lower t
  unfolding Ascends
  ascends_lower tip from lower l a = refl
  ascends_lower (fork at c v s r) from lower l a = (omega (arith, l, a.0), a.1, a.2, a.3)

  -- ---- a tree that begins with a node
  pub record Opened (ns : List (Node V)) (us : List ℕ) (from place : ℕ) (node : Node V) (t : Shape V) : Type 0 where
    pub below : Shape V
    pub beside : Shape V
    pub is : t ≡ fork place node.column node.value below beside
    pub below_tree : IsTree ns us node.child (suc node.column) below
    pub beside_tree : IsTree ns us node.next (suc node.column) beside
    pub above : from ≤ node.column
    pub narrow : node.column < MOST_COLUMNS
    pub within : place < length ns

  pub opened : (ns : List (Node V)) (us : List ℕ) (from place : ℕ) (node : Node V) (t : Shape V) → slice_get ns place ≡ Some node → IsTree ns us (Some place) from t → Opened ns us from place node t
  unfolding Keep root Ascends uses
  opened ns us from place node tip here tree = absurd (none-some place (sym tree.starts))
  opened ns us from place node (fork at c v l r) here tree =
      let e : place ≡ at = some-injective place at tree.starts in
      let same : node ≡ record { value = v; child = root l; next = root r; column = c } = some-injective node _ (sym here ∙ ap (slice_get ns) e ∙ tree.kept.0) in
      record {
        below = l;
        beside = r;
        is = (λ i. fork (sym e i) (sym (ap (λ (n : Node V). n.column) same) i) (sym (ap (λ (n : Node V). n.value) same) i) l r);
        below_tree = record {
          starts = ap (λ (n : Node V). n.child) same;
          kept = tree.kept.1;
          ascends = subst (λ (k : ℕ). Ascends (suc k) l) (sym (ap (λ (n : Node V). n.column) same)) tree.ascends.2;
          once = λ k. let o : one at k + (uses l k + uses r k) + spare (length ns) us k ≤ 1 = tree.once k in omega (arith, o);
        };
        beside_tree = record {
          starts = ap (λ (n : Node V). n.next) same;
          kept = tree.kept.2;
          ascends = subst (λ (k : ℕ). Ascends (suc k) r) (sym (ap (λ (n : Node V). n.column) same)) tree.ascends.3;
          once = λ k. let o : one at k + (uses l k + uses r k) + spare (length ns) us k ≤ 1 = tree.once k in omega (arith, o);
        };
        above = subst (λ (k : ℕ). from ≤ k) (sym (ap (λ (n : Node V). n.column) same)) tree.ascends.0;
        narrow = subst (λ (k : ℕ). k < MOST_COLUMNS) (sym (ap (λ (n : Node V). n.column) same)) tree.ascends.1;
        within = slice_get_within ns place node here;
      }

  -- ---- what may follow
  pub tall_at : (ns : List (Node V)) (place : ℕ) (node : Node V) → slice_get ns place ≡ Some node → tall ns (Some place) ≡ MOST_COLUMNS - node.column
  unfolding tall
  tall_at ns place node e = ap (λ (o : Option (Node V)). elim o [ None ↦ 0 | Some d ↦ MOST_COLUMNS - d.column ]) e

  pub tall_after : (ns : List (Node V)) (us : List ℕ) (link : Option ℕ) (column : ℕ) (t : Shape V) → column < MOST_COLUMNS → IsTree ns us link (suc column) t → tall ns link < MOST_COLUMNS - column
  unfolding Keep root Ascends tall
  tall_after ns us link column tip l tree = subst (λ (o : Option ℕ). tall ns o < MOST_COLUMNS - column) (sym tree.starts) (omega (arith, l))
  tall_after ns us link column (fork at c v s r) l tree =
      subst (λ (o : Option ℕ). tall ns o < MOST_COLUMNS - column) (sym tree.starts)
      (subst (λ (n : ℕ). n < MOST_COLUMNS - column) (sym (tall_at ns at _ tree.kept.0)) (omega (arith, l, tree.ascends.0, tree.ascends.1)))

  -- ---- changes one after another
  pub local_then : (ns one_ns two_ns : List (Node V)) (us one_us two_us : List ℕ) (t u w : Shape V) → IsLocal ns us t one_ns one_us u → IsLocal one_ns one_us u two_ns two_us w → IsLocal ns us t two_ns two_us w
  local_then ns one_ns two_ns us one_us two_us t u w a b = record {
    fewer = λ k. let x = a.fewer k in let y = b.fewer k in omega (arith, x, y);
    same = λ k z. b.same k (let x = a.fewer k in omega (arith, x, z)) ∙ a.same k z;
  }

  module _ (ns new : List (Node V)) (us waiting : List ℕ) (place c : ℕ) (v w : Option V) (l r : Shape V) where
    pub local_below : (changed : Shape V) → IsLocal ns us l new waiting changed → IsLocal ns us (fork place c v l r) new waiting (fork place c w changed r)
    unfolding uses
    local_below changed a = record {
      fewer = λ k. let x = a.fewer k in omega (arith, x);
      same = λ k z. a.same k (omega (arith, z));
    }

    pub local_beside : (changed : Shape V) → IsLocal ns us r new waiting changed → IsLocal ns us (fork place c v l r) new waiting (fork place c w l changed)
    unfolding uses
    local_beside changed a = record {
      fewer = λ k. let x = a.fewer k in omega (arith, x);
      same = λ k z. a.same k (omega (arith, z));
    }

    -- what the node's change below leaves to be kept
    pub loose_below : (from : ℕ) (changed : Shape V) → IsTree ns us (Some place) from (fork place c v l r) → IsLocal ns us l new waiting changed → Keep new changed → Ascends (suc c) changed → place < length new → IsLoose new waiting place from c w changed r
    unfolding uses Keep Ascends
    loose_below from changed tree a kept ascends within = record {
      within = within;
      kept_below = kept;
      kept_beside = keep_same ns new r tree.kept.2 (λ k h. a.same k (let o = tree.once k in omega (arith, o, h)));
      ascends = (tree.ascends.0, tree.ascends.1, ascends, tree.ascends.3);
      once = λ k. let x = a.fewer k in let o = tree.once k in omega (arith, x, o);
    }

    pub loose_beside : (from : ℕ) (changed : Shape V) → IsTree ns us (Some place) from (fork place c v l r) → IsLocal ns us r new waiting changed → Keep new changed → Ascends (suc c) changed → place < length new → IsLoose new waiting place from c w l changed
    unfolding uses Keep Ascends
    loose_beside from changed tree a kept ascends within = record {
      within = within;
      kept_below = keep_same ns new l tree.kept.1 (λ k h. a.same k (let o = tree.once k in omega (arith, o, h)));
      kept_beside = kept;
      ascends = (tree.ascends.0, tree.ascends.1, tree.ascends.2, ascends);
      once = λ k. let x = a.fewer k in let o = tree.once k in omega (arith, x, o);
    }

    -- the node itself stays as it was
    pub here_below : (from : ℕ) (changed : Shape V) → IsTree ns us (Some place) from (fork place c v l r) → IsLocal ns us l new waiting changed → slice_get new place ≡ slice_get ns place
    unfolding uses
    here_below from changed tree a = a.same place (let o = tree.once place in let e : one place place ≡ 1 = one_same place in omega (arith, o, e))

    pub here_beside : (from : ℕ) (changed : Shape V) → IsTree ns us (Some place) from (fork place c v l r) → IsLocal ns us r new waiting changed → slice_get new place ≡ slice_get ns place
    unfolding uses
    here_beside from changed tree a = a.same place (let o = tree.once place in let e : one place place ≡ 1 = one_same place in omega (arith, o, e))

  -- ---- a node is kept
  module _ (ns new : List (Node V)) (us waiting : List ℕ) (place from : ℕ) (node : Node V) (l r : Shape V) where
    pub placed : node.child ≡ root l → node.next ≡ root r → IsLoose ns us place from node.column node.value l r
        → slice_get new place ≡ Some node → ((k : ℕ) → (k ≡ place → ⊥) → slice_get new k ≡ slice_get ns k) → length new ≡ length ns → waiting ≡ us
        → Becomes ns us from (fork place node.column node.value l r) new waiting (Some place) (look (fork place node.column node.value l r))
    unfolding uses Keep root
    placed below beside loose here others long same = record {
      shape = fork place node.column node.value l r;
      starts = refl;
      kept = (
        here ∙ ap₂ (λ (b s : Option ℕ). Some (record { value = node.value; child = b; next = s; column = node.column })) below beside,
        keep_same ns new l loose.kept_below (λ k h. others k (λ e. let o = loose.once k in elim (one_cases place k) [ inl g ↦ omega (arith, o, h, g.1) | inr g ↦ absurd (never k e g) ])),
        keep_same ns new r loose.kept_beside (λ k h. others k (λ e. let o = loose.once k in elim (one_cases place k) [ inl g ↦ omega (arith, o, h, g.1) | inr g ↦ absurd (never k e g) ])),
      );
      ascends = loose.ascends;
      same = λ y. refl;
      local = record {
        fewer = λ k. subst (λ (n : ℕ). uses (fork place node.column node.value l r) k + spare n waiting k ≤ uses (fork place node.column node.value l r) k + spare (length ns) us k) (sym long)
            (subst (λ (w : List ℕ). uses (fork place node.column node.value l r) k + spare (length ns) w k ≤ uses (fork place node.column node.value l r) k + spare (length ns) us k) (sym same) (omega arith));
        same = λ k z. others k (λ e. never k e (omega (arith, z)));
      };
    }
      where
        never : (k : ℕ) → k ≡ place → one place k ≡ 0 → ⊥
        never k e z = let o : one place place ≡ 1 = one_same place in let w : one place place ≡ 0 = subst (λ (j : ℕ). one place j ≡ 0) e z in omega (arith, o, w)

    -- or let go, where no path ends at it or goes on below it
    pub let_go : node.child ≡ root l → node.next ≡ root r → IsLoose ns us place from node.column node.value l r → node.value ≡ None → node.child ≡ None
        → new ≡ ns → ((k : ℕ) → spare (length ns) waiting k ≤ one place k + spare (length ns) us k)
        → Becomes ns us from (fork place node.column node.value l r) new waiting node.next (look (fork place node.column node.value l r))
    unfolding uses Ascends root
    let_go below beside loose empty alone same fewer = record {
      shape = r;
      starts = beside;
      kept = subst (λ (m : List (Node V)). Keep m r) (sym same) loose.kept_beside;
      ascends = ascends_lower r (suc node.column) from (omega (arith, loose.ascends.0)) loose.ascends.3;
      same = λ y. sym (subst (λ (w : Option V). look (fork place node.column w l r) y ≡ look r y) (sym empty) (gone l (sym below ∙ alone) y));
      local = record {
        fewer = λ k. subst (λ (m : List (Node V)). uses r k + spare (length m) waiting k ≤ one place k + (uses l k + uses r k) + spare (length ns) us k) (sym same) (let f = fewer k in omega (arith, f));
        same = λ k z. ap (λ (m : List (Node V)). slice_get m k) same;
      };
    }
      where
        gone : (s : Shape V) → root s ≡ None → (y : ℕ) → look (fork place node.column None s r) y ≡ look r y
        gone tip e y = look_absent place node.column r y loose.ascends.3
        gone (fork at c v a b) e y = absurd (none-some at (sym e))

  -- ---- what a changed tree has
  pub becomes_then : (ns one_ns two_ns : List (Node V)) (us one_us two_us : List ℕ) (from : ℕ) (t u : Shape V) (link : Option ℕ) (values : ℕ → Option V)
      → IsLocal ns us t one_ns one_us u → ((y : ℕ) → look u y ≡ values y) → Becomes one_ns one_us from u two_ns two_us link (look u) → Becomes ns us from t two_ns two_us link values
  becomes_then ns one_ns two_ns us one_us two_us from t u link values a f b = record {
    shape = b.shape;
    starts = b.starts;
    kept = b.kept;
    ascends = b.ascends;
    same = λ y. b.same y ∙ f y;
    local = local_then ns one_ns two_ns us one_us two_us t u b.shape a b.local;
  }

  -- ---- another value at a place
  pub root_revalued : (place : ℕ) (value : Option V) (t : Shape V) → root t ≡ root (revalued place value t)
  unfolding root revalued
  root_revalued place value tip = refl
  root_revalued place value (fork at c v l r) = refl

  pub keep_revalued : (ns new : List (Node V)) (place : ℕ) (node : Node V) (value : Option V) → slice_get ns place ≡ Some node
      → slice_get new place ≡ Some (record { value = value; child = node.child; next = node.next; column = node.column }) → ((k : ℕ) → (k ≡ place → ⊥) → slice_get new k ≡ slice_get ns k)
      → (t : Shape V) → Keep ns t → Keep new (revalued place value t)
  unfolding Keep revalued
  keep_revalued ns new place node value was here others tip k = refl
  keep_revalued ns new place node value was here others (fork at c v l r) k = (
    by (eqb at place) refl,
    keep_revalued ns new place node value was here others l k.1,
    keep_revalued ns new place node value was here others r k.2,
  )
    where
      roots : (w : Option V) → ◌≡◌ {A = Option (Node V)} (Some (record { value = w; child = root l; next = root r; column = c })) (Some (record { value = w; child = root (revalued place value l); next = root (revalued place value r); column = c }))
      roots w = λ i. Some (record { value = w; child = root_revalued place value l i; next = root_revalued place value r i; column = c })

      by : (b : Bool) → eqb at place ≡ b → slice_get new at ≡ Some (record { value = (if b then value else v); child = root (revalued place value l); next = root (revalued place value r); column = c })
      by true e =
          let same : node ≡ record { value = v; child = root l; next = root r; column = c } = some-injective node _ (sym was ∙ ap (slice_get ns) (sym (eqb-true at place e)) ∙ k.0) in
          ap (slice_get new) (eqb-true at place e) ∙ here ∙ ap (λ (n : Node V). Some (record { value = value; child = n.child; next = n.next; column = n.column })) same ∙ roots value
      by false e = others at (λ i. true≢false (sym (eq-eqb at place i) ∙ e)) ∙ k.0 ∙ roots v

  -- ---- a path gets another value
  module _ (ns ns1 ns2 : List (Node V)) (us us1 us2 : List ℕ) (place : ℕ) (node : Node V) (here : slice_get ns place ≡ Some node) (x : ℕ) (w : Option V) (to : Option ℕ) where
    pub changed_below : (first : ℕ) (child : Option ℕ) → node.column < first → x ≢ empty → has x node.column ≡ false
        → Gives ns us node.child first ns1 us1 child x w → Retains ns1 us1 place (record { value = node.value; child = child; next = node.next; column = node.column }) ns2 us2 to
        → (from : ℕ) (t : Shape V) → IsTree ns us (Some place) from t → Becomes ns us from t ns2 us2 to (but t (with x node.column) w)
    changed_below first child behind some lacks ih retains from t tree =
        let o = opened ns us from place node t here tree in
        let whole = subst (IsTree ns us (Some place) from) o.is tree in
        let b = ih (suc node.column) o.below o.below_tree (omega (arith, behind)) in
        let within = slice_get_within ns1 place node (here_below ns ns1 us us1 place node.column node.value node.value o.below o.beside from b.shape whole b.local ∙ here) in
        subst (λ (u : Shape V). Becomes ns us from u ns2 us2 to (but u (with x node.column) w)) (sym o.is)
        (becomes_then ns ns1 ns2 us us1 us2 from (fork place node.column node.value o.below o.beside) (fork place node.column node.value b.shape o.beside) to (but (fork place node.column node.value o.below o.beside) (with x node.column) w)
        (local_below ns ns1 us us1 place node.column node.value node.value o.below o.beside b.shape b.local)
        (look_below place node.column x node.value w o.below b.shape o.beside b.same some lacks)
        (retains from b.shape o.beside b.starts o.beside_tree.starts
        (loose_below ns ns1 us us1 place node.column node.value node.value o.below o.beside from b.shape whole b.local b.kept b.ascends within)))

    pub changed_beside : (first : ℕ) (next : Option ℕ) → node.column < first → has x node.column ≡ false
        → Gives ns us node.next first ns1 us1 next x w → Retains ns1 us1 place (record { value = node.value; child = node.child; next = next; column = node.column }) ns2 us2 to
        → (from : ℕ) (t : Shape V) → IsTree ns us (Some place) from t → Becomes ns us from t ns2 us2 to (but t x w)
    changed_beside first next behind lacks ih retains from t tree =
        let o = opened ns us from place node t here tree in
        let whole = subst (IsTree ns us (Some place) from) o.is tree in
        let b = ih (suc node.column) o.beside o.beside_tree (omega (arith, behind)) in
        let within = slice_get_within ns1 place node (here_beside ns ns1 us us1 place node.column node.value node.value o.below o.beside from b.shape whole b.local ∙ here) in
        subst (λ (u : Shape V). Becomes ns us from u ns2 us2 to (but u x w)) (sym o.is)
        (becomes_then ns ns1 ns2 us us1 us2 from (fork place node.column node.value o.below o.beside) (fork place node.column node.value o.below b.shape) to (but (fork place node.column node.value o.below o.beside) x w)
        (local_beside ns ns1 us us1 place node.column node.value node.value o.below o.beside b.shape b.local)
        (look_beside place node.column x node.value w o.below o.beside b.shape b.same lacks)
        (retains from o.below b.shape o.below_tree.starts b.starts
        (loose_beside ns ns1 us us1 place node.column node.value node.value o.below o.beside from b.shape whole b.local b.kept b.ascends within)))

  pub changed_here : (ns new : List (Node V)) (us waiting : List ℕ) (place : ℕ) (node : Node V) (w : Option V) (to : Option ℕ) → slice_get ns place ≡ Some node
      → Retains ns us place (record { value = w; child = node.child; next = node.next; column = node.column }) new waiting to
      → (from : ℕ) (t : Shape V) → IsTree ns us (Some place) from t → Becomes ns us from t new waiting to (but t (with empty node.column) w)
  unfolding uses Ascends
  changed_here ns new us waiting place node w to here retains from t tree =
      let o = opened ns us from place node t here tree in
      let whole = subst (IsTree ns us (Some place) from) o.is tree in
      subst (λ (u : Shape V). Becomes ns us from u new waiting to (but u (with empty node.column) w)) (sym o.is)
      (becomes_then ns ns new us us waiting from (fork place node.column node.value o.below o.beside) (fork place node.column w o.below o.beside) to (but (fork place node.column node.value o.below o.beside) (with empty node.column) w)
      (record { fewer = λ k. omega arith; same = λ k z. refl })
      (look_here place node.column node.value w o.below o.beside)
      (retains from o.below o.beside o.below_tree.starts o.beside_tree.starts (record {
        within = o.within;
        kept_below = o.below_tree.kept;
        kept_beside = o.beside_tree.kept;
        ascends = (o.above, o.narrow, o.below_tree.ascends, o.beside_tree.ascends);
        once = whole.once;
      })))

  -- ---- a tree that begins further behind
  pub tip_tree : (ns : List (Node V)) (us : List ℕ) (from other : ℕ) (t : Shape V) → IsTree ns us None from t → IsTree ns us None other t
  unfolding root Ascends
  tip_tree ns us from other tip tree = record { starts = tree.starts; kept = tree.kept; ascends = refl; once = tree.once }
  tip_tree ns us from other (fork at c v l r) tree = absurd (none-some at tree.starts)

  pub tree_from : (ns : List (Node V)) (us : List ℕ) (from other place : ℕ) (node : Node V) (t : Shape V) → slice_get ns place ≡ Some node → other ≤ node.column → IsTree ns us (Some place) from t → IsTree ns us (Some place) other t
  unfolding Ascends
  tree_from ns us from other place node t here above tree =
      let o = opened ns us from place node t here tree in
      record { starts = tree.starts; kept = tree.kept; ascends = subst (Ascends other) (sym o.is) (above, o.narrow, o.below_tree.ascends, o.beside_tree.ascends); once = tree.once }

  -- ---- a new path
  module _ (ns ns1 ns2 : List (Node V)) (us us1 us2 : List ℕ) (column place from : ℕ) (t : Shape V) (next : Option ℕ) (tree : IsTree ns us next (suc column) t) (above : from ≤ column) (narrow : column < MOST_COLUMNS) where
    -- a node was added of which a new tree stands below
    pub added : (value : Option V) (child : Option ℕ) (below : Shape V) (values : ℕ → Option V) → child ≡ root below → Keep ns1 below → Ascends (suc column) below → IsLocal ns us tip ns1 us1 below
        → slice_get ns2 place ≡ Some (record { value = value; child = child; next = next; column = column })
        → ((k : ℕ) → one place k + spare (length ns2) us2 k ≤ spare (length ns1) us1 k) → ((k : ℕ) → spare (length ns1) us1 k ≡ 0 → slice_get ns2 k ≡ slice_get ns1 k)
        → ((y : ℕ) → look (fork place column value below t) y ≡ values y)
        → Becomes ns us from t ns2 us2 (Some place) values
    unfolding uses Keep root Ascends
    added value child below values starts kept ascends a here fewer same f = record {
      shape = fork place column value below t;
      starts = refl;
      kept = (
        here ∙ ap₂ (λ (b s : Option ℕ). Some (record { value = value; child = b; next = s; column = column })) starts tree.starts,
        keep_same ns1 ns2 below kept (λ k h. same k (let x = a.fewer k in let o = tree.once k in omega (arith, x, o, h))),
        keep_same ns ns2 t tree.kept (λ k h. let x = a.fewer k in let o = tree.once k in same k (omega (arith, x, o, h)) ∙ a.same k (omega (arith, o, h))),
      );
      ascends = (above, narrow, ascends, tree.ascends);
      same = f;
      local = record {
        fewer = λ k. let x = a.fewer k in let y = fewer k in omega (arith, x, y);
        same = λ k z. let x = a.fewer k in same k (omega (arith, x, z)) ∙ a.same k (omega (arith, z));
      };
    }

  -- what a new node with a value has, and one with a path below
  pub look_end : (place column : ℕ) (value : V) (t : Shape V) (x : ℕ) → x ≡ empty → Ascends (suc column) t → (y : ℕ) → look (fork place column (Some value) tip t) y ≡ but t (with x column) (Some value) y
  look_end place column value t x none a y =
      look_here place column None (Some value) tip t y
      ∙ ap₂ (λ (b : Bool) (o : Option V). if b then Some value else o) (ap (λ (z : ℕ). y == with z column) (sym none)) (look_absent place column t y a)

  pub look_on : (place column x : ℕ) (value : Option V) (below t : Shape V) → x ≢ empty → has x column ≡ false → ((y : ℕ) → look below y ≡ but tip x value y) → Ascends (suc column) t → (y : ℕ) → look (fork place column None below t) y ≡ but t (with x column) value y
  look_on place column x value below t some lacks f a y =
      look_below place column x None value tip below t f some lacks y
      ∙ ap (λ (o : Option V). if y == with x column then value else o) (look_absent place column t y a)

  pub tip_is_tree : (ns : List (Node V)) (us : List ℕ) (from : ℕ) → ((k : ℕ) → spare (length ns) us k ≤ 1) → IsTree ns us None from tip
  unfolding root Ascends Keep uses
  tip_is_tree ns us from once = record { starts = refl; kept = refl; ascends = refl; once = λ k. let o = once k in omega (arith, o) }

  -- what is spare after a tree grew out of nothing
  pub spare_after : (ns new : List (Node V)) (us waiting : List ℕ) (t : Shape V) → IsLocal ns us tip new waiting t → ((k : ℕ) → spare (length ns) us k ≤ 1) → (k : ℕ) → spare (length new) waiting k ≤ 1
  unfolding uses
  spare_after ns new us waiting t a once k = let x = a.fewer k in let o = once k in omega (arith, x, o)

  -- nothing stands at fewer places still
  pub nothing_local : (ns new : List (Node V)) (us waiting : List ℕ) → ((k : ℕ) → spare (length new) waiting k ≤ spare (length ns) us k) → ((k : ℕ) → spare (length ns) us k ≡ 0 → slice_get new k ≡ slice_get ns k) → IsLocal ns us tip new waiting tip
  unfolding uses
  nothing_local ns new us waiting fewer same = record { fewer = λ k. let f = fewer k in omega (arith, f); same = λ k z. same k (omega (arith, z)) }

  -- a tree that grew out of nothing is let go of
  pub forgotten : (ns new : List (Node V)) (us waiting : List ℕ) (t : Shape V) → IsLocal ns us tip new waiting t → IsLocal ns us tip new waiting tip
  unfolding uses
  forgotten ns new us waiting t a = record { fewer = λ k. let x = a.fewer k in omega (arith, x); same = a.same }

-- what holds of nothing
pub tip_root : (V : Type 0) → None ≡ root {V = V} tip
unfolding root
tip_root V = refl

pub tip_ascends : (V : Type 0) (from : ℕ) → Ascends {V = V} from tip
unfolding Ascends
tip_ascends V from = refl

module _ {V : Type 0} where
  pub tip_kept : (ns : List (Node V)) → Keep ns tip
  unfolding Keep
  tip_kept ns = refl

  -- ---- where a tree stands
  pub begins_within : (ns : List (Node V)) (us : List ℕ) (from place : ℕ) (t : Shape V) → IsTree ns us (Some place) from t → place < length ns
  unfolding Keep root
  begins_within ns us from place tip tree = absurd (none-some place (sym tree.starts))
  begins_within ns us from place (fork at c v l r) tree = slice_get_within ns place _ (ap (slice_get ns) (some-injective place at tree.starts) ∙ tree.kept.0)

  pub stands_within : (ns : List (Node V)) (us : List ℕ) (link : Option ℕ) (column place : ℕ) → Stands ns us link column → link ≡ Some place → place < length ns
  stands_within ns us link column place s e = begins_within ns us s.from place s.shape (subst (λ (l : Option ℕ). IsTree ns us l s.from s.shape) e s.tree)

  module _ (ns : List (Node V)) (us : List ℕ) (link : Option ℕ) (column place : ℕ) (node : Node V) (s : Stands ns us link column) (e : link ≡ Some place) (here : slice_get ns place ≡ Some node) where
    whole : Opened ns us s.from place node s.shape
    whole = opened ns us s.from place node s.shape here (subst (λ (l : Option ℕ). IsTree ns us l s.from s.shape) e s.tree)

    pub stands_below : (below : ℕ) → node.column < below → Stands ns us node.child below
    stands_below below l = record { from = suc node.column; shape = whole.below; tree = whole.below_tree; above = omega (arith, l) }

    pub stands_beside : node.column < column → Stands ns us node.next column
    stands_beside l = record { from = suc node.column; shape = whole.beside; tree = whole.beside_tree; above = omega (arith, l) }

    height : tall ns link ≡ MOST_COLUMNS - node.column
    height = ap (tall ns) e ∙ tall_at ns place node here

    pub falls_below : tall ns node.child < tall ns link
    falls_below = subst (λ (n : ℕ). tall ns node.child < n) (sym height) (tall_after ns us node.child node.column whole.below whole.narrow whole.below_tree)

    pub falls_beside : tall ns node.next < tall ns link
    falls_beside = subst (λ (n : ℕ). tall ns node.next < n) (sym height) (tall_after ns us node.next node.column whole.beside whole.narrow whole.beside_tree)

    -- the node is still at its place where the tree below it or beside it became another
    pub stays_below : (new : List (Node V)) (waiting : List ℕ) (first : ℕ) (child : Option ℕ) (x : ℕ) (w : Option V) → node.column < first → Gives ns us node.child first new waiting child x w → place < length new
    stays_below new waiting first child x w behind ih =
        let b = ih (suc node.column) whole.below whole.below_tree (omega (arith, behind)) in
        let t = subst (IsTree ns us (Some place) s.from) whole.is (subst (λ (l : Option ℕ). IsTree ns us l s.from s.shape) e s.tree) in
        slice_get_within new place node (here_below ns new us waiting place node.column node.value node.value whole.below whole.beside s.from b.shape t b.local ∙ here)

    pub stays_beside : (new : List (Node V)) (waiting : List ℕ) (first : ℕ) (next : Option ℕ) (x : ℕ) (w : Option V) → node.column < first → Gives ns us node.next first new waiting next x w → place < length new
    stays_beside new waiting first next x w behind ih =
        let b = ih (suc node.column) whole.beside whole.beside_tree (omega (arith, behind)) in
        let t = subst (IsTree ns us (Some place) s.from) whole.is (subst (λ (l : Option ℕ). IsTree ns us l s.from s.shape) e s.tree) in
        slice_get_within new place node (here_beside ns new us waiting place node.column node.value node.value whole.below whole.beside s.from b.shape t b.local ∙ here)

module _ {V : Type 0} where
  -- ---- a path that has no value
  pub none_taken : (ns : List (Node V)) (us : List ℕ) (link : Option ℕ) (from x : ℕ) (t : Shape V) → IsTree ns us link from t → look t x ≡ None → Becomes ns us from t ns us link (but t x None)
  none_taken ns us link from x t tree none = record {
    shape = t;
    starts = tree.starts;
    kept = tree.kept;
    ascends = tree.ascends;
    same = λ y. by y (eqb y x) refl;
    local = record { fewer = λ k. omega arith; same = λ k z. refl };
  }
    where
      by : (y : ℕ) (b : Bool) → eqb y x ≡ b → look t y ≡ (if b then None else look t y)
      by y true e = ap (look t) (eqb-true y x e) ∙ none
      by y false e = refl

  pub look_tip : (x : ℕ) → look {V = V} tip x ≡ None
  unfolding look
  look_tip x = refl

  pub none_at_tip : (ns : List (Node V)) (us : List ℕ) (from x : ℕ) (t : Shape V) → IsTree ns us None from t → look t x ≡ None
  unfolding root
  none_at_tip ns us from x tip tree = look_tip x
  none_at_tip ns us from x (fork at c v l r) tree = absurd (none-some at tree.starts)
