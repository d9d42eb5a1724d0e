-- Where a path ends, and another value there.
use Rattle.std.proofs.Common.{◌≡◌, ◌≢◌, ℕ, suc, ◌+◌, ◌<◌, ◌≤◌, ◌==◌, ◌&&◌, not, Bool, true, false, eqb, refl, sym, ap, ap₂, ◌∙◌, subst, arith, List, length, Option, Some, None, if◌then◌else◌}
use Rattle.std.specs.List.{slice_get}
use Rattle.std.proofs.lemmas.Option.{none-some, slice_get_within}
use Rattle.set_tree.specs.Walks.{Reads}
use Rattle.std.proofs.lemmas.Bool.{eqb-true, eqb-false, eq-eqb, ne_eqb}
use Rattle.col_set.specs.ColSet.{has, without, empty}
use Rattle.col_set.specs.Members.{has-without, same_set}
use Rattle.set_tree.specs.declared.node.Node.{Node}
use Rattle.set_tree.specs.Tree.{Shape, tip, fork, look, spot, Keep, Ascends, uses, one, spare, revalued, IsTree, Becomes, but}
use Rattle.set_tree.proofs.Places.{one_same}
use Rattle.set_tree.proofs.Growing.{some-injective, root_revalued}

-- sets with c that are the same without it are the same
same_without : (x y c : ℕ) → has x c ≡ true → has y c ≡ true → without x c ≡ without y c → x ≡ y
same_without x y c h g e = same_set x y (λ k. by k (eqb k c) refl)
  where
    both : (p : Bool) → (p && true) ≡ p
    both true = refl
    both false = refl

    by : (k : ℕ) (b : Bool) → eqb k c ≡ b → has x k ≡ has y k
    by k true i = ap (has x) (eqb-true k c i) ∙ h ∙ sym (ap (has y) (eqb-true k c i) ∙ g)
    by k false i =
        sym (has-without x c k ∙ ap (λ (b : Bool). has x k && not b) i ∙ both (has x k))
        ∙ ap (λ z. has z k) e
        ∙ (has-without y c k ∙ ap (λ (b : Bool). has y k && not b) i ∙ both (has y k))

-- how a path goes at a node
pub data Goes (c x : ℕ) : Type 0 where
  ends : has x c ≡ true → without x c ≡ empty → Goes c x
  on : has x c ≡ true → without x c ≢ empty → Goes c x
  past : has x c ≡ false → Goes c x

pub goes : (c x : ℕ) → Goes c x
goes c x = by (has x c) refl (without x c == empty) refl
  where
    by : (b : Bool) → has x c ≡ b → (d : Bool) → (without x c == empty) ≡ d → Goes c x
    by true e true f = ends e (eqb-true (without x c) empty f)
    by true e false f = on e (eqb-false (without x c) empty f)
    by false e d f = past e

module _ {V : Type 0} (at c : ℕ) (v : Option V) (l r : Shape V) (x : ℕ) where
  spot_ends : has x c ≡ true → without x c ≡ empty → spot (fork at c v l r) x ≡ Some at
  unfolding spot
  spot_ends e i = ap (λ (b : Bool). if b then (if without x c == empty then Some at else spot l (without x c)) else spot r x) e ∙ ap (λ (b : Bool). if b then Some at else spot l (without x c)) (eq-eqb (without x c) empty i)

  spot_on : has x c ≡ true → without x c ≢ empty → spot (fork at c v l r) x ≡ spot l (without x c)
  unfolding spot
  spot_on e i = ap (λ (b : Bool). if b then (if without x c == empty then Some at else spot l (without x c)) else spot r x) e ∙ ap (λ (b : Bool). if b then Some at else spot l (without x c)) (ne_eqb (without x c) empty i)

  spot_past : has x c ≡ false → spot (fork at c v l r) x ≡ spot r x
  unfolding spot
  spot_past e = ap (λ (b : Bool). if b then (if without x c == empty then Some at else spot l (without x c)) else spot r x) e

  pub look_ends : has x c ≡ true → without x c ≡ empty → look (fork at c v l r) x ≡ v
  unfolding look
  look_ends e i = ap (λ (b : Bool). if b then (if without x c == empty then v else look l (without x c)) else look r x) e ∙ ap (λ (b : Bool). if b then v else look l (without x c)) (eq-eqb (without x c) empty i)

  pub look_on : has x c ≡ true → without x c ≢ empty → look (fork at c v l r) x ≡ look l (without x c)
  unfolding look
  look_on e i = ap (λ (b : Bool). if b then (if without x c == empty then v else look l (without x c)) else look r x) e ∙ ap (λ (b : Bool). if b then v else look l (without x c)) (ne_eqb (without x c) empty i)

  pub look_past : has x c ≡ false → look (fork at c v l r) x ≡ look r x
  unfolding look
  look_past e = ap (λ (b : Bool). if b then (if without x c == empty then v else look l (without x c)) else look r x) e

module _ {V : Type 0} where
  -- a path that ends nowhere has no value
  pub look_nowhere : (t : Shape V) (x : ℕ) → spot t x ≡ None → look t x ≡ None
  unfolding look
  look_nowhere tip x e = refl
  look_nowhere (fork at c v l r) x e = by (goes c x) (λ f. look_nowhere l (without x c) f) (λ f. look_nowhere r x f)
    where
      by : Goes c x → (spot l (without x c) ≡ None → look l (without x c) ≡ None) → (spot r x ≡ None → look r x ≡ None) → look (fork at c v l r) x ≡ None
      by (ends h i) f g = absurd (none-some at (sym e ∙ spot_ends at c v l r x h i))
      by (on h i) f g = look_on at c v l r x h i ∙ f (sym (spot_on at c v l r x h i) ∙ e)
      by (past h) f g = look_past at c v l r x h ∙ g (sym (spot_past at c v l r x h) ∙ e)

  -- a path that ends at a node has its value
  pub look_spot : (ns : List (Node V)) (t : Shape V) (x place : ℕ) (node : Node V) → Keep ns t → spot t x ≡ Some place → slice_get ns place ≡ Some node → look t x ≡ node.value
  unfolding Keep spot
  look_spot ns tip x place node k e here = absurd (none-some place e)
  look_spot ns (fork at c v l r) x place node k e here = by (goes c x) (λ f. look_spot ns l (without x c) place node k.1 f here) (λ f. look_spot ns r x place node k.2 f here)
    where
      by : Goes c x → (spot l (without x c) ≡ Some place → look l (without x c) ≡ node.value) → (spot r x ≡ Some place → look r x ≡ node.value) → look (fork at c v l r) x ≡ node.value
      by (ends h i) f g =
          let same : at ≡ place = some-injective at place (sym (spot_ends at c v l r x h i) ∙ e) in
          look_ends at c v l r x h i ∙ ap (λ (n : Node V). n.value) (some-injective _ node (sym k.0 ∙ ap (slice_get ns) same ∙ here))
      by (on h i) f g = look_on at c v l r x h i ∙ f (sym (spot_on at c v l r x h i) ∙ e)
      by (past h) f g = look_past at c v l r x h ∙ g (sym (spot_past at c v l r x h) ∙ e)

  -- the place at which a path ends is used
  pub spot_used : (t : Shape V) (x place : ℕ) → spot t x ≡ Some place → 1 ≤ uses t place
  unfolding uses spot
  spot_used tip x place e = absurd (none-some place e)
  spot_used (fork at c v l r) x place e = by (goes c x) (λ f. spot_used l (without x c) place f) (λ f. spot_used r x place f)
    where
      by : Goes c x → (spot l (without x c) ≡ Some place → 1 ≤ uses l place) → (spot r x ≡ Some place → 1 ≤ uses r place) → 1 ≤ one at place + (uses l place + uses r place)
      by (ends h i) f g =
          let same : at ≡ place = some-injective at place (sym (spot_ends at c v l r x h i) ∙ e) in
          let o : one at place ≡ 1 = subst (λ (k : ℕ). one at k ≡ 1) same (one_same at) in omega (arith, o)
      by (on h i) f g = let u = f (sym (spot_on at c v l r x h i) ∙ e) in omega (arith, u)
      by (past h) f g = let u = g (sym (spot_past at c v l r x h) ∙ e) in omega (arith, u)

  -- and where it is used once, no other path ends there
  pub spot_unique : (t : Shape V) (x y place : ℕ) → uses t place ≤ 1 → spot t x ≡ Some place → spot t y ≡ Some place → x ≡ y
  unfolding uses spot
  spot_unique tip x y place u e f = absurd (none-some place e)
  spot_unique (fork at c v l r) x y place u e f =
      by (goes c x) (goes c y) (λ p q. spot_unique l (without x c) (without y c) place (omega (arith, u)) p q) (λ p q. spot_unique r x y place (omega (arith, u)) p q)
    where
      here : at ≡ place → one at place ≡ 1
      here same = subst (λ (k : ℕ). one at k ≡ 1) same (one_same at)

      at_end : (z : ℕ) → spot (fork at c v l r) z ≡ Some place → has z c ≡ true → without z c ≡ empty → one at place ≡ 1
      at_end z g h i = here (some-injective at place (sym (spot_ends at c v l r z h i) ∙ g))

      at_below : (z : ℕ) → spot (fork at c v l r) z ≡ Some place → has z c ≡ true → without z c ≢ empty → 1 ≤ uses l place
      at_below z g h i = spot_used l (without z c) place (sym (spot_on at c v l r z h i) ∙ g)

      at_beside : (z : ℕ) → spot (fork at c v l r) z ≡ Some place → has z c ≡ false → 1 ≤ uses r place
      at_beside z g h = spot_used r z place (sym (spot_past at c v l r z h) ∙ g)

      by : Goes c x → Goes c y → (spot l (without x c) ≡ Some place → spot l (without y c) ≡ Some place → without x c ≡ without y c) → (spot r x ≡ Some place → spot r y ≡ Some place → x ≡ y) → x ≡ y
      by (ends h i) (ends g j) p q = same_without x y c h g (i ∙ sym j)
      by (on h i) (on g j) p q = same_without x y c h g (p (sym (spot_on at c v l r x h i) ∙ e) (sym (spot_on at c v l r y g j) ∙ f))
      by (past h) (past g) p q = q (sym (spot_past at c v l r x h) ∙ e) (sym (spot_past at c v l r y g) ∙ f)
      by (ends h i) (on g j) p q = absurd (let a = at_end x e h i in let b = at_below y f g j in omega (arith, a, b, u))
      by (ends h i) (past g) p q = absurd (let a = at_end x e h i in let b = at_beside y f g in omega (arith, a, b, u))
      by (on h i) (ends g j) p q = absurd (let a = at_below x e h i in let b = at_end y f g j in omega (arith, a, b, u))
      by (on h i) (past g) p q = absurd (let a = at_below x e h i in let b = at_beside y f g in omega (arith, a, b, u))
      by (past h) (ends g j) p q = absurd (let a = at_beside x e h in let b = at_end y f g j in omega (arith, a, b, u))
      by (past h) (on g j) p q = absurd (let a = at_beside x e h in let b = at_below y f g j in omega (arith, a, b, u))

  -- ---- another value at a place
  pub uses_revalued : (place : ℕ) (w : Option V) (t : Shape V) (k : ℕ) → uses (revalued place w t) k ≡ uses t k
  unfolding uses revalued
  uses_revalued place w tip k = refl
  uses_revalued place w (fork at c v l r) k = ap₂ (λ (m n : ℕ). one at k + (m + n)) (uses_revalued place w l k) (uses_revalued place w r k)

  pub ascends_revalued : (place : ℕ) (w : Option V) (from : ℕ) (t : Shape V) → Ascends from t → Ascends from (revalued place w t)
  unfolding Ascends revalued
  ascends_revalued place w from tip a = refl
  ascends_revalued place w from (fork at c v l r) a = (a.0, a.1, ascends_revalued place w (suc c) l a.2, ascends_revalued place w (suc c) r a.3)

  pub look_revalued : (place : ℕ) (w : Option V) (t : Shape V) (x : ℕ) → spot t x ≡ Some place → look (revalued place w t) x ≡ w
  unfolding revalued spot
  look_revalued place w tip x e = absurd (none-some place e)
  look_revalued place w (fork at c v l r) x e = by (goes c x) (λ f. look_revalued place w l (without x c) f) (λ f. look_revalued place w r x f)
    where
      by : Goes c x → (spot l (without x c) ≡ Some place → look (revalued place w l) (without x c) ≡ w) → (spot r x ≡ Some place → look (revalued place w r) x ≡ w) → look (fork at c (if at == place then w else v) (revalued place w l) (revalued place w r)) x ≡ w
      by (ends h i) f g =
          look_ends at c (if at == place then w else v) (revalued place w l) (revalued place w r) x h i
          ∙ ap (λ (b : Bool). if b then w else v) (eq-eqb at place (some-injective at place (sym (spot_ends at c v l r x h i) ∙ e)))
      by (on h i) f g = look_on at c (if at == place then w else v) (revalued place w l) (revalued place w r) x h i ∙ f (sym (spot_on at c v l r x h i) ∙ e)
      by (past h) f g = look_past at c (if at == place then w else v) (revalued place w l) (revalued place w r) x h ∙ g (sym (spot_past at c v l r x h) ∙ e)

  pub look_unchanged : (place : ℕ) (w : Option V) (t : Shape V) (x : ℕ) → (spot t x ≡ Some place → ⊥) → look (revalued place w t) x ≡ look t x
  unfolding revalued
  look_unchanged place w tip x e = refl
  look_unchanged place w (fork at c v l r) x e = by (goes c x) (λ f. look_unchanged place w l (without x c) f) (λ f. look_unchanged place w r x f)
    where
      by : Goes c x → ((spot l (without x c) ≡ Some place → ⊥) → look (revalued place w l) (without x c) ≡ look l (without x c)) → ((spot r x ≡ Some place → ⊥) → look (revalued place w r) x ≡ look r x) → look (fork at c (if at == place then w else v) (revalued place w l) (revalued place w r)) x ≡ look (fork at c v l r) x
      by (ends h i) f g =
          look_ends at c (if at == place then w else v) (revalued place w l) (revalued place w r) x h i
          ∙ ap (λ (b : Bool). if b then w else v) (ne_eqb at place (λ j. e (spot_ends at c v l r x h i ∙ ap (λ (k : ℕ). Some k) j)))
          ∙ sym (look_ends at c v l r x h i)
      by (on h i) f g = look_on at c (if at == place then w else v) (revalued place w l) (revalued place w r) x h i ∙ f (λ j. e (spot_on at c v l r x h i ∙ j)) ∙ sym (look_on at c v l r x h i)
      by (past h) f g = look_past at c (if at == place then w else v) (revalued place w l) (revalued place w r) x h ∙ g (λ j. e (spot_past at c v l r x h ∙ j)) ∙ sym (look_past at c v l r x h)

  -- the tree with another value for the path that ends at the place
  pub replaced : (ns new : List (Node V)) (us waiting : List ℕ) (link : Option ℕ) (from x place : ℕ) (w : Option V) (t : Shape V) → IsTree ns us link from t → spot t x ≡ Some place
      → Keep new (revalued place w t) → length new ≡ length ns → waiting ≡ us → ((k : ℕ) → (k ≡ place → ⊥) → slice_get new k ≡ slice_get ns k) → Becomes ns us from t new waiting link (but t x w)
  replaced ns new us waiting link from x place w t tree e kept long same others = record {
    shape = revalued place w t;
    starts = tree.starts ∙ root_revalued place w t;
    kept = kept;
    ascends = ascends_revalued place w from t tree.ascends;
    same = λ y. by y (eqb y x) refl;
    local = record {
      fewer = λ k. subst (λ (n : ℕ). uses (revalued place w t) k + spare n waiting k ≤ uses t k + spare (length ns) us k) (sym long)
          (subst (λ (v : List ℕ). uses (revalued place w t) k + spare (length ns) v k ≤ uses t k + spare (length ns) us k) (sym same)
          (let u = uses_revalued place w t k in omega (arith, u)));
      same = λ k z. others k (λ i. let u = spot_used t x place e in let n : uses t place ≡ 0 = subst (λ (j : ℕ). uses t j ≡ 0) i (omega (arith, z)) in omega (arith, u, n));
    };
  }
    where
      by : (y : ℕ) (b : Bool) → eqb y x ≡ b → look (revalued place w t) y ≡ (if b then w else look t y)
      by y true i = look_revalued place w t y (ap (spot t) (eqb-true y x i) ∙ e)
      by y false i = look_unchanged place w t y (λ j. eqb-false y x i (spot_unique t y x place (let o = tree.once place in omega (arith, o)) j e))

  pub spot_within : (ns : List (Node V)) (t : Shape V) (x place : ℕ) → Keep ns t → spot t x ≡ Some place → place < length ns
  unfolding Keep spot
  spot_within ns tip x place k e = absurd (none-some place e)
  spot_within ns (fork at c v l r) x place k e = by (goes c x) (λ f. spot_within ns l (without x c) place k.1 f) (λ f. spot_within ns r x place k.2 f)
    where
      by : Goes c x → (spot l (without x c) ≡ Some place → place < length ns) → (spot r x ≡ Some place → place < length ns) → place < length ns
      by (ends h i) f g = subst (λ (j : ℕ). j < length ns) (some-injective at place (sym (spot_ends at c v l r x h i) ∙ e)) (slice_get_within ns at _ k.0)
      by (on h i) f g = f (sym (spot_on at c v l r x h i) ∙ e)
      by (past h) f g = g (sym (spot_past at c v l r x h) ∙ e)

  -- what is read of a tree
  pub tree_reads : (ns : List (Node V)) (us : List ℕ) (link : Option ℕ) (from : ℕ) (t : Shape V) → IsTree ns us link from t → Reads ns link from t
  tree_reads ns us link from t tree = record { starts = tree.starts; kept = tree.kept; ascends = tree.ascends }
