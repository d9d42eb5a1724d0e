-- The values of a tree where one node changed.
use Rattle.std.proofs.Common.{◌≡◌, ◌≢◌, ℕ, suc, ◌<◌, ◌==◌, ◌&&◌, ◌||◌, not, Bool, true, false, eqb, refl, sym, ap, ap₂, ◌∙◌, arith, Option, None, if◌then◌else◌}
use Rattle.std.proofs.lemmas.Bool.{eqb-true, eq-eqb, ne_eqb, true≢false}
use Rattle.col_set.specs.ColSet.{has, with, without, empty}
use Rattle.col_set.specs.Members.{has-empty, has-with, has-without, same_set}
use Rattle.set_tree.specs.Tree.{Shape, tip, fork, look, Ascends}

or_true : (b : Bool) → (b || true) ≡ true
or_true true = refl
or_true false = refl

or_false : (b : Bool) → (b || false) ≡ b
or_false true = refl
or_false false = refl

and_true : (b : Bool) → (b && true) ≡ b
and_true true = refl
and_true false = refl

and_false : (b : Bool) → (b && false) ≡ false
and_false true = refl
and_false false = refl

-- a path with c, and what is left of it
pub path_is : (x y c : ℕ) → has x c ≡ false → has y c ≡ true → (y == with x c) ≡ (without y c == x)
path_is x y c lacks h = by (without y c == x) refl
  where
    there : without y c ≡ x → y ≡ with x c
    there e = same_set y (with x c) (λ k. cases k (eqb k c) refl)
      where
        cases : (k : ℕ) (b : Bool) → eqb k c ≡ b → has y k ≡ has (with x c) k
        cases k true i = ap (has y) (eqb-true k c i) ∙ h ∙ sym (has-with x c k ∙ ap (λ (b : Bool). has x k || b) i ∙ or_true (has x k))
        cases k false i = sym (has-with x c k ∙ ap₂ (λ (p : Bool) (b : Bool). p || b) (ap (λ z. has z k) (sym e) ∙ has-without y c k ∙ ap (λ (b : Bool). has y k && not b) i) i ∙ or_false (has y k && true) ∙ and_true (has y k))

    back : y ≡ with x c → without y c ≡ x
    back e = same_set (without y c) x (λ k. has-without y c k ∙ cases k (eqb k c) refl)
      where
        cases : (k : ℕ) (b : Bool) → eqb k c ≡ b → (has y k && not (eqb k c)) ≡ has x k
        cases k true i = ap (λ (b : Bool). has y k && not b) i ∙ and_false (has y k) ∙ sym (ap (has x) (eqb-true k c i) ∙ lacks)
        cases k false i = ap₂ (λ (p b : Bool). p && not b) (ap (λ z. has z k) e ∙ has-with x c k ∙ ap (λ (b : Bool). has x k || b) i) i ∙ and_true (has x k || false) ∙ or_false (has x k)

    by : (b : Bool) → (without y c == x) ≡ b → (y == with x c) ≡ b
    by true e = eq-eqb y (with x c) (there (eqb-true (without y c) x e))
    by false e = ne_eqb y (with x c) (λ i. true≢false (sym (eq-eqb (without y c) x (back i)) ∙ e))

-- a path without c is none with it
pub path_is_not : (x y c : ℕ) → has y c ≡ false → (y == with x c) ≡ false
path_is_not x y c h = ne_eqb y (with x c) (λ e. true≢false (sym (ap (λ z. has z c) e ∙ has-with x c c ∙ ap (λ (b : Bool). has x c || b) (eq-eqb c c refl) ∙ or_true (has x c)) ∙ h))

module _ {V : Type 0} where
  -- a path with a column below all of them has no value
  pub look_low : (t : Shape V) (from y k : ℕ) → Ascends from t → has y k ≡ true → k < from → look t y ≡ None
  unfolding look Ascends
  look_low tip from y k a h l = refl
  look_low (fork at c v s r) from y k a h l = by (has y c) refl (λ g. look_low s (suc c) (without y c) k a.2 g (omega (arith, l, a.0))) (look_low r (suc c) y k a.3 h (omega (arith, l, a.0)))
    where
      low : has (without y c) k ≡ true
      low = has-without y c k ∙ ap₂ (λ (p q : Bool). p && not q) h (ne_eqb k c (λ e. omega (arith, e, l, a.0)))

      nonempty : (without y c ≡ empty) → ⊥
      nonempty e = true≢false (sym low ∙ ap (λ x. has x k) e ∙ has-empty k)

      by : (b : Bool) → has y c ≡ b → (has (without y c) k ≡ true → look s (without y c) ≡ None) → look r y ≡ None → (if b then (if without y c == empty then v else look s (without y c)) else look r y) ≡ None
      by true e below beside = ap (λ (b : Bool). if b then v else look s (without y c)) (ne_eqb (without y c) empty nonempty) ∙ below low
      by false e below beside = beside

  -- a column with no value and nothing below it changes nothing
  pub look_absent : (at c : ℕ) (r : Shape V) (y : ℕ) → Ascends (suc c) r → look (fork at c None tip r) y ≡ look r y
  unfolding look
  look_absent at c r y a = by (has y c) refl
    where
      both : (b : Bool) → ◌≡◌ {A = Option V} (if b then None else None) None
      both true = refl
      both false = refl

      by : (b : Bool) → has y c ≡ b → (if b then (if without y c == empty then None else None) else look r y) ≡ look r y
      by true e = both (without y c == empty) ∙ sym (look_low r (suc c) y c a e (omega arith))
      by false e = refl

  -- ---- another value for the path that ends at the node
  pub look_here : (at c : ℕ) (v w : Option V) (l r : Shape V) (y : ℕ) → look (fork at c w l r) y ≡ (if y == with empty c then w else look (fork at c v l r) y)
  unfolding look
  look_here at c v w l r y = by (has y c) refl
    where
      ends : (b : Bool) → (if b then w else look l (without y c)) ≡ (if b then w else (if b then v else look l (without y c)))
      ends true = refl
      ends false = refl

      by : (b : Bool) → has y c ≡ b → (if b then (if without y c == empty then w else look l (without y c)) else look r y) ≡ (if y == with empty c then w else (if b then (if without y c == empty then v else look l (without y c)) else look r y))
      by true h = ends (without y c == empty) ∙ ap (λ (b : Bool). if b then w else (if without y c == empty then v else look l (without y c))) (sym (path_is empty y c (has-empty c) h))
      by false h = ap (λ (b : Bool). if b then w else look r y) (sym (path_is_not empty y c h))

  -- ---- another tree below the node
  pub look_below : (at c x : ℕ) (v w : Option V) (l new r : Shape V) → ((z : ℕ) → look new z ≡ (if z == x then w else look l z)) → x ≢ empty → has x c ≡ false
      → (y : ℕ) → look (fork at c v new r) y ≡ (if y == with x c then w else look (fork at c v l r) y)
  unfolding look
  look_below at c x v w l new r f some lacks y = by (has y c) refl
    where
      ends : (b : Bool) → (without y c == empty) ≡ b → (if b then v else look new (without y c)) ≡ (if without y c == x then w else (if b then v else look l (without y c)))
      ends true e = ap (λ (b : Bool). if b then w else v) (sym (ne_eqb (without y c) x (λ i. some (sym i ∙ eqb-true (without y c) empty e))))
      ends false e = f (without y c)

      by : (b : Bool) → has y c ≡ b → (if b then (if without y c == empty then v else look new (without y c)) else look r y) ≡ (if y == with x c then w else (if b then (if without y c == empty then v else look l (without y c)) else look r y))
      by true h = ends (without y c == empty) refl ∙ ap (λ (b : Bool). if b then w else (if without y c == empty then v else look l (without y c))) (sym (path_is x y c lacks h))
      by false h = ap (λ (b : Bool). if b then w else look r y) (sym (path_is_not x y c h))

  -- ---- another tree beside the node
  pub look_beside : (at c x : ℕ) (v w : Option V) (l r new : Shape V) → ((z : ℕ) → look new z ≡ (if z == x then w else look r z)) → has x c ≡ false
      → (y : ℕ) → look (fork at c v l new) y ≡ (if y == x then w else look (fork at c v l r) y)
  unfolding look
  look_beside at c x v w l r new f lacks y = by (has y c) refl
    where
      by : (b : Bool) → has y c ≡ b → (if b then (if without y c == empty then v else look l (without y c)) else look new y) ≡ (if y == x then w else (if b then (if without y c == empty then v else look l (without y c)) else look r y))
      by true h = ap (λ (b : Bool). if b then w else (if without y c == empty then v else look l (without y c))) (sym (ne_eqb y x (λ e. true≢false (sym h ∙ ap (λ z. has z c) e ∙ lacks))))
      by false h = f y
