-- Which paths a walk meets.
use Rattle.std.proofs.Common.{inl, inr, ◌≡◌, ℕ, suc, ◌==◌, ◌&&◌, ◌||◌, not, Bool, true, false, eqb, refl, sym, ap, ap₂, ◌∙◌, subst, arith, [], ◌++◌, Option, Some, None, if◌then◌else◌}
use Rattle.std.proofs.lemmas.Option.{none-some}
use Rattle.std.proofs.lemmas.Bool.{eqb-true, eq-eqb, true≢false, and_parts}
use Rattle.col_set.specs.ColSet.{has, with, without, union, empty, IsSubset}
use Rattle.col_set.specs.Members.{has-empty, has-with, has-without, has-union, same_set}
use Rattle.col_set.specs.Lists.{Listed, Listed-append_left, Listed-append_right, Listed-append_cases}
use Rattle.set_tree.specs.Tree.{Shape, tip, fork, look, Ascends}
use Rattle.set_tree.specs.Walks.{entry, walk}
use Rattle.set_tree.proofs.Growing.{some-injective}
use Rattle.set_tree.proofs.Values.{look_low}
use Rattle.set_tree.proofs.Reading.{walk_here, walk_past}
use Rattle.set_tree.proofs.Spots.{Goes, ends, on, past, goes, look_ends, look_on, look_past}

module _ {V : Type 0} where
  -- nothing has a value at the empty path
  pub look_empty : (t : Shape V) → look t empty ≡ None
  unfolding look
  look_empty tip = refl
  look_empty (fork at c v l r) = ap (λ (b : Bool). if b then (if without empty c == empty then v else look l (without empty c)) else look r empty) (has-empty c) ∙ look_empty r

  pub entry_has : (x : ℕ) (o : Option V) (v : V) → o ≡ Some v → Listed (x, v) (entry x o)
  entry_has x None v e = absurd (none-some v e)
  entry_has x (Some w) v e = inl (λ i. (x, some-injective v w (sym e) i))

  pub entry_only : (x : ℕ) (o : Option V) (q : ℕ × V) → Listed q (entry x o) → (q.0 ≡ x) × (o ≡ Some q.1)
  entry_only x None q h = absurd h
  entry_only x (Some w) q (inl e) = (ap (λ (q : ℕ × V). q.0) e, λ i. Some ((sym (ap (λ (q : ℕ × V). q.1) e)) i))
  entry_only x (Some w) q (inr h) = absurd h

union_with : (p z c : ℕ) → has z c ≡ true → union (with p c) (without z c) ≡ union p z
union_with p z c h = same_set (union (with p c) (without z c)) (union p z) (λ k.
    has-union (with p c) (without z c) k ∙ ap₂ (λ (a b : Bool). a || b) (has-with p c k) (has-without z c k) ∙ by k (eqb k c) refl ∙ sym (has-union p z k))
  where
    by : (k : ℕ) (b : Bool) → eqb k c ≡ b → ((has p k || eqb k c) || (has z k && not (eqb k c))) ≡ (has p k || has z k)
    by k true i = ap (λ (b : Bool). (has p k || b) || (has z k && not b)) i ∙ both (has p k) (has z k) (ap (has z) (eqb-true k c i) ∙ h)
      where
        both : (p z : Bool) → z ≡ true → ((p || true) || (z && false)) ≡ (p || z)
        both true z e = refl
        both false true e = refl
        both false false e = sym e
    by k false i = ap (λ (b : Bool). (has p k || b) || (has z k && not b)) i ∙ both (has p k) (has z k)
      where
        both : (p z : Bool) → ((p || false) || (z && true)) ≡ (p || z)
        both true z = refl
        both false true = refl
        both false false = refl

union_end : (p z c : ℕ) → has z c ≡ true → without z c ≡ empty → union p z ≡ with p c
union_end p z c h e = sym (union_with p z c h) ∙ ap (union (with p c)) e ∙ same_set (union (with p c) empty) (with p c) (λ k. has-union (with p c) empty k ∙ ap (λ (b : Bool). has (with p c) k || b) (has-empty k) ∙ both (has (with p c) k))
  where
    both : (b : Bool) → (b || false) ≡ b
    both true = refl
    both false = refl

without_with : (z c : ℕ) → has z c ≡ false → without (with z c) c ≡ z
without_with z c h = same_set (without (with z c) c) z (λ k. has-without (with z c) c k ∙ ap (λ (b : Bool). b && not (eqb k c)) (has-with z c k) ∙ by k (eqb k c) refl)
  where
    by : (k : ℕ) (b : Bool) → eqb k c ≡ b → ((has z k || eqb k c) && not (eqb k c)) ≡ has z k
    by k true i = ap (λ (b : Bool). (has z k || b) && not b) i ∙ both (has z k) ∙ sym (ap (has z) (eqb-true k c i) ∙ h)
      where
        both : (b : Bool) → ((b || true) && false) ≡ false
        both true = refl
        both false = refl
    by k false i = ap (λ (b : Bool). (has z k || b) && not b) i ∙ both (has z k)
      where
        both : (b : Bool) → ((b || false) && true) ≡ b
        both true = refl
        both false = refl

has_with_it : (z c : ℕ) → has (with z c) c ≡ true
has_with_it z c = has-with z c c ∙ ap (λ (b : Bool). has z c || b) (eq-eqb c c refl) ∙ both (has z c)
  where
    both : (b : Bool) → (b || true) ≡ true
    both true = refl
    both false = refl

within_without : (z x c : ℕ) → IsSubset z x → IsSubset (without z c) x
within_without z x c s = record { each = λ k h. s.each k (and_parts (has z k) (not (eqb k c)) (sym (has-without z c k) ∙ h)).0 }

module _ {V : Type 0} where
  -- ---- what lies inside x is met
  pub walk_has : (p : ℕ) (t : Shape V) (x z : ℕ) (w : V) → look t z ≡ Some w → IsSubset z x → Listed (union p z, w) (walk p t x)
  unfolding look
  walk_has p tip x z w e s = absurd (none-some w e)
  walk_has p (fork at c v l r) x z w e s = by (goes c z) (λ f g. walk_has (with p c) l x (without z c) w f g) (λ f. walk_has p r x z w f s)
    where
      by : Goes c z → (look l (without z c) ≡ Some w → IsSubset (without z c) x → Listed (union (with p c) (without z c), w) (walk (with p c) l x)) → (look r z ≡ Some w → Listed (union p z, w) (walk p r x)) → Listed (union p z, w) (walk p (fork at c v l r) x)
      by (ends h i) f g = subst (Listed (union p z, w)) (sym (walk_here at c v l r x p (s.each c h)))
          (Listed-append_left (union p z, w) (entry (with p c) v ++ walk (with p c) l x) (walk p r x) (Listed-append_left (union p z, w) (entry (with p c) v) (walk (with p c) l x)
          (subst (λ (y : ℕ). Listed (y, w) (entry (with p c) v)) (sym (union_end p z c h i)) (entry_has (with p c) v w (sym (look_ends at c v l r z h i) ∙ e)))))
      by (on h i) f g = subst (Listed (union p z, w)) (sym (walk_here at c v l r x p (s.each c h)))
          (Listed-append_left (union p z, w) (entry (with p c) v ++ walk (with p c) l x) (walk p r x) (Listed-append_right (union p z, w) (entry (with p c) v) (walk (with p c) l x)
          (subst (λ (y : ℕ). Listed (y, w) (walk (with p c) l x)) (union_with p z c h) (f (sym (look_on at c v l r z h i) ∙ e) (within_without z x c s)))))
      by (past h) f g = also (has x c) refl (g (sym (look_past at c v l r z h) ∙ e))
        where
          also : (b : Bool) → has x c ≡ b → Listed (union p z, w) (walk p r x) → Listed (union p z, w) (walk p (fork at c v l r) x)
          also true i k = subst (Listed (union p z, w)) (sym (walk_here at c v l r x p i)) (Listed-append_right (union p z, w) (entry (with p c) v ++ walk (with p c) l x) (walk p r x) k)
          also false i k = subst (Listed (union p z, w)) (sym (walk_past at c v l r x p i)) k

  -- ---- and nothing else
  pub record IsMet (p : ℕ) (t : Shape V) (x : ℕ) (q : ℕ × V) : Type 0 where
    pub path : ℕ
    pub is : q.0 ≡ union p path
    pub value : look t path ≡ Some q.1
    pub inside : IsSubset path x

  pub walk_only : (p from : ℕ) (t : Shape V) (x : ℕ) (q : ℕ × V) → Ascends from t → Listed q (walk p t x) → IsMet p t x q
  unfolding walk Ascends
  walk_only p from tip x q a h = absurd h
  walk_only p from (fork at c v l r) x q a h = by (has x c) refl h (λ g. walk_only (with p c) (suc c) l x q a.2 g) (λ g. walk_only p (suc c) r x q a.3 g)
    where
      beside : IsMet p r x q → IsMet p (fork at c v l r) x q
      beside m = record {
        path = m.path;
        is = m.is;
        value = look_past at c v l r m.path (lacks (has m.path c) refl) ∙ m.value;
        inside = m.inside;
      }
        where
          lacks : (b : Bool) → has m.path c ≡ b → has m.path c ≡ false
          lacks true i = absurd (none-some q.1 (sym (look_low r (suc c) m.path c a.3 i (omega arith)) ∙ m.value))
          lacks false i = i

      below : has x c ≡ true → IsMet (with p c) l x q → IsMet p (fork at c v l r) x q
      below i m = record {
        path = with m.path c;
        is = m.is ∙ ap (union (with p c)) (sym (without_with m.path c lacks)) ∙ union_with p (with m.path c) c (has_with_it m.path c);
        value = look_on at c v l r (with m.path c) (has_with_it m.path c) (λ e. none-some q.1 (sym (look_empty l) ∙ ap (look l) (sym e ∙ without_with m.path c lacks) ∙ m.value)) ∙ ap (look l) (without_with m.path c lacks) ∙ m.value;
        inside = record { each = λ k h. inside_at k (eqb k c) refl h };
      }
        where
          lacks_by : (b : Bool) → has m.path c ≡ b → has m.path c ≡ false
          lacks_by true j = absurd (none-some q.1 (sym (look_low l (suc c) m.path c a.2 j (omega arith)) ∙ m.value))
          lacks_by false j = j

          lacks : has m.path c ≡ false
          lacks = lacks_by (has m.path c) refl

          inside_at : (k : ℕ) (b : Bool) → eqb k c ≡ b → has (with m.path c) k ≡ true → has x k ≡ true
          inside_at k true j h = ap (has x) (eqb-true k c j) ∙ i
          inside_at k false j h = m.inside.each k (or_false_left (has m.path k) (sym (has-with m.path c k ∙ ap (λ (b : Bool). has m.path k || b) j) ∙ h))
            where
              or_false_left : (b : Bool) → (b || false) ≡ true → b ≡ true
              or_false_left true e = refl
              or_false_left false e = e

      end : has x c ≡ true → (q.0 ≡ with p c) × (v ≡ Some q.1) → IsMet p (fork at c v l r) x q
      end i e = record {
        path = with empty c;
        is = e.0 ∙ sym (union_end p (with empty c) c (has_with_it empty c) (without_with empty c (has-empty c)));
        value = look_ends at c v l r (with empty c) (has_with_it empty c) (without_with empty c (has-empty c)) ∙ e.1;
        inside = record { each = λ k h. inside_at k (eqb k c) refl h };
      }
        where
          inside_at : (k : ℕ) (b : Bool) → eqb k c ≡ b → has (with empty c) k ≡ true → has x k ≡ true
          inside_at k true j h = ap (has x) (eqb-true k c j) ∙ i
          inside_at k false j h = absurd (true≢false (sym h ∙ has-with empty c k ∙ ap₂ (λ (a b : Bool). a || b) (has-empty k) j))

      by : (b : Bool) → has x c ≡ b → Listed q ((if b then entry (with p c) v ++ walk (with p c) l x else []) ++ walk p r x) → (Listed q (walk (with p c) l x) → IsMet (with p c) l x q) → (Listed q (walk p r x) → IsMet p r x q) → IsMet p (fork at c v l r) x q
      by false i g f k = beside (k g)
      by true i g f k = elim (Listed-append_cases q (entry (with p c) v ++ walk (with p c) l x) (walk p r x) g) as (λ _. IsMet p (fork at c v l r) x q) [
        | inr m ↦ beside (k m)
        | inl m ↦ elim (Listed-append_cases q (entry (with p c) v) (walk (with p c) l x) m) as (λ _. IsMet p (fork at c v l r) x q) [
          | inl n ↦ end i (entry_only (with p c) v q n)
          | inr n ↦ below i (f n)
        ]
      ]
