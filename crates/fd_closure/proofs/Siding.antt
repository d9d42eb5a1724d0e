-- Left sides with the columns beside them, and what they tell.
use Rattle.std.proofs.Common.{◌≡◌, ℕ, true, false, ◌&&◌, ◌||◌, Bool, eqb, refl, sym, ap, ap₂, ◌∙◌, subst, List, [], ◌∷◌, ◌++◌, ◌+◌, ◌<◌, length, get_or, take, IsPermutation, Result, Ok, Err, IfOk}
use Rattle.std.specs.List.{list_any}
use Rattle.std.proofs.lemmas.Bool.{and_parts, and_from, or_right, eqb-true, eq-eqb}
use Rattle.std.proofs.lemmas.List.{take_more}
use Rattle.std.proofs.lemmas.List.Sorted.{Contains-permutation, IsPermutation-sym}
use Rattle.col_set.specs.ColSet.{has, with, union, subset, empty}
use Rattle.col_set.specs.Members.{has-union, has-with, has-empty}
use Rattle.col_set.specs.Lists.{list_any_at, list_any_which}
use Rattle.col_set.specs.Subsets.{same_test}
use Rattle.col_set.proofs.Places.{Contains-listed, Listed-contained}
use Rattle.rel_base.specs.declared.dependency.Fd.{Fd}
use Rattle.fd_closure.specs.Closure.{has_left_inside, has_right_inside, Tells}

module _ {X : Type 0} where
  any-append : (f : X → Bool) (us : List X) (q : X) → list_any f (us ++ q ∷ []) ≡ (list_any f us || f q)
  any-append f [] q = both (f q)
    where
      both : (b : Bool) → (b || false) ≡ b
      both true = refl
      both false = refl
  any-append f (u ∷ us) q = ap (λ (b : Bool). f u || b) (any-append f us q) ∙ both (f u) (list_any f us) (f q)
    where
      both : (a b c : Bool) → (a || (b || c)) ≡ ((a || b) || c)
      both true b c = refl
      both false b c = refl

-- ---- one dependency more
single_own : (left x a k : ℕ) → (subset left x && has (with empty k) a) ≡ (eqb k a && subset left x)
single_own left x a k = same_test _ _ there back
  where
    there : (subset left x && has (with empty k) a) ≡ true → (eqb k a && subset left x) ≡ true
    there e =
        let w = and_parts (subset left x) (has (with empty k) a) e in
        let h : eqb a k ≡ true = ap (λ (b : Bool). b || eqb a k) (sym (has-empty a)) ∙ sym (has-with empty k a) ∙ w.1 in
        and_from _ _ (eq-eqb k a (sym (eqb-true a k h))) w.0

    back : (eqb k a && subset left x) ≡ true → (subset left x && has (with empty k) a) ≡ true
    back e =
        let w = and_parts (eqb k a) (subset left x) e in
        and_from _ _ w.1 (has-with empty k a ∙ or_right (has empty a) (eqb a k) (eq-eqb a k (sym (eqb-true k a w.0))))

pub tells_single : (fds : List Fd) (fd : Fd) (sides : List (ℕ × ℕ)) → Tells fds sides → Tells (fds ++ fd ∷ []) (sides ++ (fd.left, with empty fd.right) ∷ [])
unfolding has_left_inside has_right_inside
tells_single fds fd sides t x a =
    any-append (λ (p : ℕ × ℕ). subset p.0 x && has p.1 a) sides (fd.left, with empty fd.right)
    ∙ ap₂ (λ (b c : Bool). b || c) (t x a) (single_own fd.left x a fd.right)
    ∙ sym (any-append (λ (fd : Fd). eqb fd.right a && subset fd.left x) fds fd)

pub tells_taken : (fds : List Fd) (k : ℕ) (fd : Fd) (sides : List (ℕ × ℕ)) → k < length fds → fd ≡ get_or fds k fd → Tells (take k fds) sides → Tells (take (k + 1) fds) (sides ++ (fd.left, with empty fd.right) ∷ [])
tells_taken fds k fd sides l is t = subst (λ (us : List Fd). Tells us (sides ++ (fd.left, with empty fd.right) ∷ [])) (ap (λ (q : Fd). take k fds ++ q ∷ []) is ∙ sym (take_more fds k fd l)) (tells_single (take k fds) fd sides t)

pub tells_nothing : Tells [] []
unfolding has_left_inside has_right_inside
tells_nothing x a = refl

-- ---- the same sides in another order, and side by side
pub tells_permuted : (fds : List Fd) (sides other : List (ℕ × ℕ)) → IsPermutation sides other → Tells fds sides → Tells fds other
unfolding has_right_inside
tells_permuted fds sides other p t x a = same_test _ _ (λ e. moved other sides (IsPermutation-sym sides other p) e) (λ e. moved sides other p e) ∙ t x a
  where
    moved : (us vs : List (ℕ × ℕ)) → IsPermutation us vs → list_any (λ (p : ℕ × ℕ). subset p.0 x && has p.1 a) us ≡ true → list_any (λ (p : ℕ × ℕ). subset p.0 x && has p.1 a) vs ≡ true
    moved us vs q e =
        let w = list_any_which (λ (p : ℕ × ℕ). subset p.0 x && has p.1 a) us e in
        list_any_at (λ (p : ℕ × ℕ). subset p.0 x && has p.1 a) w.0 vs (Listed-contained w.0 vs (Contains-permutation us vs w.0 q (Contains-listed w.0 us w.1))) w.2

pub right-append : (sides : List (ℕ × ℕ)) (side : ℕ × ℕ) (x a : ℕ) → has_right_inside (sides ++ side ∷ []) x a ≡ (has_right_inside sides x a || (subset side.0 x && has side.1 a))
unfolding has_right_inside
right-append sides side x a = any-append (λ (p : ℕ × ℕ). subset p.0 x && has p.1 a) sides side

-- a side more behind those that tell the same
pub right_more : (sides other : List (ℕ × ℕ)) (side : ℕ × ℕ) (x a : ℕ) → has_right_inside sides x a ≡ has_right_inside other x a → has_right_inside (sides ++ side ∷ []) x a ≡ has_right_inside (other ++ side ∷ []) x a
right_more sides other side x a e = right-append sides side x a ∙ ap (λ (b : Bool). b || (subset side.0 x && has side.1 a)) e ∙ sym (right-append other side x a)

-- two sides of the same columns are one
pub right_joined : (sides : List (ℕ × ℕ)) (last side : ℕ × ℕ) (x a : ℕ) → last.0 ≡ side.0 → has_right_inside (sides ++ (side.0, union last.1 side.1) ∷ []) x a ≡ has_right_inside ((sides ++ last ∷ []) ++ side ∷ []) x a
right_joined sides last side x a e =
    right-append sides (side.0, union last.1 side.1) x a
    ∙ ap (λ (b : Bool). has_right_inside sides x a || (subset side.0 x && b)) (has-union last.1 side.1 a)
    ∙ parts (has_right_inside sides x a) (subset side.0 x) (has last.1 a) (has side.1 a)
    ∙ ap (λ (z : ℕ). (has_right_inside sides x a || (subset z x && has last.1 a)) || (subset side.0 x && has side.1 a)) (sym e)
    ∙ ap (λ (b : Bool). b || (subset side.0 x && has side.1 a)) (sym (right-append sides last x a))
    ∙ sym (right-append (sides ++ last ∷ []) side x a)
  where
    parts : (o s h g : Bool) → (o || (s && (h || g))) ≡ ((o || (s && h)) || (s && g))
    parts true s h g = refl
    parts false true h g = refl
    parts false false h g = refl

pub if_ok : {A E : Type 0} {P Q : A → Type 0} (r : Result A E) → ((x : A) → P x → Q x) → IfOk r P → IfOk r Q
if_ok (Ok x) f p = f x p
if_ok (Err e) f p = p
