-- Closures under any list of dependencies, and that by covers the one pass finds them.
use Rattle.std.proofs.Common.{inl, inr, ◌≡◌, ◌≢◌, ◌⊎◌, ℕ, ◌+◌, ◌<◌, ◌≤◌, ◌^◌, Bool, true, false, not, ◌&&◌, ltb, eqb, cond, refl, sym, ap, ◌∙◌, subst, arith, List, [], ◌∷◌, ◌++◌, length, get_or, take}
use Rattle.std.specs.List.{All, Contains, filter}
use Rattle.std.proofs.lemmas.Bool.{true≢false, cases_Bool, and_parts, and_from, or_cases, or_left, eqb-true, ltb-true, lt-ltb, not_from_false, eq-eqb, not-true}
use Rattle.std.proofs.lemmas.List.{take_more, take_all}
use Rattle.col_set.specs.declared.col_set.TheConstants.{MOST_COLUMNS}
use Rattle.col_set.specs.declared.target.Target.TheVariants.{Col}
use Rattle.col_set.specs.ColSet.{Columns, IsSubset, has, all, with, minus, subset}
use Rattle.col_set.specs.Members.{has-all, has-minus}
use Rattle.col_set.specs.Lists.{Listed, Listed-filter, Listed-filter_parts, Listed-append_cases, list_any_which}
use Rattle.col_set.specs.Subsets.{IsSubset-refl, IsSubset-trans, IsSubset-antisymm, IsSubset-le, IsSubset-with, has-with_itself, with_subset, subset-true}
use Rattle.col_set.proofs.Places.{Contains-listed, Listed-contained, Listed-get_or}
use Rattle.rel_base.specs.declared.dependency.Fd.{Fd}
use Rattle.rel_base.specs.RowState.{RowState, width}
use Rattle.rel_base.specs.Validity.{holds}
use Rattle.rel_base.specs.Covers.{covers}
use Rattle.rel_base.proofs.States.{All-listed}
use Rattle.fd_closure.specs.Determined.{determined_columns}
use Rattle.fd_closure.specs.Closure.{closure_of, has_left_inside}
use Rattle.fd_closure.specs.Under.{IsClosed, IsClosure, on_columns}
use Rattle.fd_closure.proofs.Determined.{determined-holds, holds-determined, holds-through}
use Rattle.fd_closure.proofs.Closing.{has-closure_of, covers-minimal, minimal-holds, closure-determined}

-- ---- what a closure is
pub closure-one : (fds : List Fd) (x y z : Columns) → IsClosure fds x y → IsClosure fds x z → y ≡ z
closure-one fds x y z a b = IsSubset-antisymm (a.smallest z b.contains b.closed) (b.smallest y a.contains a.closed)

module _ {X : Type 0} where
  filter-whole : (p : X → Bool) (xs : List X) → ((x : X) → Listed x xs → p x ≡ true) → filter p xs ≡ xs
  filter-whole p [] f = refl
  filter-whole p (x ∷ xs) f = ap (λ (b : Bool). cond b (x ∷ filter p xs) (filter p xs)) (f x (inl refl)) ∙ ap (λ (ys : List X). x ∷ ys) (filter-whole p xs (λ y h. f y (inr h)))

pub columns-whole : (fds : List Fd) → All (λ fd. fd.right < MOST_COLUMNS) fds → on_columns fds ≡ fds
unfolding on_columns
columns-whole fds all = filter-whole (λ (fd : Fd). ltb fd.right MOST_COLUMNS) fds (λ fd h. lt-ltb fd.right MOST_COLUMNS (All-listed (λ (fd : Fd). fd.right < MOST_COLUMNS) fd fds all h))

-- ---- by covers
module _ (r : RowState) where
  pub closure_of-closure : (x : ℕ) → x < 2 ^ width r → IsClosure (covers r).fds x (closure_of (covers r).fds x)
  unfolding has_left_inside
  closure_of-closure x b = record {
    contains = record { each = λ k h. has-closure_of (covers r).fds x k ∙ or_left _ _ h };
    closed = record {
      each = λ fd h s.
          let m = covers-minimal r fd (Listed-contained fd (covers r).fds h) in
          let e = closure-determined r x b in
          ap (λ (z : ℕ). has z fd.right) e ∙ holds-determined r x fd.right m.column
          (holds-through r x fd.left fd.right (λ a g. (determined-holds r x a (ap (λ (z : ℕ). has z a) (sym e) ∙ s.each a g)).1) (minimal-holds r fd.left fd.right m.below m.minimal).1);
    };
    smallest = λ z i c. record { each = λ k h. by z i c k (or_cases (has x k) (has_left_inside (covers r).fds x k) (sym (has-closure_of (covers r).fds x k) ∙ h)) };
  }
    where
      by : (z : ℕ) → IsSubset x z → IsClosed (covers r).fds z → (k : ℕ) → (has x k ≡ true) ⊎ (has_left_inside (covers r).fds x k ≡ true) → has z k ≡ true
      by z i c k (inl h) = i.each k h
      by z i c k (inr h) =
          let w = list_any_which (λ (fd : Fd). eqb fd.right k && subset fd.left x) (covers r).fds h in
          let q = and_parts (eqb w.0.right k) (subset w.0.left x) w.2 in
          ap (has z) (sym (eqb-true w.0.right k q.0)) ∙ c.each w.0 (Contains-listed w.0 (covers r).fds w.1) (IsSubset-trans (subset-true q.1) i)

-- ---- a walk over the dependencies
-- a column more leaves fewer outside, or was there
with-fewer : (x c : ℕ) → c < 128 → (with x c ≡ x) ⊎ (minus (all 128) (with x c) < minus (all 128) x)
with-fewer x c l = by (cases_Bool (has x c))
  where
    by : (has x c ≡ true) ⊎ (has x c ≡ false) → (with x c ≡ x) ⊎ (minus (all 128) (with x c) < minus (all 128) x)
    by (inl h) = inl (IsSubset-antisymm (with_subset c (IsSubset-refl x) h) (IsSubset-with x c))
    by (inr h) =
        let s : IsSubset (minus (all 128) (with x c)) (minus (all 128) x) = record {
          each = λ k g.
              let q = and_parts (has (all 128) k) (not (has (with x c) k)) (sym (has-minus (all 128) (with x c) k) ∙ g) in
              has-minus (all 128) x k ∙ and_from _ _ q.0 (not_from_false _ (lacks k (not-true _ q.1)));
        } in
        let d : minus (all 128) (with x c) ≢ minus (all 128) x = λ e. true≢false (
        sym (ap (λ (z : ℕ). has z c) e ∙ has-minus (all 128) x c ∙ and_from _ _ (has-all 128 c ∙ lt-ltb c 128 l) (not_from_false _ h))
        ∙ has-minus (all 128) (with x c) c ∙ gone (has (all 128) c) (has-with_itself x c)) in
        let g = IsSubset-le s in inr (omega arith)
      where
        lacks : (k : ℕ) → has (with x c) k ≡ false → has x k ≡ false
        lacks k e = elim (cases_Bool (has x k)) as (λ _. has x k ≡ false) [ inl g ↦ absurd (true≢false (sym ((IsSubset-with x c).each k g) ∙ e)) | inr g ↦ g ]

        gone : (a : Bool) {b : Bool} → b ≡ true → (a && not b) ≡ false
        gone true e = ap not e
        gone false e = refl

-- what is reached from a start, when the first k dependencies were looked at
pub record Walking (fds : List Fd) (start now k : ℕ) : Type 0 where
  pub grown : IsSubset start now
  pub within : (z : ℕ) → IsClosed (on_columns fds) z → IsSubset start z → IsSubset now z
  pub settled : now ≡ start → (fd : Fd) → Listed fd (take k fds) → fd.right < 128 → IsSubset fd.left start → has start fd.right ≡ true
  pub fewer : (now ≡ start) ⊎ (minus (all 128) now < minus (all 128) start)

module _ (fds : List Fd) (start : ℕ) where
  pub walking-none : Walking fds start start 0
  walking-none = record { grown = IsSubset-refl start; within = λ z c s. s; settled = λ e fd h. absurd h; fewer = inl refl }

  module _ (now k : ℕ) (fd : Fd) (w : Walking fds start now k) (l : k < length fds) (is : fd ≡ get_or fds k fd) where
    -- those looked at, with one more
    taken : (other : Fd) → Listed other (take (k + 1) fds) → Listed other (take k fds) ⊎ (other ≡ fd)
    taken other h = last (Listed-append_cases other (take k fds) (fd ∷ []) (subst (Listed other) (take_more fds k fd l ∙ ap (λ (f : Fd). take k fds ++ f ∷ []) (sym is)) h))
      where
        last : Listed other (take k fds) ⊎ Listed other (fd ∷ []) → Listed other (take k fds) ⊎ (other ≡ fd)
        last (inl g) = inl g
        last (inr (inl e)) = inr e
        last (inr (inr g)) = absurd g

    pub walking-not : (fd.right < 128 → IsSubset fd.left now → ⊥) → Walking fds start now (k + 1)
    walking-not out = record { grown = w.grown; within = w.within; settled = λ e other h b s. by e other b s (taken other h); fewer = w.fewer }
      where
        by : now ≡ start → (other : Fd) → other.right < 128 → IsSubset other.left start → Listed other (take k fds) ⊎ (other ≡ fd) → has start other.right ≡ true
        by e other b s (inl g) = w.settled e other g b s
        by e other b s (inr i) = absurd (out (subst (λ (f : Fd). f.right < 128) i b) (IsSubset-trans (subst (λ (f : Fd). IsSubset f.left start) i s) w.grown))

    pub walking-more : (more : ℕ) → more ≡ with now fd.right → fd.right < 128 → IsSubset fd.left now → Walking fds start more (k + 1)
    unfolding on_columns
    walking-more more e b s = subst (λ (z : ℕ). Walking fds start z (k + 1)) (sym e) (record {
      grown = IsSubset-trans w.grown (IsSubset-with now fd.right);
      within = λ z c i. let j = w.within z c i in with_subset fd.right j (c.each fd there (IsSubset-trans s j));
      settled = λ i other h a g. by i other a g (taken other h);
      fewer = fewer_now w.fewer (with-fewer now fd.right b);
    })
      where
        there : Contains (on_columns fds) fd
        there = Contains-listed fd (on_columns fds) (Listed-filter (λ (fd : Fd). ltb fd.right MOST_COLUMNS) fd fds (subst (λ (f : Fd). Listed f fds) (sym is) (Listed-get_or fds k fd l)) (lt-ltb fd.right MOST_COLUMNS b))

        same : with now fd.right ≡ start → now ≡ start
        same i = IsSubset-antisymm (subst (IsSubset now) i (IsSubset-with now fd.right)) w.grown

        by : with now fd.right ≡ start → (other : Fd) → other.right < 128 → IsSubset other.left start → Listed other (take k fds) ⊎ (other ≡ fd) → has start other.right ≡ true
        by i other a g (inl h) = w.settled (same i) other h a g
        by i other a g (inr j) = ap (λ (f : Fd). has start f.right) j ∙ ap (λ (z : ℕ). has z fd.right) (sym i) ∙ has-with_itself now fd.right

        fewer_now : (now ≡ start) ⊎ (minus (all 128) now < minus (all 128) start) → (with now fd.right ≡ now) ⊎ (minus (all 128) (with now fd.right) < minus (all 128) now) → (with now fd.right ≡ start) ⊎ (minus (all 128) (with now fd.right) < minus (all 128) start)
        fewer_now (inl i) (inl j) = inl (j ∙ i)
        fewer_now (inl i) (inr g) = inr (subst (λ (z : ℕ). minus (all 128) (with now fd.right) < minus (all 128) z) i g)
        fewer_now (inr g) (inl j) = inr (subst (λ (z : ℕ). minus (all 128) z < minus (all 128) start) (sym j) g)
        fewer_now (inr g) (inr h) = inr (omega arith)

  pub walking-settled : (now k : ℕ) → Walking fds start now k → length fds ≤ k → now ≡ start → IsClosed (on_columns fds) start
  unfolding on_columns
  walking-settled now k w l e = record {
    each = λ fd h s.
        let q = Listed-filter_parts (λ (fd : Fd). ltb fd.right MOST_COLUMNS) fd fds (Listed-contained fd (on_columns fds) h) in
        w.settled e fd (subst (Listed fd) (sym (take_all k fds l)) q.0) (ltb-true fd.right MOST_COLUMNS q.1) s;
  }

  pub walking-fewer : (now k : ℕ) → Walking fds start now k → (now ≢ start) → minus (all 128) now < minus (all 128) start
  walking-fewer now k w ne = elim w.fewer as (λ _. minus (all 128) now < minus (all 128) start) [ inl e ↦ absurd (ne e) | inr l ↦ l ]

-- ---- walk after walk
-- what walks from x reached, and one walk more
pub record Closing (fds : List Fd) (x reached next : ℕ) : Type 0 where
  pub contains : IsSubset x reached
  pub inside : (z : ℕ) → IsSubset x z → IsClosed (on_columns fds) z → IsSubset reached z
  pub grown : IsSubset reached next
  pub within : (z : ℕ) → IsClosed (on_columns fds) z → IsSubset reached z → IsSubset next z
  pub settled : next ≡ reached → IsClosed (on_columns fds) reached
  pub fewer : (next ≢ reached) → minus (all 128) next < minus (all 128) reached
