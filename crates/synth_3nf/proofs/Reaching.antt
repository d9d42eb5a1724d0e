-- What a column set reaches by passes is its closure.
use Rattle.std.proofs.Common.{inl, inr, ◌≡◌, ℕ, zero, suc, ◌+◌, ◌<◌, ◌≤◌, Bool, true, false, not, ◌&&◌, cond, refl, sym, ap, ◌∙◌, subst, arith, List, [], ◌∷◌, length}
use Rattle.std.specs.List.{Contains, list_any}
use Rattle.std.proofs.lemmas.Bool.{true≢false, cases_Bool, and_parts, and_from, not-true, not_from_false}
use Rattle.col_set.specs.ColSet.{Columns, IsSubset, has, with, subset}
use Rattle.col_set.specs.Lists.{Listed, list_any_at, list_any_which}
use Rattle.col_set.specs.Subsets.{IsSubset-refl, IsSubset-trans, IsSubset-antisymm, IsSubset-with, has-with_itself, with_subset, subset-true, true-subset}
use Rattle.col_set.proofs.Places.{Contains-listed, Listed-contained}
use Rattle.rel_base.specs.declared.dependency.Fd.{Fd}
use Rattle.fd_closure.specs.Under.{IsClosed, IsClosure}
use Rattle.fd_closure.proofs.Walking.{closure-one}
use Rattle.synth_3nf.specs.Reached.{pass, passes, reached}

-- ---- one dependency
step-grows : (b : Bool) (fd : Fd) (x : Columns) → IsSubset x (cond b (with x fd.right) x)
step-grows true fd x = IsSubset-with x fd.right
step-grows false fd x = IsSubset-refl x

step-within : (b : Bool) (fds : List Fd) (fd : Fd) (x z : Columns) → subset fd.left x ≡ b → Contains fds fd → IsClosed fds z → IsSubset x z → IsSubset (cond b (with x fd.right) x) z
step-within true fds fd x z e h c s = with_subset fd.right s (c.each fd h (IsSubset-trans (subset-true e) s))
step-within false fds fd x z e h c s = s

-- ---- a pass
pub pass-grows : (fds : List Fd) (x : Columns) → IsSubset x (pass fds x)
unfolding pass
pass-grows [] x = IsSubset-refl x
pass-grows (fd ∷ fds) x = IsSubset-trans (step-grows (subset fd.left x) fd x) (pass-grows fds (cond (subset fd.left x) (with x fd.right) x))

pass-within : (whole fds : List Fd) (x z : Columns) → ((fd : Fd) → Listed fd fds → Contains whole fd) → IsClosed whole z → IsSubset x z → IsSubset (pass fds x) z
unfolding pass
pass-within whole [] x z h c s = s
pass-within whole (fd ∷ fds) x z h c s =
    pass-within whole fds (cond (subset fd.left x) (with x fd.right) x) z (λ other g. h other (inr g)) c (step-within (subset fd.left x) whole fd x z refl (h fd (inl refl)) c s)

pass-adds : (fds : List Fd) (fd : Fd) (x : Columns) → Listed fd fds → IsSubset fd.left x → has (pass fds x) fd.right ≡ true
unfolding pass
pass-adds [] fd x h s = absurd h
pass-adds (one ∷ fds) fd x (inl e) s =
    (pass-grows fds (cond (subset one.left x) (with x one.right) x)).each fd.right
    (ap (λ (b : Bool). has (cond b (with x one.right) x) fd.right) (true-subset (subst (λ (f : Fd). IsSubset f.left x) e s)) ∙ ap (λ (f : Fd). has (with x one.right) f.right) e ∙ has-with_itself x one.right)
pass-adds (one ∷ fds) fd x (inr h) s = pass-adds fds fd (cond (subset one.left x) (with x one.right) x) h (IsSubset-trans s (step-grows (subset one.left x) one x))

-- ---- how many dependencies have a right column that is not reached
abbrev weight : Bool → ℕ
weight true = 0
weight false = 1

missing : List Fd → Columns → ℕ
missing [] x = 0
missing (fd ∷ fds) x = weight (has x fd.right) + missing fds x

one_missing : (a b : Bool) → (a ≡ true → b ≡ true) → weight b ≤ weight a
one_missing true true f = omega arith
one_missing true false f = absurd (true≢false (sym (f refl)))
one_missing false true f = omega arith
one_missing false false f = omega arith

missing-more : (fds : List Fd) (x y : Columns) → IsSubset x y → missing fds y ≤ missing fds x
unfolding missing
missing-more [] x y s = omega arith
missing-more (fd ∷ fds) x y s = let a = one_missing (has x fd.right) (has y fd.right) (s.each fd.right) in let b = missing-more fds x y s in omega arith

missing-fewer : (fds : List Fd) (fd : Fd) (x y : Columns) → IsSubset x y → Listed fd fds → has x fd.right ≡ false → has y fd.right ≡ true → missing fds y < missing fds x
unfolding missing
missing-fewer [] fd x y s h e g = absurd h
missing-fewer (one ∷ fds) fd x y s (inl i) e g =
    let p : weight (has x one.right) ≡ 1 = ap (λ (b : Bool). weight b) (ap (λ (f : Fd). has x f.right) (sym i) ∙ e) in
    let q : weight (has y one.right) ≡ 0 = ap (λ (b : Bool). weight b) (ap (λ (f : Fd). has y f.right) (sym i) ∙ g) in
    let b = missing-more fds x y s in omega arith
missing-fewer (one ∷ fds) fd x y s (inr h) e g = let a = one_missing (has x one.right) (has y one.right) (s.each one.right) in let b = missing-fewer fds fd x y s h e g in omega arith

missing-none : (fds : List Fd) (fd : Fd) (x : Columns) → missing fds x ≤ 0 → Listed fd fds → has x fd.right ≡ true
unfolding missing
missing-none [] fd x l h = absurd h
missing-none (one ∷ fds) fd x l (inl i) = ap (λ (f : Fd). has x f.right) i ∙ by (has x one.right) (omega arith)
  where
    by : (b : Bool) → weight b ≤ 0 → b ≡ true
    by true g = refl
    by false g = absurd (omega arith)
missing-none (one ∷ fds) fd x l (inr h) = missing-none fds fd x (omega arith) h

missing-most : (fds : List Fd) (x : Columns) → missing fds x ≤ length fds
unfolding missing
missing-most [] x = omega arith
missing-most (fd ∷ fds) x = let a = by (has x fd.right) in let b = missing-most fds x in omega arith
  where
    by : (b : Bool) → weight b ≤ 1
    by true = omega arith
    by false = omega arith

-- ---- passes
passes-grow : (k : ℕ) (fds : List Fd) (x : Columns) → IsSubset x (passes k fds x)
unfolding passes
passes-grow zero fds x = IsSubset-refl x
passes-grow (suc k) fds x = IsSubset-trans (pass-grows fds x) (passes-grow k fds (pass fds x))

passes-within : (k : ℕ) (fds : List Fd) (x z : Columns) → IsClosed fds z → IsSubset x z → IsSubset (passes k fds x) z
unfolding passes
passes-within zero fds x z c s = s
passes-within (suc k) fds x z c s = passes-within k fds (pass fds x) z c (pass-within fds fds x z (λ fd h. Contains-listed fd fds h) c s)

passes-stay : (k : ℕ) (fds : List Fd) (x : Columns) → IsClosed fds x → passes k fds x ≡ x
passes-stay k fds x c = IsSubset-antisymm (passes-within k fds x x c (IsSubset-refl x)) (passes-grow k fds x)

-- whether a dependency would add a column
adds : Columns → Fd → Bool
adds x fd = subset fd.left x && not (has x fd.right)

closed-unless : (fds : List Fd) (x : Columns) → list_any (adds x) fds ≡ false → IsClosed fds x
unfolding adds
closed-unless fds x e = record {
  each = λ fd h s. elim (cases_Bool (has x fd.right)) as (λ _. has x fd.right ≡ true) [
    | inl g ↦ g
    | inr g ↦ absurd (true≢false (sym (list_any_at (adds x) fd fds (Listed-contained fd fds h) (and_from _ _ (true-subset s) (not_from_false _ g))) ∙ e))
  ];
}

closed-after : (k : ℕ) (fds : List Fd) (x : Columns) → missing fds x ≤ k → IsClosed fds (passes k fds x)
unfolding passes adds
closed-after zero fds x l = record { each = λ fd h s. missing-none fds fd x l (Listed-contained fd fds h) }
closed-after (suc k) fds x l = elim (cases_Bool (list_any (adds x) fds)) as (λ _. IsClosed fds (passes k fds (pass fds x))) [
  | inl e ↦
      let w = list_any_which (adds x) fds e in
      let q = and_parts (subset w.0.left x) (not (has x w.0.right)) w.2 in
      let f = missing-fewer fds w.0 x (pass fds x) (pass-grows fds x) w.1 (not-true _ q.1) (pass-adds fds w.0 x w.1 (subset-true q.0)) in
      closed-after k fds (pass fds x) (omega arith)
  | inr e ↦
      let c = closed-unless fds x e in
      let i : pass fds x ≡ x = IsSubset-antisymm (pass-within fds fds x x (λ fd h. Contains-listed fd fds h) c (IsSubset-refl x)) (pass-grows fds x) in
      subst (λ (z : Columns). IsClosed fds (passes k fds z)) (sym i) (subst (λ (z : Columns). IsClosed fds z) (sym (passes-stay k fds x c)) c)
]

-- ---- what is reached
pub reached-closure : (fds : List Fd) (x : Columns) → IsClosure fds x (reached fds x)
unfolding reached
reached-closure fds x = record {
  contains = passes-grow (length fds) fds x;
  closed = closed-after (length fds) fds x (missing-most fds x);
  smallest = λ z s c. passes-within (length fds) fds x z c s;
}

pub reached-is : (fds : List Fd) (x y : Columns) → IsClosure fds x y → y ≡ reached fds x
reached-is fds x y c = closure-one fds x y (reached fds x) c (reached-closure fds x)
