-- Left sides inside a set, of dependencies of which those on the column stand first.
use Rattle.std.proofs.Common.{inl, inr, ◌≡◌, ℕ, ◌≤◌, Bool, true, false, ◌&&◌, ◌||◌, eqb, refl, sym, ap, ◌∙◌, subst, arith, List, [], ◌∷◌}
use Rattle.std.proofs.lemmas.Bool.{false_from_ne_true, and_parts, eqb-true}
use Rattle.col_set.specs.ColSet.{subset}
use Rattle.col_set.specs.Lists.{Listed, list_any_which}
use Rattle.rel_base.specs.declared.dependency.Fd.{Fd}
use Rattle.rel_base.proofs.States.{All-listed}
use Rattle.fd_closure.specs.Closure.{has_left_inside}
use Rattle.fd_closure.proofs.Grouping.{inside-some}
use Rattle.synth_3nf.specs.Ending.{AreFrom}
use Rattle.synth_3nf.proofs.Ends.{first-pairs}

module _ (fd : Fd) (others whole : List Fd) (x a : ℕ) (e : whole ≡ fd ∷ others) where
  pub block-past : AreFrom a whole → (fd.right ≡ a → ⊥) → has_left_inside whole x a ≡ false
  unfolding has_left_inside
  block-past from ne = ap (λ (l : List Fd). has_left_inside l x a) e ∙ false_from_ne_true _ (λ h.
      let w = list_any_which (λ (f : Fd). eqb f.right a && subset f.left x) (fd ∷ others) h in
      by w.0 (eqb-true w.0.right a (and_parts (eqb w.0.right a) (subset w.0.left x) w.2).0) w.1)
    where
      g : AreFrom a (fd ∷ others)
      g = subst (AreFrom a) e from

      by : (f : Fd) → f.right ≡ a → Listed f (fd ∷ others) → ⊥
      by f i (inl j) = ne (ap (λ (h : Fd). h.right) (sym j) ∙ i)
      by f i (inr h) =
          let l = first-pairs (λ (one other : Fd). one.right ≤ other.right) fd others f g.climbing h in
          let m = All-listed (λ (f : Fd). a ≤ f.right) fd (fd ∷ others) g.from (inl refl) in
          ne (omega arith)

  pub block-found : fd.right ≡ a → subset fd.left x ≡ true → has_left_inside whole x a ≡ true
  block-found i s = ap (λ (l : List Fd). has_left_inside l x a) e ∙ inside-some (fd ∷ others) x a fd (inl refl) i s

  pub block-skipped : subset fd.left x ≡ false → has_left_inside others x a ≡ has_left_inside whole x a
  unfolding has_left_inside
  block-skipped s = sym (ap (λ (l : List Fd). has_left_inside l x a) e ∙ ap (λ (b : Bool). (eqb fd.right a && b) || has_left_inside others x a) s ∙ by (eqb fd.right a))
    where
      by : (b : Bool) → ((b && false) || has_left_inside others x a) ≡ has_left_inside others x a
      by true = refl
      by false = refl

pub block-none : (whole : List Fd) (x a : ℕ) → whole ≡ [] → has_left_inside whole x a ≡ false
unfolding has_left_inside
block-none whole x a e = ap (λ (l : List Fd). has_left_inside l x a) e
