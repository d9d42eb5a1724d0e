-- What fewer agree sets leave.
use Rattle.std.proofs.Common.{inl, inr, ◌≡◌, ◌⊎◌, ℕ, Bool, true, false, not, ◌&&◌, refl, sym, ◌∙◌, List, ◌++◌}
use Rattle.std.proofs.lemmas.Bool.{true≢false, and_parts, not-true, false_from_ne_true}
use Rattle.col_set.specs.declared.target.Target.{Target}
use Rattle.col_set.specs.ColSet.{subset}
use Rattle.col_set.specs.Target.{has_target}
use Rattle.col_set.specs.Evidence.{IsLeast, refuted, least}
use Rattle.col_set.specs.Lists.{Listed, Listed-append_left, Listed-append_cases, list_any_at, list_any_which}
use Rattle.col_set.specs.Subsets.{subset-true}
use Rattle.col_set.specs.Laws.{WithdrawnInside}
use Rattle.col_set.proofs.Places.{Contains-listed}
use Rattle.col_set.proofs.Least.{Listed-least, IsLeast-listed}

-- what a part of a list refutes, the whole refutes
refuted_left : (rest gone : List ℕ) (t : Target) (x : ℕ) → refuted rest t x ≡ true → refuted (rest ++ gone) t x ≡ true
unfolding refuted
refuted_left rest gone t x e =
    let w = list_any_which (λ w. subset x w && not (has_target w t)) rest e in
    list_any_at (λ w. subset x w && not (has_target w t)) w.0 (rest ++ gone) (Listed-append_left w.0 rest gone w.1) w.2

stands_left : (rest gone : List ℕ) (t : Target) (x : ℕ) → refuted (rest ++ gone) t x ≡ false → refuted rest t x ≡ false
stands_left rest gone t x e = false_from_ne_true _ (λ h. true≢false (sym (refuted_left rest gone t x h) ∙ e))

-- what stands against the rest and is refuted by all lies inside a withdrawn set that lacks the target
inside_gone : (rest gone : List ℕ) (t : Target) (x : ℕ) → refuted rest t x ≡ false → refuted (rest ++ gone) t x ≡ true → WithdrawnInside gone t x
unfolding refuted
inside_gone rest gone t x stands e = by w.0 w.2 (Listed-append_cases w.0 rest gone w.1)
  where
    w : (v : ℕ) × Listed v (rest ++ gone) × ((subset x v && not (has_target v t)) ≡ true)
    w = list_any_which (λ w. subset x w && not (has_target w t)) (rest ++ gone) e

    by : (v : ℕ) → (subset x v && not (has_target v t)) ≡ true → Listed v rest ⊎ Listed v gone → WithdrawnInside gone t x
    by v h (inl l) = absurd (true≢false (sym (list_any_at (λ w. subset x w && not (has_target w t)) v rest l h) ∙ stands))
    by v h (inr l) = let q = and_parts (subset x v) (not (has_target v t)) h in
        record { set = v; withdrawn = Contains-listed v gone l; lacks = not-true _ q.1; inside = subset-true q.0 }

pub least-fewer : (n : ℕ) (rest gone : List ℕ) (t : Target) (x : ℕ) → Listed x (least n rest t) → Listed x (least n (rest ++ gone) t) ⊎ WithdrawnInside gone t x
least-fewer n rest gone t x h = by (refuted (rest ++ gone) t x) refl
  where
    l : IsLeast n rest t x
    l = IsLeast-listed n rest t x h

    by : (b : Bool) → refuted (rest ++ gone) t x ≡ b → Listed x (least n (rest ++ gone) t) ⊎ WithdrawnInside gone t x
    by true e = inr (inside_gone rest gone t x l.stands e)
    by false e = inl (Listed-least n (rest ++ gone) t x (record {
      below = l.below;
      lacks = l.lacks;
      stands = e;
      smallest = λ y s g. l.smallest y s (stands_left rest gone t y g);
    }))
