-- One candidate's marks, changed where it stands in the flat lists.
use Rattle.std.proofs.Common.{◌≡◌, ℕ, zero, suc, Bool, false, eqb, refl, sym, ap, ◌∙◌, List, [], ◌∷◌, get_or, set, map, if◌then◌else◌}
use Rattle.candidate_cover.specs.declared.cand.Mark.{Mark}
use Rattle.candidate_cover.specs.Marks.{cand, cands}
use Rattle.candidate_cover.specs.Pairs.{pairs_of, AreEven, keys, IsInOrder, with_value}
use Rattle.candidate_cover.specs.Place.{Stands}
use Rattle.candidate_cover.proofs.Flat.{flat_value, flat_set, even-set, flat_order, flat_rises}
use Rattle.candidate_cover.proofs.Remarked.{one_value, remarked}

-- what stands at a place, whatever is said for places past the end
there_itself : {X : Type 0} (xs : List X) (i : ℕ) (d : X) → get_or xs i d ≡ get_or xs i (get_or xs i d)
there_itself [] i d = refl
there_itself (x ∷ xs) zero d = refl
there_itself (x ∷ xs) (suc i) d = there_itself xs i d

set_itself : {X : Type 0} (xs : List X) (i : ℕ) (x : X) → x ≡ get_or xs i x → set xs i x ≡ xs
set_itself [] i x e = refl
set_itself (y ∷ xs) zero x e = ap (λ z. z ∷ xs) e
set_itself (y ∷ xs) (suc i) x e = ap (λ ys. y ∷ ys) (set_itself xs i x e)

module _ (xs us : List ℕ) (hs : List Bool) (even : AreEven xs us hs) (order : IsInOrder (pairs_of xs us hs)) where
  pub changed_order : (i v : ℕ) (g : Bool) → IsInOrder (pairs_of xs (set us i v) (set hs i g))
  changed_order i v g = flat_order xs (set us i v) (set hs i g) (even-set xs us hs i v g even) (flat_rises xs us hs even order)

  module _ (x i u : ℕ) (stands : Stands (keys (pairs_of xs us hs)) x i) (is : u ≡ get_or us i u) where
    abbrev own : Mark
    own = record { upto = u; held = get_or hs i false }

    -- the marks there change as f says
    pub changed : (f : Mark → Mark) (v : ℕ) (g : Bool) → record { upto = v; held = g } ≡ f own
        → cands (pairs_of xs (set us i v) (set hs i g)) ≡ map (λ c. if eqb c.left x then cand (x, f (record { upto = c.upto; held = c.held })) else c) (cands (pairs_of xs us hs))
    changed f v g e =
        ap cands (flat_set xs us hs even x i v g stands ∙ ap (with_value (pairs_of xs us hs) x) e)
        ∙ remarked f (pairs_of xs us hs) x own (one_value (pairs_of xs us hs) x own order (flat_value xs us hs even x i u (get_or hs i false) stands is (there_itself hs i false)))

    -- the row stays
    pub row_stays : (g : Bool) → pairs_of xs us (set hs i g) ≡ pairs_of xs (set us i u) (set hs i g)
    row_stays g = ap (λ (vs : List ℕ). pairs_of xs vs (set hs i g)) (sym (set_itself us i u is))

-- the row at a place
pub row_there : (us : List ℕ) (i : ℕ) → get_or us i 0 ≡ get_or us i (get_or us i 0)
row_there us i = there_itself us i 0
