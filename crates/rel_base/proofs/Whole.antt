-- Agree sets of some pairs of live rows leave the covers where all that they leave holds.
use Rattle.std.proofs.Common.{inl, inr, ◌≡◌, ℕ, false, refl, sym, ap, ap₂, ◌∙◌, subst, List, [], ◌∷◌, ◌++◌}
use Rattle.std.specs.List.{flat_map}
use Rattle.std.proofs.lemmas.Bool.{not-true}
use Rattle.col_set.specs.declared.target.Target.{Target}
use Rattle.col_set.specs.declared.target.Target.TheVariants.{Col, RowId}
use Rattle.col_set.specs.ColSet.{upto}
use Rattle.col_set.specs.Evidence.{refuted, least}
use Rattle.col_set.specs.Lists.{Listed, Listed-map, Listed-flat_map}
use Rattle.col_set.proofs.Places.{Listed-contained}
use Rattle.col_set.proofs.More.{refuted_more}
use Rattle.col_set.proofs.Whole.{least-same}
use Rattle.rel_base.specs.RowState.{RowState, IsRowState, width}
use Rattle.rel_base.specs.Validity.{agree_sets, Holds}
use Rattle.rel_base.specs.declared.dependency.Fd.{Fd}
use Rattle.rel_base.specs.Covers.{fds_to, covers, least_covers}
use Rattle.rel_base.specs.Laws.{IsAgreeSet, AllHold}
use Rattle.rel_base.proofs.States.{All-listed, live_climbs}
use Rattle.rel_base.proofs.Valid.{Listed-agree_sets, holds-true, holds-refuted}
use Rattle.rel_base.proofs.Minima.{covers-least}

module _ {X Y : Type 0} where
  pub flat_map-each : (f g : X → List Y) (xs : List X) → ((x : X) → Listed x xs → f x ≡ g x) → flat_map f xs ≡ flat_map g xs
  flat_map-each f g [] e = refl
  flat_map-each f g (x ∷ xs) e = ap₂ (λ (a b : List Y). a ++ b) (e x (inl refl)) (flat_map-each f g xs (λ y h. e y (inr h)))

module _ (r : RowState) (is : IsRowState r) (ws : List ℕ) (pairs : (w : ℕ) → Listed w ws → IsAgreeSet r w) where
  pub agree-listed : (w : ℕ) → Listed w ws → Listed w (agree_sets r)
  agree-listed w h = let p = pairs w h in
      subst (λ (z : ℕ). Listed z (agree_sets r)) (sym p.agrees)
      (Listed-agree_sets r p.first p.second (Listed-contained p.first r.live p.first_live) (Listed-contained p.second r.live p.second_live) p.different)

  -- what holds in the rows is refuted by none of their agree sets
  holding-stands : (x : ℕ) (t : Target) → Holds r x t → refuted (agree_sets r) t x ≡ false
  holding-stands x t h = not-true _ (sym (holds-refuted r x t) ∙ holds-true r x t (live_climbs r is) h)

  -- for one target
  pub least-whole : (t : Target) → ((x : ℕ) → Listed x (least (width r) ws t) → Holds r x t) → least (width r) ws t ≡ least (width r) (agree_sets r) t
  least-whole t hold = least-same (width r) ws (agree_sets r) t (λ x b. refuted_more ws (agree_sets r) t x agree-listed) (λ x h. holding-stands x t (hold x h))

  pub least_covers-whole : AllHold r (least_covers (width r) ws) → least_covers (width r) ws ≡ covers r
  unfolding least_covers
  least_covers-whole all = (λ i. record { keys = keys i; fds = fds i }) ∙ sym (covers-least r)
    where
      keys : least (width r) ws RowId ≡ least (width r) (agree_sets r) RowId
      keys = least-whole RowId (λ x h. All-listed (λ (x : ℕ). Holds r x RowId) x (least (width r) ws RowId) all.keys h)

      own : (a : ℕ) → Listed a (upto (width r)) → (x : ℕ) → Listed x (least (width r) ws (Col a)) → Holds r x (Col a)
      own a l x h = All-listed (λ (f : Fd). Holds r f.left (Col f.right)) (record { left = x; right = a }) (flat_map (λ a. fds_to a (least (width r) ws (Col a))) (upto (width r))) all.fds
          (Listed-flat_map (λ a. fds_to a (least (width r) ws (Col a))) a (record { left = x; right = a }) (upto (width r)) l
          (Listed-map (λ (x : ℕ). record { left = x; right = a }) x (least (width r) ws (Col a)) h))

      fds : flat_map (λ a. fds_to a (least (width r) ws (Col a))) (upto (width r)) ≡ flat_map (λ a. fds_to a (least (width r) (agree_sets r) (Col a))) (upto (width r))
      fds = flat_map-each _ _ (upto (width r)) (λ a l. ap (fds_to a) (least-whole (Col a) (own a l)))
