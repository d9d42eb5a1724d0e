-- The witnesses alone decide whether an agree set refutes a candidate.
use Rattle.std.proofs.Common.{◌≡◌, ℕ, ◌<◌, ◌^◌, Bool, true, false, not, ◌&&◌, refl, sym, ◌∙◌, subst}
use Rattle.std.proofs.lemmas.Bool.{true≢false, and_parts, and_from, not-true, not_from_false, false_from_ne_true}
use Rattle.col_set.specs.declared.target.Target.{Target}
use Rattle.col_set.specs.ColSet.{subset}
use Rattle.col_set.specs.Target.{IsColumnTarget, has_target}
use Rattle.col_set.specs.Subsets.{IsSubset, subset-true, true-subset, IsSubset-trans}
use Rattle.col_set.specs.Evidence.{refutes, refuted}
use Rattle.col_set.specs.Lists.{Listed, Listed-map, Listed-map_which, list_any_at, list_any_which}
use Rattle.col_set.proofs.Least.{Listed-least, least_below}
use Rattle.col_set.proofs.Places.{Listed-contained}
use Rattle.rel_base.specs.RowState.{width}
use Rattle.negative_cover.specs.declared.negative_cover.Witness.{Witness}
use Rattle.negative_cover.specs.Witnesses.{sets_of}
use Rattle.candidate_cover.specs.declared.cand.Cand.{Cand}
use Rattle.cover_steps.specs.Core.{Core, cands, entries, refutes_some}
use Rattle.cover_steps.specs.Sound.{Sound}
use Rattle.cover_steps.specs.Laws.{WitnessesDecide}
use Rattle.cover_steps.proofs.Found.{Listed-entries, refutes_some-which}
use Rattle.cover_steps.proofs.Keeping.{cand-least}

module _ (s : Core) (sound : Sound s) where
  -- no agree set of a witness refutes a candidate
  none_refuted : (t : Target) (c : Cand) (w : ℕ) → IsColumnTarget (width s.rows) t → Listed c (cands s t) → Listed w (sets_of s.witnesses) → refutes w c.left t ≡ false
  unfolding refuted
  none_refuted t c w l h g = false_from_ne_true _ (λ e. true≢false (sym (list_any_at (λ w. refutes w c.left t) w (sets_of s.witnesses) g e) ∙ (cand-least s t c sound l h).stands))

  -- an agree set that refutes none is told by a witness for each target that it lacks
  told : (z : ℕ) → z < 2 ^ width s.rows → refutes_some s z ≡ false → (t : Target) → IsColumnTarget (width s.rows) t → has_target z t ≡ false → refuted (sets_of s.witnesses) t z ≡ true
  unfolding refutes_some
  told z below none t l lacks = by (refuted (sets_of s.witnesses) t z) refl
    where
      by : (b : Bool) → refuted (sets_of s.witnesses) t z ≡ b → b ≡ true
      by true e = refl
      by false e =
          let m = least_below (width s.rows) (sets_of s.witnesses) t z below lacks e in
          let g = subst (Listed m.0) (sym (sound.candidates t l)) (Listed-least (width s.rows) (sets_of s.witnesses) t m.0 m.1) in
          let w = Listed-map_which (λ (c : Cand). c.left) m.0 (cands s t) g in
          let inside : subset w.0.left z ≡ true = true-subset (subst (λ (x : ℕ). IsSubset x z) w.2 m.2) in
          absurd (true≢false (sym (list_any_at (λ (e : Target × Cand). subset e.1.left z && not (has_target z e.0)) (t, w.0) (entries s) (Listed-entries s t w.0 l w.1) (and_from _ _ inside (not_from_false _ lacks))) ∙ none))

  -- and where all are told it refutes none
  known : (z : ℕ) → ((t : Target) → IsColumnTarget (width s.rows) t → has_target z t ≡ false → refuted (sets_of s.witnesses) t z ≡ true) → refutes_some s z ≡ false
  unfolding refuted
  known z told = false_from_ne_true _ (λ e.
      let d = refutes_some-which s z e in
      let lacks = not-true _ (and_parts _ _ d.lacks).1 in
      let w = list_any_which (λ w. refutes w z d.target) (sets_of s.witnesses) (told d.target d.entry.target lacks) in
      let p = and_parts _ _ w.2 in
      let inside : IsSubset d.cand.left w.0 = IsSubset-trans {x = d.cand.left} {y = z} {z = w.0} d.inside (subset-true p.0) in
      true≢false (sym (and_from _ _ (true-subset inside) p.1) ∙ none_refuted d.target d.cand w.0 d.entry.target d.entry.listed w.1))

pub decide : (s : Core) → Sound s → WitnessesDecide s
decide s sound = record {
  none = λ t c w l h g. none_refuted s sound t c w.agree l (Listed-contained c (cands s t) h) (Listed-map (λ (w : Witness). w.agree) w s.witnesses (Listed-contained w s.witnesses g));
  known = λ z below. ((λ none t l lacks. told s sound z below none t l lacks), (λ all. known s sound z all));
}
