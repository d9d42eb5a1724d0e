-- Where no candidate is unfinished, the candidates are the covers.
use Rattle.std.proofs.Common.{◌≡◌, ℕ, sym, ap, ◌∙◌, subst, arith, None}
use Rattle.std.specs.List.{flat_map}
use Rattle.std.proofs.lemmas.Bool.{ltb-false}
use Rattle.col_set.specs.declared.target.Target.{Target}
use Rattle.col_set.specs.declared.target.Target.TheVariants.{Col, RowId}
use Rattle.col_set.specs.ColSet.{upto}
use Rattle.col_set.specs.Target.{IsColumnTarget}
use Rattle.col_set.specs.Evidence.{least}
use Rattle.col_set.specs.Lists.{Listed, Listed-map_which}
use Rattle.col_set.specs.AllSets.{Listed-upto_within}
use Rattle.col_set.proofs.Places.{Listed-contained}
use Rattle.rel_base.specs.RowState.{width, next}
use Rattle.rel_base.specs.Validity.{agree_sets, Holds}
use Rattle.rel_base.specs.Covers.{fds_to, covers}
use Rattle.rel_base.specs.Covers.{least_covers}
use Rattle.rel_base.specs.Laws.{IsAgreeSet}
use Rattle.rel_base.proofs.States.{All-listed, live_numbered}
use Rattle.rel_base.proofs.Minima.{covers-least}
use Rattle.rel_base.proofs.Whole as evidence
use Rattle.negative_cover.specs.declared.negative_cover.Witness.{Witness}
use Rattle.candidate_cover.specs.declared.cand.Cand.{Cand}
use Rattle.candidate_cover.specs.Cands.{lefts}
use Rattle.cover_steps.specs.Core.{Core, cands, first_unfinished, listed_covers}
use Rattle.negative_cover.specs.Witnesses.{sets_of}
use Rattle.cover_steps.specs.Sound.{IsWitness, Sound}
use Rattle.cover_steps.proofs.Lists.{flat_map_same}
use Rattle.cover_steps.proofs.Found.{all_finished}
use Rattle.cover_steps.proofs.Keeping.{cand-marked}

module _ (s : Core) (sound : Sound s) where
  -- each agree set of a witness is that of two live rows
  witnessed : (w : ℕ) → Listed w (sets_of s.witnesses) → IsAgreeSet s.rows w
  witnessed w h =
      let v = Listed-map_which (λ (w : Witness). w.agree) w s.witnesses h in
      let is = All-listed (IsWitness s.rows) v.0 s.witnesses sound.witnesses v.1 in
      record { first = v.0.i; second = v.0.j; first_live = is.first; second_live = is.second; different = is.different; agrees = v.2 ∙ is.agrees }

  pub agree-listed : (w : ℕ) → Listed w (sets_of s.witnesses) → Listed w (agree_sets s.rows)
  agree-listed = evidence.agree-listed s.rows sound.rows (sets_of s.witnesses) witnessed

  -- a candidate that is finished holds in all rows
  finished_holds : first_unfinished s ≡ None → (t : Target) → IsColumnTarget (width s.rows) t → (c : Cand) → Listed c (cands s t) → Holds s.rows c.left t
  finished_holds none t l c h =
      let m = cand-marked s t c sound l h in
      let g = ltb-false c.upto (next s.rows) (all_finished s t c none l h) in
      record {
        each = λ i j a b ne w. m.holds.each i j a b
            (let u = live_numbered s.rows i sound.rows (Listed-contained i s.rows.live a) in omega arith)
            (let u = live_numbered s.rows j sound.rows (Listed-contained j s.rows.live b) in omega arith) ne w;
      }

  pub lefts-exact : first_unfinished s ≡ None → (t : Target) → IsColumnTarget (width s.rows) t → lefts (cands s t) ≡ least (width s.rows) (agree_sets s.rows) t
  lefts-exact none t l = sound.candidates t l ∙ evidence.least-whole s.rows sound.rows (sets_of s.witnesses) witnessed t (λ x h.
      let v = Listed-map_which (λ (c : Cand). c.left) x (cands s t) (subst (Listed x) (sym (sound.candidates t l)) h) in
      subst (λ (z : ℕ). Holds s.rows z t) (sym v.2) (finished_holds none t l v.0 v.1))

  pub listed_covers-exact : first_unfinished s ≡ None → listed_covers s ≡ covers s.rows
  unfolding least_covers
  listed_covers-exact none = (λ i. record { keys = lefts-exact none RowId tt i; fds = fds i }) ∙ sym (covers-least s.rows)
    where
      fds : flat_map (λ a. fds_to a (lefts (cands s (Col a)))) (upto (width s.rows)) ≡ flat_map (λ a. fds_to a (least (width s.rows) (agree_sets s.rows) (Col a))) (upto (width s.rows))
      fds = flat_map_same _ _ (upto (width s.rows)) (λ a h. ap (fds_to a) (lefts-exact none (Col a) (Listed-upto_within (width s.rows) a h)))
