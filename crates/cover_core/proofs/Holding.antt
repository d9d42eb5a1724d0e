-- Where the first unfinished candidate stands, which stays where one is held or let go of.
use Rattle.std.proofs.Common.{inl, inr, ◌≡◌, ℕ, Bool, true, false, cond, eqb, if◌then◌else◌, refl, sym, ap, ◌∙◌, subst, List, [], ◌∷◌, ◌++◌, map, Option, Some}
use Rattle.std.specs.List.{find, flat_map}
use Rattle.std.specs.Option.{option_map}
use Rattle.std.proofs.lemmas.Bool.{eqb-true}
use Rattle.col_set.specs.declared.target.Target.{Target}
use Rattle.col_set.specs.Target.{IsColumnTarget}
use Rattle.candidate_cover.specs.declared.cand.Cand.{Cand}
use Rattle.candidate_cover.specs.Lists.{CandLists}
use Rattle.candidate_cover.specs.Cands.{width, cands_of, with_list, holding}
use Rattle.rel_base.specs.RowState.{next, width as columns_of}
use Rattle.cover_steps.specs.Core.{Core, entries_in, targets, is_unfinished, first_unfinished}
use Rattle.cover_steps.proofs.Kept.{cands_of-with_list, target_cases}
use Rattle.cover_core.specs.declared.cursor.Unfinished.{Unfinished}
use Rattle.cover_core.specs.Past.{place, IsFirst}
use Rattle.cover_core.proofs.Calls.{with_lists}

-- where the first of these entries that is unfinished stands
abbrev first_place : ℕ → List (Target × Cand) → Option Unfinished
first_place n es = option_map place (find (λ e. is_unfinished n e.1) es)

module _ (n : ℕ) where
  -- one more entry in front of each, which stand at one place and are both unfinished or neither
  one-more : (d e : Target × Cand) (ds es : List (Target × Cand)) → is_unfinished n d.1 ≡ is_unfinished n e.1 → place d ≡ place e
      → first_place n ds ≡ first_place n es → first_place n (d ∷ ds) ≡ first_place n (e ∷ es)
  one-more d e ds es same at rest = by (is_unfinished n e.1) same
    where
      by : (b : Bool) → is_unfinished n d.1 ≡ b → first_place n (d ∷ ds) ≡ option_map place (cond b (Some e) (find (λ e. is_unfinished n e.1) es))
      by true h = ap (λ (b : Bool). option_map place (cond b (Some d) (find (λ e. is_unfinished n e.1) ds))) h ∙ ap Some at
      by false h = ap (λ (b : Bool). option_map place (cond b (Some d) (find (λ e. is_unfinished n e.1) ds))) h ∙ rest

  of_target : (t : Target) (x : ℕ) (h : Bool) (cs : List Cand) (ds es : List (Target × Cand)) → first_place n ds ≡ first_place n es
      → first_place n (map (λ k. (t, k)) (holding cs x h) ++ ds) ≡ first_place n (map (λ k. (t, k)) cs ++ es)
  of_target t x h [] ds es rest = rest
  of_target t x h (c ∷ cs) ds es rest = by (eqb c.left x) refl (of_target t x h cs ds es rest)
    where
      by : (b : Bool) → eqb c.left x ≡ b → first_place n (map (λ k. (t, k)) (holding cs x h) ++ ds) ≡ first_place n (map (λ k. (t, k)) cs ++ es)
          → first_place n ((t, (if b then record { left = x; upto = c.upto; held = h } else c)) ∷ (map (λ k. (t, k)) (holding cs x h) ++ ds)) ≡ first_place n ((t, c) ∷ (map (λ k. (t, k)) cs ++ es))
      by true e g =
          one-more (t, record { left = x; upto = c.upto; held = h }) (t, c) (map (λ k. (t, k)) (holding cs x h) ++ ds) (map (λ k. (t, k)) cs ++ es) refl
          (ap (λ (l : ℕ). let u : Unfinished = record { target = t; left = l; upto = c.upto } in u) (sym (eqb-true c.left x e))) g
      by false e g = one-more (t, c) (t, c) (map (λ k. (t, k)) (holding cs x h) ++ ds) (map (λ k. (t, k)) cs ++ es) refl refl g

  of_other : (u : Target) (cs : List Cand) (ds es : List (Target × Cand)) → first_place n ds ≡ first_place n es
      → first_place n (map (λ k. (u, k)) cs ++ ds) ≡ first_place n (map (λ k. (u, k)) cs ++ es)
  of_other u [] ds es rest = rest
  of_other u (c ∷ cs) ds es rest = one-more (u, c) (u, c) (map (λ k. (u, k)) cs ++ ds) (map (λ k. (u, k)) cs ++ es) refl refl (of_other u cs ds es rest)

module _ (n : ℕ) (c : CandLists) (t : Target) (x : ℕ) (h : Bool) (wide : IsColumnTarget (width c) t) where
  abbrev new : CandLists
  new = with_list c t (holding (cands_of c t) x h)

  abbrev of : CandLists → List Target → List (Target × Cand)
  of d ts = flat_map (λ u. map (λ k. (u, k)) (cands_of d u)) ts

  of_lists : (ts : List Target) → first_place n (of new ts) ≡ first_place n (of c ts)
  of_lists [] = refl
  of_lists (u ∷ us) = elim (target_cases c t u (holding (cands_of c t) x h)) as (λ _. first_place n (map (λ k. (u, k)) (cands_of new u) ++ of new us) ≡ first_place n (map (λ k. (u, k)) (cands_of c u) ++ of c us)) [
    | inl e ↦ subst (λ (u : Target). first_place n (map (λ k. (u, k)) (cands_of new u) ++ of new us) ≡ first_place n (map (λ k. (u, k)) (cands_of c u) ++ of c us)) e
        (subst (λ (cs : List Cand). first_place n (map (λ k. (t, k)) cs ++ of new us) ≡ first_place n (map (λ k. (t, k)) (cands_of c t) ++ of c us))
        (sym (cands_of-with_list c t (holding (cands_of c t) x h) wide)) (of_target n t x h (cands_of c t) (of new us) (of c us) (of_lists us)))
    | inr e ↦ subst (λ (cs : List Cand). first_place n (map (λ k. (u, k)) cs ++ of new us) ≡ first_place n (map (λ k. (u, k)) (cands_of c u) ++ of c us)) (sym e)
        (of_other n u (cands_of c u) (of new us) (of c us) (of_lists us))
  ]

-- what a book keeps of the first unfinished candidate is so still
pub first-held : (s : Core) (t : Target) (x : ℕ) (h : Bool) (now : CandLists) (first : Option Unfinished) → IsColumnTarget (width s.candidates) t
    → now ≡ with_list s.candidates t (holding (cands_of s.candidates t) x h) → IsFirst s first → IsFirst (with_lists s now) first
unfolding first_unfinished
first-held s t x h now first wide e is =
    is ∙ sym (ap (λ (c : CandLists). first_place (next s.rows) (entries_in (columns_of s.rows) c)) e
    ∙ of_lists (next s.rows) s.candidates t x h wide (targets (columns_of s.rows)))
