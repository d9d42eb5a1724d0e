-- A target's list of candidates after a new list was put, and in a new cover.
use Rattle.std.proofs.Common.{inl, inr, ◌≡◌, ℕ, ◌+◌, ◌<◌, refl, sym, ap, ◌∙◌, subst, List, [], ◌∷◌, ◌++◌, length, get_or, take, replicate, append_assoc, append-nil}
use Rattle.std.proofs.lemmas.List.{length-replicate, length-set, get_or-set_same, get_or-replicate, take_more}
use Rattle.col_set.specs.declared.target.Target.{Target}
use Rattle.col_set.specs.declared.target.Target.TheVariants.{Col, RowId}
use Rattle.col_set.specs.Target.{IsColumnTarget}
use Rattle.col_set.specs.Evidence.{least}
use Rattle.col_set.specs.Lists.{Listed, Listed-append_left, Listed-append_right, Listed-append_cases}
use Rattle.col_set.proofs.More.{least-empty, least_of_same}
use Rattle.candidate_cover.specs.declared.cand.Cand.{Cand}
use Rattle.candidate_cover.specs.Lists.{CandLists}
use Rattle.candidate_cover.specs.Cands.{width, cands_of, with_list, lefts, fresh}

-- the list that was put
pub cands_of-with_list : (c : CandLists) (t : Target) (cs : List Cand) → IsColumnTarget (width c) t → cands_of (with_list c t cs) t ≡ cs
cands_of-with_list c (Col a) cs h = get_or-set_same c.columns a cs [] h
cands_of-with_list c RowId cs h = refl

pub width-with_list : (c : CandLists) (t : Target) (cs : List Cand) → width (with_list c t cs) ≡ width c
width-with_list c (Col a) cs = length-set c.columns a cs
width-with_list c RowId cs = refl

-- the lists of a new cover
abbrev pub opening : ℕ → CandLists
opening n = record { row_id = fresh 0 ∷ []; columns = replicate n (fresh 0 ∷ []) }

pub width-opening : (n : ℕ) → width (opening n) ≡ n
width-opening n = length-replicate n (fresh 0 ∷ [])

pub opening_least : (n : ℕ) (t : Target) → IsColumnTarget n t → lefts (cands_of (opening n) t) ≡ least n [] t
opening_least n (Col a) h = ap lefts (get_or-replicate n a (fresh 0 ∷ []) [] h) ∙ sym (least-empty n (Col a))
opening_least n RowId h = sym (least-empty n RowId)

-- agree sets may be booked in either order
pub least_swapped : (n : ℕ) (rest gone : List ℕ) (t : Target) → least n (gone ++ rest) t ≡ least n (rest ++ gone) t
least_swapped n rest gone t = least_of_same n (gone ++ rest) (rest ++ gone) t (λ w h. turn gone rest w h) (λ w h. turn rest gone w h)
  where
    turn : (vs ws : List ℕ) (w : ℕ) → Listed w (vs ++ ws) → Listed w (ws ++ vs)
    turn vs ws w h = elim (Listed-append_cases w vs ws h) as (λ _. Listed w (ws ++ vs)) [ inl g ↦ Listed-append_right w ws vs g | inr g ↦ Listed-append_left w ws vs g ]

-- ---- one agree set after another
-- what booking has made of a target's list, from old to new
pub record HasBooked (t : Target) (sets : List ℕ) (old new : CandLists) : Type 0 where
  pub wide : width new ≡ width old
  pub booked : (ws : List ℕ) → lefts (cands_of old t) ≡ least (width old) ws t → lefts (cands_of new t) ≡ least (width old) (ws ++ sets) t

pub booked_none : (t : Target) (c : CandLists) → HasBooked t [] c c
booked_none t c = record { wide = refl; booked = λ ws e. e ∙ ap (λ vs. least (width c) vs t) (sym (append-nil ws)) }

pub booked_more : (t : Target) (sets : List ℕ) (i z : ℕ) → i < length sets → z ≡ get_or sets i z → (old now : CandLists) → IsColumnTarget (width old) t → HasBooked t (take i sets) old now → (new_list : List Cand)
    → ((ws : List ℕ) → lefts (cands_of now t) ≡ least (width now) ws t → lefts new_list ≡ least (width now) (ws ++ z ∷ []) t) → HasBooked t (take (i + 1) sets) old (with_list now t new_list)
booked_more t sets i z l is old now h b new_list made = record {
  wide = width-with_list now t new_list ∙ b.wide;
  booked = λ ws e.
      ap lefts (cands_of-with_list now t new_list (subst (λ (n : ℕ). IsColumnTarget n t) (sym b.wide) h))
      ∙ made (ws ++ take i sets) (b.booked ws e ∙ ap (λ (n : ℕ). least n (ws ++ take i sets) t) (sym b.wide))
      ∙ ap (λ (n : ℕ). least n ((ws ++ take i sets) ++ z ∷ []) t) b.wide
      ∙ ap (λ vs. least (width old) vs t) (append_assoc ws (take i sets) (z ∷ []) ∙ ap (λ vs. ws ++ vs) (sym (take_more sets i z l ∙ ap (λ (y : ℕ). take i sets ++ y ∷ []) (sym is))));
}
