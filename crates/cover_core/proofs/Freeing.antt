-- What stays where all candidates are let go of.
use Rattle.std.proofs.Common.{◌≡◌, ℕ, zero, suc, Bool, true, false, cond, refl, sym, ap, ap₂, ◌∙◌, subst, List, [], ◌∷◌, ◌++◌, map, get_or, Some, None}
use Rattle.std.specs.List.{All, find, flat_map}
use Rattle.std.proofs.lemmas.List.{length-map, map-append}
use Rattle.std.proofs.lemmas.Option.{none-some}
use Rattle.col_set.specs.declared.target.Target.{Target}
use Rattle.col_set.specs.declared.target.Target.TheVariants.{Col, RowId}
use Rattle.col_set.specs.Lists.{Listed, Listed-map_which}
use Rattle.rel_base.specs.CodeTable.{CodeTable}
use Rattle.rel_base.specs.RowState.{RowState, width, next}
use Rattle.rel_base.proofs.States.{All-listed, All-from}
use Rattle.candidate_cover.specs.declared.cand.Cand.{Cand}
use Rattle.candidate_cover.specs.Lists.{CandLists}
use Rattle.candidate_cover.specs.Cands.{cands_of, lefts, all_free, freed}
use Rattle.cover_steps.specs.Core.{Core, cands, entries_in, entries, targets, is_unfinished, first_unfinished}
use Rattle.cover_steps.specs.Sound.{IsMarked, Sound}
use Rattle.cover_core.specs.Kept.{IsBook}

-- the entry of a candidate that is let go of
abbrev free_entry : Target × Cand → Target × Cand
free_entry e = (e.0, record { left = e.1.left; upto = e.1.upto; held = false })

get_or-freed : (lists : List (List Cand)) (a : ℕ) → get_or (map all_free lists) a [] ≡ all_free (get_or lists a [])
get_or-freed [] a = refl
get_or-freed (l ∷ ls) zero = refl
get_or-freed (l ∷ ls) (suc a) = get_or-freed ls a

cands_of-freed : (c : CandLists) (t : Target) → cands_of (freed c) t ≡ all_free (cands_of c t)
cands_of-freed c RowId = refl
cands_of-freed c (Col a) = get_or-freed c.columns a

lefts-free : (cs : List Cand) → lefts (all_free cs) ≡ lefts cs
lefts-free [] = refl
lefts-free (c ∷ cs) = ap (λ (xs : List ℕ). c.left ∷ xs) (lefts-free cs)

marks-free : (r : RowState) (t : Target) (cs : List Cand) → All (IsMarked r t) cs → All (IsMarked r t) (all_free cs)
marks-free r t cs a = All-from (IsMarked r t) (all_free cs) (λ c h.
    let w = Listed-map_which (λ (c : Cand). record { left = c.left; upto = c.upto; held = false }) c cs h in
    let m = All-listed (IsMarked r t) w.0 cs a w.1 in
    subst (IsMarked r t) (sym w.2) (record { holds = m.holds; first = m.first; last = m.last }))

-- ---- entries
of_target-free : (t : Target) (cs : List Cand) → map (λ k. (t, k)) (all_free cs) ≡ map free_entry (map (λ k. (t, k)) cs)
of_target-free t [] = refl
of_target-free t (c ∷ cs) = ap (λ (es : List (Target × Cand)). (t, record { left = c.left; upto = c.upto; held = false }) ∷ es) (of_target-free t cs)

entries-freed : (c : CandLists) (ts : List Target) → flat_map (λ t. map (λ k. (t, k)) (cands_of (freed c) t)) ts ≡ map free_entry (flat_map (λ t. map (λ k. (t, k)) (cands_of c t)) ts)
entries-freed c [] = refl
entries-freed c (t ∷ ts) =
    ap₂ (λ (us vs : List (Target × Cand)). us ++ vs) (ap (map (λ k. (t, k))) (cands_of-freed c t) ∙ of_target-free t (cands_of c t)) (entries-freed c ts)
    ∙ sym (map-append free_entry (map (λ k. (t, k)) (cands_of c t)) (flat_map (λ t. map (λ k. (t, k)) (cands_of c t)) ts))

none-free : (n : ℕ) (es : List (Target × Cand)) → find (λ e. is_unfinished n e.1) es ≡ None → find (λ e. is_unfinished n e.1) (map free_entry es) ≡ None
none-free n [] h = refl
none-free n (e ∷ es) h = by (is_unfinished n e.1) h (none-free n es)
  where
    by : (b : Bool) → cond b (Some e) (find (λ e. is_unfinished n e.1) es) ≡ None → (find (λ e. is_unfinished n e.1) es ≡ None → find (λ e. is_unfinished n e.1) (map free_entry es) ≡ None)
        → cond b (Some (free_entry e)) (find (λ e. is_unfinished n e.1) (map free_entry es)) ≡ None
    by true h rest = absurd (none-some e (sym h))
    by false h rest = rest h

-- ---- the book
module _ (s now : Core) (table : CodeTable) (book : IsBook s table) (view : s ≡ now) (new : CandLists) (is : new ≡ freed s.candidates) where
  abbrev pub let_go : Core
  let_go = record { rows = s.rows; witnesses = s.witnesses; candidates = new }

  sound : Sound (record { rows = s.rows; witnesses = s.witnesses; candidates = freed s.candidates })
  sound = record {
    rows = book.sound.rows;
    witnesses = book.sound.witnesses;
    once = book.sound.once;
    columns = length-map s.candidates.columns all_free ∙ book.sound.columns;
    candidates = λ t l. ap lefts (cands_of-freed s.candidates t) ∙ lefts-free (cands s t) ∙ book.sound.candidates t l;
    marks = λ t l. subst (All (IsMarked s.rows t)) (sym (cands_of-freed s.candidates t)) (marks-free s.rows t (cands s t) (book.sound.marks t l));
  }

  pub IsBook-free : IsBook let_go table
  IsBook-free = record {
    sound = subst (λ (c : CandLists). Sound (record { rows = s.rows; witnesses = s.witnesses; candidates = c })) (sym is) sound;
    table = book.table;
    shows = book.shows;
  }

  same : entries let_go ≡ map free_entry (entries s)
  same = ap (entries_in (width s.rows)) is ∙ entries-freed s.candidates (targets (width s.rows))

  pub none_held : All (λ e. e.1.held ≡ false) (entries let_go)
  none_held = All-from (λ e. e.1.held ≡ false) (entries let_go) (λ e h.
      let w = Listed-map_which free_entry e (entries s) (subst (Listed e) same h) in
      ap (λ (e : Target × Cand). e.1.held) w.2)

  pub still_settled : first_unfinished now ≡ None → first_unfinished let_go ≡ None
  unfolding first_unfinished
  still_settled e = ap (find (λ e. is_unfinished (next s.rows) e.1)) same ∙ none-free (next s.rows) (entries s) (ap first_unfinished view ∙ e)
