-- Candidates of which many are marked.
use Rattle.std.proofs.Common.{◌≡◌, ℕ, ◌+◌, ◌<◌, refl, sym, ap, ◌∙◌, subst, List, [], ◌∷◌, drop, get_or, length}
use Rattle.std.specs.List.{All}
use Rattle.std.proofs.lemmas.List.{drop_more}
use Rattle.std.proofs.lemmas.List.Elements.{All-head, All-tail}
use Rattle.col_set.specs.Target.{IsColumnTarget}
use Rattle.rel_base.specs.CodeTable.{CodeTable}
use Rattle.rel_base.specs.RowState.{RowState, next}
use Rattle.candidate_cover.specs.Lists.{CandLists}
use Rattle.candidate_cover.specs.Cands.{width, cands_of, with_list, marked}
use Rattle.cover_steps.specs.Core.{Core}
use Rattle.cover_core.specs.declared.waiting.Waiting.{Waiting}
use Rattle.cover_core.specs.Judged.{IsHeld, IsSeen, job_for}
use Rattle.cover_core.specs.Kept.{IsBook}
use Rattle.cover_core.specs.Waiting.{marked_each}
use Rattle.cover_core.proofs.Calls
use Rattle.cover_core.proofs.Cursors.{target-of}

-- the candidates after one was marked
abbrev pub marked_one : CandLists → Waiting → ℕ → CandLists
marked_one c w to = with_list c w.target (marked (cands_of c w.target) w.cand.left to)

-- one after another
pub marked-next : (c new : CandLists) (list : List Waiting) (i to : ℕ) (w : Waiting) → i < length list → w ≡ get_or list i w → new ≡ marked_one c w to
    → marked_each new (drop (i + 1) list) to ≡ marked_each c (drop i list) to
unfolding marked_each
marked-next c new list i to w l is e =
    ap (λ (x : CandLists). marked_each x (drop (i + 1) list) to) (e ∙ ap (λ (x : Waiting). marked_one c x to) is)
    ∙ sym (ap (λ (ws : List Waiting). marked_each c ws to) (drop_more list i w l))

pub marked-end : (c : CandLists) (list : List Waiting) (to : ℕ) → list ≡ [] → marked_each c list to ≡ c
unfolding marked_each
marked-end c list to e = ap (λ (ws : List Waiting). marked_each c ws to) e

IsBook-each : (held : List Waiting) (s : Core) (shown : CodeTable) → IsBook s shown → All (IsSeen s.rows) held
    → IsBook (Calls.with_lists s (marked_each s.candidates held (next s.rows))) shown
unfolding marked_each
IsBook-each [] s shown book all = book
IsBook-each (w ∷ held) s shown book all =
    let one = All-head (IsSeen s.rows) w held all in
    let new = marked_one s.candidates w (next s.rows) in
    let made = Calls.mark-book s shown book (job_for s.rows one.table w) new one.held.fits one.held.holds refl in
    IsBook-each held (Calls.with_lists s new) shown made (All-tail (IsSeen s.rows) w held all)

-- the state is `now` as the caller sees it
module _ (s now : Core) (shown : CodeTable) (book : IsBook s shown) (view : s ≡ now) (held : List Waiting) (h : All (IsSeen now.rows) held) where
  seen : All (IsSeen s.rows) held
  seen = subst (λ (m : Core). All (IsSeen m.rows) held) (sym view) h

  pub IsBook-held : (n : ℕ) (new : CandLists) → n ≡ next s.rows → new ≡ marked_each s.candidates held n → IsBook (Calls.with_lists s new) shown
  IsBook-held n new e m =
      subst (λ (c : CandLists). IsBook (Calls.with_lists s c) shown) (sym (m ∙ ap (marked_each s.candidates held) e)) (IsBook-each held s shown book seen)

  pub targets-held : All (λ w. IsColumnTarget (width s.candidates) w.target) held
  targets-held j d l = target-of s now shown book view (get_or held j d).target (get_or held j d).target refl (h j d l).held.fits.target

-- what was seen to hold in one snapshot
pub seen-all : (r : RowState) (table : CodeTable) (held : List Waiting) → All (IsHeld r table) held → All (IsSeen r) held
seen-all r table held h = λ j d l. record { table = table; held = h j d l }
