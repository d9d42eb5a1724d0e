-- All pairs of live rows as evidence, and what holds after they were booked.
use Rattle.std.proofs.Common.{inl, inr, ◌≡◌, ◌≢◌, ◌⊎◌, ℕ, zero, suc, ◌<◌, ◌≤◌, max, true, false, refl, sym, ap, ◌∙◌, subst, arith, List, [], ◌∷◌, map, get_or}
use Rattle.std.specs.List.{All, Contains}
use Rattle.std.proofs.lemmas.Bool.{true≢false, true_from_ne_false, cases_order, cases_lt}
use Rattle.std.proofs.lemmas.List.{length-map}
use Rattle.col_set.specs.declared.target.Target.{Target}
use Rattle.col_set.specs.declared.target.Target.TheVariants.{Col, RowId}
use Rattle.col_set.specs.ColSet.{IsSubset}
use Rattle.col_set.specs.Subsets.{IsSubset-trans}
use Rattle.col_set.specs.Target.{IsColumnTarget, has_target}
use Rattle.col_set.specs.Lists.{Listed, Listed-map_which}
use Rattle.col_set.proofs.Least.{refuted_inside}
use Rattle.col_set.proofs.Places.{Listed-contained}
use Rattle.rel_base.specs.CodeTable.{CodeTable}
use Rattle.rel_base.specs.RowState.{RowState, IsRowState, width, next, row}
use Rattle.rel_base.specs.Shows.{Shows, code_agree}
use Rattle.rel_base.specs.Validity.{agree_of, Holds, HoldsBelow}
use Rattle.rel_base.proofs.Agree.{agree-symm}
use Rattle.rel_base.proofs.Shown.{code_agree-shown}
use Rattle.rel_base.proofs.States.{All-listed, All-from, live_positive, live_numbered}
use Rattle.negative_cover.specs.Witnesses.{sets_of}
use Rattle.candidate_cover.specs.declared.cand.Cand.{Cand}
use Rattle.candidate_cover.specs.Lists.{CandLists}
use Rattle.candidate_cover.specs.Cands.{cands_of, lefts}
use Rattle.candidate_cover.specs.AllMarked.{all_marked, marked_throughout}
use Rattle.least_sets.specs.Drafts.{is_news}
use Rattle.cover_steps.specs.Core.{Core, cands}
use Rattle.cover_steps.specs.Sound.{IsMarked, Sound}
use Rattle.cover_steps.proofs.Keeping.{cand-least, cand-marked}
use Rattle.negative_cover.specs.declared.negative_cover.Witness.{Witness as Evidence}
use Rattle.negative_cover.specs.AllPairs.{IsCodePair, AreAllPairs}
use Rattle.cover_steps.specs.Evidences.{IsEvidence, IsAllTold}
use Rattle.cover_core.specs.Kept.{IsBook}
use Rattle.cover_core.proofs.Calls.{with_lists}
use Rattle.cover_steps.proofs.Evidences.{news_told}

-- ---- evidence
module _ (s : CodeTable) (r : RowState) (is : IsRowState r) (shows : Shows s r) (from : ℕ) (found : List Evidence) (all : AreAllPairs s from found) where
  pub pairs_evidence : All (IsEvidence r) found
  pairs_evidence = All-from (IsEvidence r) found (λ e h.
      let p : IsCodePair s e = All-listed (IsCodePair s) e found all.each h in
      let first : Contains r.live e.i = (shows.live e.i p.positive).0 p.first in
      let l = p.rising in
      let q = p.positive in
      let positive : 0 < e.j = omega arith in
      let second : Contains r.live e.j = (shows.live e.j positive).0 p.second in
      let ne : e.i ≢ e.j = omega arith in
      record { first = first; second = second; different = ne; agrees = p.agrees ∙ code_agree-shown s r is shows e.i e.j first second ne })

  module _ (n : ℕ) (ws : List ℕ) (known : All (λ e. is_news n ws e.agree ≡ false) found) where
    pub pairs_told : (i j : ℕ) → Contains r.live i → Contains r.live j → i < j → from ≤ j → is_news n ws (agree_of r i j) ≡ false
    pairs_told i j h g l late =
        let first = live_positive r i is (Listed-contained i r.live h) in
        let second = live_positive r j is (Listed-contained j r.live g) in
        let ne : i ≢ j = omega arith in
        let within : j < s.to = (let m = live_numbered r j is (Listed-contained j r.live g) in let k = shows.next in omega arith) in
        let w = Listed-map_which (λ (e : Evidence). e.agree) (code_agree s i j) found (all.told i j first l late within ((shows.live i first).1 h) ((shows.live j second).1 g)) in
        ap (is_news n ws) (sym (code_agree-shown s r is shows i j h g ne) ∙ w.2) ∙ All-listed (λ (e : Evidence). is_news n ws e.agree ≡ false) w.0 found known w.1

-- ---- what holds below a number
pub below_less : (r : RowState) (x : ℕ) (t : Target) (from b : ℕ) → from ≤ b → HoldsBelow b r x t → HoldsBelow from r x t
below_less r x t from b le h = record { each = λ i j a c first second ne sub. let f : i < b = omega arith in let g : j < b = omega arith in h.each i j a c f g ne sub }

pub below_more : (r : RowState) (x y : ℕ) (t : Target) (b : ℕ) → IsSubset y x → HoldsBelow b r y t → HoldsBelow b r x t
below_more r x y t b s h = record { each = λ i j a c first second ne sub. h.each i j a c first second ne (IsSubset-trans s sub) }

-- ---- what holds
module _ (s : Core) (table : CodeTable) (book : IsBook s table) (from : ℕ) (told : IsAllTold s from) (t : Target) (c : Cand) (l : IsColumnTarget (width s.rows) t) (h : Listed c (cands s t)) where
  -- no pair of which the later row has the number or a greater one breaks it
  new_keep : (i j : ℕ) → Contains s.rows.live i → Contains s.rows.live j → i < j → from ≤ j → IsSubset c.left (agree_of s.rows i j) → has_target (agree_of s.rows i j) t ≡ true
  new_keep i j a b less late sub = true_from_ne_false _ (λ f.
      true≢false (sym (refuted_inside (sets_of s.witnesses) t sub (news_told (width s.rows) (sets_of s.witnesses) (agree_of s.rows i j) (told.each i j a b less late) t l f)) ∙ (cand-least s t c book.sound l h).stands))

  turned : (i j : ℕ) → agree_of s.rows i j ≡ agree_of s.rows j i
  turned i j = agree-symm s.rows.nulls (width s.rows) (row s.rows i) (row s.rows j)

  pub stands : HoldsBelow from s.rows c.left t → Holds s.rows c.left t
  stands below = record { each = λ i j a b ne sub. at i j a b ne sub (cases_order i j) }
    where
      rising : (i j : ℕ) → Contains s.rows.live i → Contains s.rows.live j → i < j → IsSubset c.left (agree_of s.rows i j) → (j < from) ⊎ (from ≤ j) → has_target (agree_of s.rows i j) t ≡ true
      rising i j a b less sub (inr late) = new_keep i j a b less late sub
      rising i j a b less sub (inl early) = let first : i < from = omega arith in let ne : i ≢ j = omega arith in below.each i j a b first early ne sub

      at : (i j : ℕ) → Contains s.rows.live i → Contains s.rows.live j → i ≢ j → IsSubset c.left (agree_of s.rows i j) → (i ≡ j) ⊎ ((i < j) ⊎ (j < i)) → has_target (agree_of s.rows i j) t ≡ true
      at i j a b ne sub (inl e) = absurd (ne e)
      at i j a b ne sub (inr (inl less)) = rising i j a b less sub (cases_lt j from)
      at i j a b ne sub (inr (inr less)) = ap (λ (z : ℕ). has_target z t) (turned i j) ∙ rising j i b a less (subst (IsSubset c.left) (turned i j) sub) (cases_lt i from)

-- ---- marks
get_or-marked : (to : ℕ) (lists : List (List Cand)) (a : ℕ) → get_or (map (all_marked to) lists) a [] ≡ all_marked to (get_or lists a [])
get_or-marked to [] a = refl
get_or-marked to (l ∷ ls) zero = refl
get_or-marked to (l ∷ ls) (suc a) = get_or-marked to ls a

cands_of-marked : (to : ℕ) (c : CandLists) (t : Target) → cands_of (marked_throughout to c) t ≡ all_marked to (cands_of c t)
cands_of-marked to c RowId = refl
cands_of-marked to c (Col a) = get_or-marked to c.columns a

lefts-marked : (to : ℕ) (cs : List Cand) → lefts (all_marked to cs) ≡ lefts cs
lefts-marked to [] = refl
lefts-marked to (c ∷ cs) = ap (λ (xs : List ℕ). c.left ∷ xs) (lefts-marked to cs)

module _ (s now : Core) (table : CodeTable) (book : IsBook s table) (view : s ≡ now) (all : IsAllTold now 1) (n : ℕ) (e : n ≡ next s.rows) (new : CandLists) (is : new ≡ marked_throughout n s.candidates) where
  told : IsAllTold s 1
  told = subst (λ (m : Core). IsAllTold m 1) (sym view) all

  marked : (t : Target) (c : Cand) → IsColumnTarget (width s.rows) t → Listed c (cands s t) → IsMarked s.rows t (record { left = c.left; upto = max c.upto (next s.rows); held = false })
  marked t c l h =
      let m = cand-marked s t c book.sound l h in
      let first = m.first in
      let last = m.last in
      let some : 1 ≤ c.upto = omega arith in
      record { holds = record { each = λ i j a b _ _ ne sub. (stands s table book 1 told t c l h (below_less s.rows c.left t 1 c.upto some m.holds)).each i j a b ne sub }; first = omega arith; last = omega arith }

  sound : Sound (record { rows = s.rows; witnesses = s.witnesses; candidates = marked_throughout (next s.rows) s.candidates })
  sound = record {
    rows = book.sound.rows;
    witnesses = book.sound.witnesses;
    once = book.sound.once;
    columns = length-map s.candidates.columns (all_marked (next s.rows)) ∙ book.sound.columns;
    candidates = λ t l. ap lefts (cands_of-marked (next s.rows) s.candidates t) ∙ lefts-marked (next s.rows) (cands s t) ∙ book.sound.candidates t l;
    marks = λ t l. subst (All (IsMarked s.rows t)) (sym (cands_of-marked (next s.rows) s.candidates t)) (All-from (IsMarked s.rows t) (all_marked (next s.rows) (cands s t)) (λ c h.
        let w = Listed-map_which (λ (c : Cand). record { left = c.left; upto = max c.upto (next s.rows); held = false }) c (cands s t) h in
        subst (IsMarked s.rows t) (sym w.2) (marked t w.0 l w.1)));
  }

  pub IsBook-marked : IsBook (with_lists s new) table
  IsBook-marked = record {
    sound = subst (λ (c : CandLists). Sound (record { rows = s.rows; witnesses = s.witnesses; candidates = c })) (sym (is ∙ ap (λ (n : ℕ). marked_throughout n s.candidates) e)) sound;
    table = book.table;
    shows = book.shows;
  }

-- ---- both
pub all_evidence : (s now : Core) (table shown : CodeTable) (from : ℕ) → IsBook s table → s ≡ now → shown ≡ table → (found : List Evidence) → AreAllPairs shown from found → All (IsEvidence now.rows) found
all_evidence s now table shown from book view same found all =
    subst (λ (m : Core). All (IsEvidence m.rows) found) view (pairs_evidence table s.rows book.sound.rows book.shows from found (subst (λ (t : CodeTable). AreAllPairs t from found) same all))

pub all_told : (s now after : Core) (table shown : CodeTable) (from : ℕ) → IsBook s table → s ≡ now → shown ≡ table → after.rows ≡ now.rows → (found : List Evidence) → AreAllPairs shown from found
    → All (λ e. is_news (width after.rows) (sets_of after.witnesses) e.agree ≡ false) found → IsAllTold after from
all_told s now after table shown from book view same e found all known = record {
  each = pairs_told table after.rows (subst IsRowState rows book.sound.rows) (subst (Shows table) rows book.shows) from found (subst (λ (t : CodeTable). AreAllPairs t from found) same all) (width after.rows) (sets_of after.witnesses) known;
}
  where
    rows : s.rows ≡ after.rows
    rows = ap (λ (m : Core). m.rows) view ∙ sym e
