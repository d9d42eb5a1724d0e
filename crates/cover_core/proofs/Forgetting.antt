-- Candidates whose marks are handed out: the book stays, and what they told is true.
use Rattle.std.proofs.Common.{◌≡◌, ℕ, zero, suc, ◌<◌, sym, refl, ap, ◌∙◌, subst, arith, ◌==◌, List, [], ◌∷◌, map, get_or, length, Option, Some, None}
use Rattle.std.specs.List.{All, find}
use Rattle.std.specs.Option.{option_map}
use Rattle.std.proofs.lemmas.Bool.{eqb-true}
use Rattle.std.proofs.lemmas.Option.{none-some, same_Some}
use Rattle.std.proofs.lemmas.List.{length-map}
use Rattle.col_set.specs.declared.target.Target.{Target}
use Rattle.col_set.specs.declared.target.Target.TheVariants.{Col, RowId}
use Rattle.col_set.specs.ColSet.{IsSubset}
use Rattle.col_set.specs.Lists.{Listed, Listed-map_which}
use Rattle.col_set.proofs.Places.{Listed-contained}
use Rattle.rel_base.specs.CodeTable.{CodeTable}
use Rattle.rel_base.specs.RowState.{RowState, IsRowState, next}
use Rattle.rel_base.specs.Validity.{agree_of}
use Rattle.rel_base.proofs.States.{All-from, live_numbered}
use Rattle.candidate_cover.specs.declared.cand.Cand.{Cand}
use Rattle.candidate_cover.specs.Lists.{CandLists}
use Rattle.candidate_cover.specs.Cands.{cands_of, lefts, fresh, upto_of}
use Rattle.candidate_cover.specs.AllMarked.{refreshed, refreshed_throughout}
use Rattle.cover_steps.specs.Core.{Core, cands}
use Rattle.cover_steps.specs.Sound.{IsMarked, Sound}
use Rattle.cover_steps.proofs.Keeping.{IsMarked-fresh, cand-marked}
use Rattle.cover_steps.proofs.Lists.{find-Some}
use Rattle.cover_core.specs.declared.known.Known.{Known}
use Rattle.cover_core.specs.Kept.{IsBook}
use Rattle.cover_core.specs.Told.{IsTrueOf}
use Rattle.cover_core.proofs.Calls.{with_lists}

get_or-refreshed : (lists : List (List Cand)) (a : ℕ) → get_or (map refreshed lists) a [] ≡ refreshed (get_or lists a [])
get_or-refreshed [] a = refl
get_or-refreshed (l ∷ ls) zero = refl
get_or-refreshed (l ∷ ls) (suc a) = get_or-refreshed ls a

cands_of-refreshed : (c : CandLists) (t : Target) → cands_of (refreshed_throughout c) t ≡ refreshed (cands_of c t)
cands_of-refreshed c RowId = refl
cands_of-refreshed c (Col a) = get_or-refreshed c.columns a

lefts-refreshed : (cs : List Cand) → lefts (refreshed cs) ≡ lefts cs
lefts-refreshed [] = refl
lefts-refreshed (c ∷ cs) = ap (λ (xs : List ℕ). c.left ∷ xs) (lefts-refreshed cs)

marks-refreshed : (r : RowState) (t : Target) (cs : List Cand) → IsRowState r → All (IsMarked r t) (refreshed cs)
marks-refreshed r t cs is = All-from (IsMarked r t) (refreshed cs) (λ c h.
    let w = Listed-map_which fresh c (lefts cs) h in
    subst (IsMarked r t) (sym w.2) (IsMarked-fresh r t w.0 is))

-- the candidate of which an answer tells
listed_at : (cs : List Cand) (x upto : ℕ) → upto_of cs x ≡ Some upto → (c : Cand) × Listed c cs × (c.left ≡ x) × (c.upto ≡ upto)
listed_at cs x upto h = by (find (λ c. c.left == x) cs) refl h
  where
    by : (o : Option Cand) → find (λ c. c.left == x) cs ≡ o → option_map (λ c. c.upto) o ≡ Some upto → (c : Cand) × Listed c cs × (c.left ≡ x) × (c.upto ≡ upto)
    by None is e = absurd (none-some upto e)
    by (Some c) is e = (let w = find-Some (λ c. c.left == x) cs c is in (c, w.0, eqb-true c.left x w.1, same_Some c.upto upto e))

module _ (s now : Core) (table : CodeTable) (book : IsBook s table) (view : s ≡ now) where
  module _ (new : CandLists) (is : new ≡ refreshed_throughout s.candidates) where
    sound : Sound (record { rows = s.rows; witnesses = s.witnesses; candidates = refreshed_throughout s.candidates })
    sound = record {
      rows = book.sound.rows;
      witnesses = book.sound.witnesses;
      once = book.sound.once;
      columns = length-map s.candidates.columns refreshed ∙ book.sound.columns;
      candidates = λ t l. ap lefts (cands_of-refreshed s.candidates t) ∙ lefts-refreshed (cands s t) ∙ book.sound.candidates t l;
      marks = λ t l. subst (All (IsMarked s.rows t)) (sym (cands_of-refreshed s.candidates t)) (marks-refreshed s.rows t (cands s t) book.sound.rows);
    }

    pub IsBook-refreshed : IsBook (with_lists s new) table
    IsBook-refreshed = record {
      sound = subst (λ (c : CandLists). Sound (record { rows = s.rows; witnesses = s.witnesses; candidates = c })) (sym is) sound;
      table = book.table;
      shows = book.shows;
    }

  pub told_true : (known : Known) → known.candidates ≡ s.candidates → known.next ≡ next s.rows → known.live ≡ length s.rows.live → IsTrueOf s.rows known
  told_true known same e live = record {
    wide = ap (λ (c : CandLists). length c.columns) same ∙ book.sound.columns;
    next = e;
    live = live;
    holds = λ t x l tells. record {
      each = λ i j a b ne sub.
          let w = listed_at (cands s t) x tells.upto (subst (λ (c : CandLists). upto_of (cands_of c t) x ≡ Some tells.upto) same tells.listed) in
          let marked : IsMarked s.rows t w.0 = cand-marked s t w.0 book.sound l w.1 in
          let u = tells.whole in
          let k = e in
          let m = w.3 in
          let first : i < w.0.upto = (let n = live_numbered s.rows i book.sound.rows (Listed-contained i s.rows.live a) in omega arith) in
          let second : j < w.0.upto = (let n = live_numbered s.rows j book.sound.rows (Listed-contained j s.rows.live b) in omega arith) in
          marked.holds.each i j a b first second ne (subst (λ (y : ℕ). IsSubset y (agree_of s.rows i j)) (sym w.2) sub);
    };
  }
