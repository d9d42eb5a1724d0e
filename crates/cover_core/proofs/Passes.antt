-- A pass over the candidates, and evidence that is booked all at once.
use Rattle.std.proofs.Common.{inl, inr, ◌≡◌, ◌⊎◌, ℕ, false, refl, sym, ◌∙◌, subst, arith, List, [], ◌++◌, append-nil, length, get_or}
use Rattle.std.specs.List.{All}
use Rattle.col_set.specs.Target.{IsColumnTarget}
use Rattle.col_set.specs.Lists.{Listed, Listed-append_cases}
use Rattle.rel_base.specs.CodeTable.{CodeTable}
use Rattle.rel_base.specs.RowState.{RowState, width}
use Rattle.rel_base.specs.Validity.{HoldsBelow}
use Rattle.col_set.specs.ColSet.{Columns}
use Rattle.col_set.specs.declared.target.Target.{Target}
use Rattle.rel_base.proofs.States.{All-listed, All-from}
use Rattle.negative_cover.specs.declared.negative_cover.Witness.{Witness}
use Rattle.negative_cover.specs.Witnesses.{sets_of}
use Rattle.candidate_cover.specs.Lists.{CandLists}
use Rattle.least_sets.specs.Drafts.{Drafted, is_news}
use Rattle.cover_steps.specs.Core.{Core, renewed}
use Rattle.cover_steps.specs.Sound.{IsWitness, Sound}
use Rattle.cover_steps.proofs.Fitting.{Fits-shown}
use Rattle.cover_steps.proofs.Keeping.{Sound-renewed, Follows-itself, cand-least, cand-marked}
use Rattle.negative_cover.specs.declared.negative_cover.Witness.{Witness as Evidence}
use Rattle.cover_steps.specs.Evidences.{IsNews}
use Rattle.cover_core.specs.Waiting.{IsWaiting, IsSought}
use Rattle.cover_core.specs.Judged.{job_for, IsAsked}
use Rattle.cover_core.specs.declared.waiting.Waiting.{Waiting}
use Rattle.cover_core.specs.Kept.{IsBook}
use Rattle.cover_core.specs.Work.{Extends}

pub Extends-itself : (ws : List Witness) → Extends ws ws
Extends-itself ws = ([], sym (append-nil ws))

pub Extends-same : (old new : List Witness) → new ≡ old → Extends old new
Extends-same old new e = ([], e ∙ sym (append-nil old))

All-both : {X : Type 0} (P : X → Type 0) (xs ys : List X) → All P xs → All P ys → All P (xs ++ ys)
All-both P xs ys a b = All-from P (xs ++ ys) (λ x h. at x (Listed-append_cases x xs ys h))
  where
    at : (x : _) → Listed x xs ⊎ Listed x ys → P x
    at x (inl h) = All-listed P x xs a h
    at x (inr h) = All-listed P x ys b h

-- ---- booking
module _ (s : Core) (table : CodeTable) (book : IsBook s table) (more : List Witness) (d : Drafted) (news : IsNews s.rows (length s.candidates.columns) s.witnesses more d) (new : CandLists)
    (made : new ≡ renewed (length s.candidates.columns) d.agree_sets s.candidates) where
  abbrev pub booked_all : Core
  booked_all = record { rows = s.rows; witnesses = s.witnesses ++ more; candidates = new }

  lists : new ≡ renewed (width s.rows) (sets_of (s.witnesses ++ more)) s.candidates
  lists = made ∙ (λ i. renewed (book.sound.columns i) ((news.drafted i).agree_sets) s.candidates)

  pub IsBook-all : (ws : List Witness) → ws ≡ s.witnesses ++ more → IsBook (record { rows = s.rows; witnesses = ws; candidates = new }) table
  IsBook-all ws e = subst (λ (ws : List Witness). IsBook (record { rows = s.rows; witnesses = ws; candidates = new }) table) (sym e) (record {
    sound = subst (λ (c : CandLists). Sound (record { rows = s.rows; witnesses = s.witnesses ++ more; candidates = c })) (sym lists)
        (Sound-renewed s s.rows (s.witnesses ++ more) book.sound book.sound.rows (Follows-itself s.rows)
        (All-both (IsWitness s.rows) s.witnesses more book.sound.witnesses news.witnesses) (news.once book.sound.once));
    table = book.table;
    shows = book.shows;
  })

  pub told-all : (ws : List Witness) → ws ≡ s.witnesses ++ more → (found : List Evidence) → All (λ e. is_news d.width d.agree_sets e.agree ≡ false) found → All (λ e. is_news (width s.rows) (sets_of ws) e.agree ≡ false) found
  told-all ws e found a = All-from (λ (v : Evidence). is_news (width s.rows) (sets_of ws) v.agree ≡ false) found (λ v h. sym (same v.agree) ∙ All-listed (λ (v : Evidence). is_news d.width d.agree_sets v.agree ≡ false) v found a h)
    where
      same : (z : ℕ) → is_news d.width d.agree_sets z ≡ is_news (width s.rows) (sets_of ws) z
      same z = (λ i. is_news ((news.drafted i).width) ((news.drafted i).agree_sets) z) ∙ (λ i. is_news (book.sound.columns i) (sets_of (sym e i)) z)

-- what is news to the state as a caller sees it
pub news-inside : (s now : Core) (table : CodeTable) → IsBook s table → s ≡ now → (more : List Witness) (d : Drafted) → IsNews now.rows (width now.rows) now.witnesses more d → IsNews s.rows (length s.candidates.columns) s.witnesses more d
news-inside s now table book view more d h =
    subst (λ (n : ℕ). IsNews s.rows n s.witnesses more d) (sym book.sound.columns) (subst (λ (m : Core). IsNews m.rows (width m.rows) m.witnesses more d) (sym view) h)

pub news-outside : (s now : Core) (table : CodeTable) → IsBook s table → s ≡ now → (more : List Witness) (d : Drafted) → IsNews s.rows (length s.candidates.columns) s.witnesses more d → IsNews now.rows (width now.rows) now.witnesses more d
news-outside s now table book view more d h =
    subst (λ (m : Core). IsNews m.rows (width m.rows) m.witnesses more d) view (subst (λ (n : ℕ). IsNews s.rows n s.witnesses more d) book.sound.columns h)

-- among rows below the first any dependency holds
holds-below-first : (r : RowState) (x : Columns) (t : Target) → HoldsBelow 1 r x t
holds-below-first r x t = record { each = λ i j _ _ li lj ne _. absurd (ne (omega (arith, li, lj))) }

-- ---- the candidates of a pass
module _ (s : Core) (table : CodeTable) (book : IsBook s table) where
  pub asked-one : (w : Waiting) → IsWaiting s.candidates w → IsAsked s.rows table w
  asked-one w waits =
      let own : IsColumnTarget (width s.rows) w.target = subst (λ (n : ℕ). IsColumnTarget n w.target) book.sound.columns waits.target in
      Fits-shown s.rows (job_for s.rows table w) book.sound.rows book.table book.shows own (cand-least s w.target w.cand book.sound own waits.listed).below refl
      (cand-marked s w.target w.cand book.sound own waits.listed).holds

  pub asked-all : (list : List Waiting) → All (IsWaiting s.candidates) list → All (IsAsked s.rows table) list
  asked-all list all = λ k d l. asked-one (get_or list k d) (all k d l)

  pub sought-all : (list : List Waiting) → All (IsSought (width s.rows)) list → All (IsAsked s.rows table) list
  sought-all list all = λ k d l.
      let w = get_or list k d in
      let q = all k d l in
      Fits-shown s.rows (job_for s.rows table w) book.sound.rows book.table book.shows q.target q.left refl (subst (λ (m : ℕ). HoldsBelow m s.rows w.cand.left w.target) (sym q.fresh) (holds-below-first s.rows w.cand.left w.target))
