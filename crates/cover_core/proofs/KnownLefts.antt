-- Left sides that hold in the rows before the new ones, and candidates that contain them.
use Rattle.std.proofs.Common.{inl, inr, ◌≡◌, ◌⊎◌, ℕ, ◌<◌, ◌≤◌, true, false, refl, sym, ◌∙◌, subst, List, ◌&&◌, ◌||◌, nat_lt, nat_le}
use Rattle.std.specs.List.{All, Contains, list_any}
use Rattle.std.proofs.lemmas.Bool.{leb-true, and_parts, or_cases}
use Rattle.col_set.specs.declared.target.Target.{Target}
use Rattle.col_set.specs.ColSet.{Columns, subset}
use Rattle.col_set.specs.Target.{IsColumnTarget}
use Rattle.col_set.specs.Subsets.{subset-true}
use Rattle.col_set.specs.Lists.{Listed, list_any_which}
use Rattle.rel_base.specs.CodeTable.{CodeTable}
use Rattle.rel_base.specs.RowState.{RowState, width}
use Rattle.rel_base.specs.Validity.{agree_of, HoldsBelow}
use Rattle.rel_base.proofs.Shown.{holds_in-shown}
use Rattle.rel_base.proofs.Valid.{holds-true}
use Rattle.rel_base.proofs.States.{All-listed, All-from, live_climbs}
use Rattle.negative_cover.specs.declared.negative_cover.Witness.{Witness}
use Rattle.negative_cover.specs.Witnesses.{sets_of}
use Rattle.least_sets.specs.Drafts.{is_news}
use Rattle.candidate_cover.specs.declared.cand.Cand.{Cand}
use Rattle.candidate_cover.specs.Lists.{CandLists}
use Rattle.candidate_cover.specs.Cands.{cands_of, width as width_of}
use Rattle.cover_steps.specs.Core.{Core}
use Rattle.cover_steps.proofs.Keeping.{cand-marked}
use Rattle.cover_steps.specs.Evidences.{IsAllTold}
use Rattle.cover_core.specs.Judged.{IsHeld}
use Rattle.cover_core.specs.Kept.{IsBook}
use Rattle.cover_core.specs.KnownLefts.{IsKnownLeft, AreKnownLefts, AreTrueLefts, IsInside, IsKnownBy}
use Rattle.cover_core.specs.declared.known_lefts.KnownLefts.{KnownLefts}
use Rattle.cover_core.specs.declared.waiting.Waiting.{Waiting}
use Rattle.cover_core.proofs.Complete.{below_less, below_more, stands}
use Rattle.cover_core.proofs.Passes.{asked-one}

-- the left sides of candidates that are known to hold do
pub known_hold : (s now : Core) (table : CodeTable) (from : ℕ) → IsBook s table → s ≡ now → (lists : List KnownLefts) → All (AreKnownLefts s.candidates from) lists → All (AreTrueLefts now.rows from) lists
known_hold s now table from book view lists are = subst (λ (m : Core). All (AreTrueLefts m.rows from) lists) view (All-from (AreTrueLefts s.rows from) lists (λ known h. one known (All-listed (AreKnownLefts s.candidates from) known lists are h)))
  where
    one : (known : KnownLefts) → AreKnownLefts s.candidates from known → AreTrueLefts s.rows from known
    one known k =
        let target : IsColumnTarget (width s.rows) known.target = subst (λ (n : ℕ). IsColumnTarget n known.target) book.sound.columns k.target in
        record {
          target = target;
          each = All-from (λ x. HoldsBelow from s.rows x known.target) known.lefts.items (λ x g.
              let l : IsKnownLeft (cands_of s.candidates known.target) from x = All-listed (IsKnownLeft (cands_of s.candidates known.target) from) x known.lefts.items k.each g in
              subst (λ (y : ℕ). HoldsBelow from s.rows y known.target) l.left (below_less s.rows l.cand.left known.target from l.cand.upto l.upto (cand-marked s known.target l.cand book.sound target l.listed).holds));
        }

-- the target of such a list is one of the candidates
pub known_target : (s now : Core) (table : CodeTable) (from : ℕ) → IsBook s table → s ≡ now → (known : KnownLefts) → AreTrueLefts now.rows from known → IsColumnTarget (width_of s.candidates) known.target
known_target s now table from book view known hold = subst (λ (n : ℕ). IsColumnTarget n known.target) (sym book.sound.columns) (subst (λ (m : Core). AreTrueLefts m.rows from known) (sym view) hold).target

-- a candidate of which it was found that it is known
pub known_found : (c : CandLists) (from next : ℕ) (known : KnownLefts) (cand : Cand) (places near : ℕ) → IsColumnTarget (width_of c) known.target → Listed cand (cands_of c known.target)
    → (nat_lt cand.upto next && (nat_le from cand.upto || list_any (λ y. subset y cand.left) known.lefts.items)) ≡ true → IsKnownBy c from known (record { places = places; target = known.target; near = near; cand = cand })
known_found c from next known cand places near target listed e = record {
  waits = record { target = target; listed = listed };
  below = elim (or_cases (nat_le from cand.upto) _ (and_parts (nat_lt cand.upto next) _ e).1) as (λ _. (from ≤ cand.upto) ⊎ IsInside (record { places = places; target = known.target; near = near; cand = cand }) known) [
    | inl f ↦ inl (leb-true from cand.upto f)
    | inr f ↦ inr (let w = list_any_which (λ y. subset y cand.left) known.lefts.items f in record { target = refl; left = w.0; listed = w.1; inside = subset-true w.2 })
  ];
}

-- what is told does not depend on the candidates
pub told_same : (s now : Core) (from : ℕ) → now.rows ≡ s.rows → now.witnesses ≡ s.witnesses → IsAllTold s from → IsAllTold now from
told_same s now from rows witnesses told = record {
  each = subst (λ (r : RowState). (i j : ℕ) → Contains r.live i → Contains r.live j → i < j → from ≤ j → is_news (width r) (sets_of now.witnesses) (agree_of r i j) ≡ false) (sym rows)
      (subst (λ (ws : List Witness). (i j : ℕ) → Contains s.rows.live i → Contains s.rows.live j → i < j → from ≤ j → is_news (width s.rows) (sets_of ws) (agree_of s.rows i j) ≡ false) (sym witnesses) told.each);
}

-- what is known to hold below the number from which on all pairs are told holds
pub held_by : (s now : Core) (table shown : CodeTable) (from : ℕ) → IsBook s table → s ≡ now → shown ≡ table → IsAllTold now from → (known : KnownLefts) → AreTrueLefts now.rows from known
    → (list : List Waiting) → All (IsKnownBy s.candidates from known) list → All (IsHeld now.rows shown) list
held_by s now table shown from book view same all known hold list are = subst (λ (m : Core). All (IsHeld m.rows shown) list) view (subst (λ (u : CodeTable). All (IsHeld s.rows u) list) (sym same)
    (All-from (IsHeld s.rows table) list (λ w h. held w (All-listed (IsKnownBy s.candidates from known) w list are h))))
  where
    told : IsAllTold s from
    told = subst (λ (m : Core). IsAllTold m from) (sym view) all

    here : AreTrueLefts s.rows from known
    here = subst (λ (m : Core). AreTrueLefts m.rows from known) (sym view) hold

    within : (w : Waiting) → IsInside w known → HoldsBelow from s.rows w.cand.left w.target
    within w i = subst (λ (t : Target). HoldsBelow from s.rows w.cand.left t) i.target
        (below_more s.rows w.cand.left i.left known.target from i.inside (All-listed (λ (x : Columns). HoldsBelow from s.rows x known.target) i.left known.lefts.items here.each i.listed))

    held : (w : Waiting) → IsKnownBy s.candidates from known w → IsHeld s.rows table w
    held w by =
        let own : IsColumnTarget (width s.rows) w.target = subst (λ (n : ℕ). IsColumnTarget n w.target) book.sound.columns by.waits.target in
        let below : HoldsBelow from s.rows w.cand.left w.target = elim by.below as (λ _. HoldsBelow from s.rows w.cand.left w.target) [
          | inl m ↦ below_less s.rows w.cand.left w.target from w.cand.upto m (cand-marked s w.target w.cand book.sound own by.waits.listed).holds
          | inr i ↦ within w i
        ] in
        record {
          fits = asked-one s table book w by.waits;
          holds = holds_in-shown table s.rows book.sound.rows book.shows w.cand.left w.target ∙ holds-true s.rows w.cand.left w.target (live_climbs s.rows book.sound.rows) (stands s table book from told w.target w.cand own by.waits.listed below);
        }
