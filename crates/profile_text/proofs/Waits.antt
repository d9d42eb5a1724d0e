-- What waits in a session, and how it is answered.
use Rattle.std.proofs.Common.{◌≡◌, ◌∙◌, ◌+◌, ◌<◌, ◌≤◌, ◌^◌, ℕ, suc, refl, sym, ap, ap₂, subst, arith, inl, inr, List, [], ◌∷◌, ◌++◌, length, drop, get_or, append_assoc, append-nil, add-one, drop-cons, Result, Ok, Err}
use Rattle.std.specs.List.{All}
use Rattle.std.proofs.lemmas.List.Elements.{All-append, All-cons, All-tail}
use Rattle.col_set.specs.Lists.{Listed}
use Rattle.col_set.proofs.Places.{Climbs}
use Rattle.rel_base.specs.declared.batch.Op.{Op}
use Rattle.rel_base.specs.declared.why.Why.{Why}
use Rattle.rel_base.specs.RowState.{RowState, IsRowState, next, width}
use Rattle.rel_base.specs.Batches.{after, kept_or_after, insert_count, delete_count, IsAsWide}
use Rattle.rel_base.proofs.Changes.{after-follows}
use Rattle.rel_base.proofs.States.{live_climbs, live_positive, live_numbered}
use Rattle.row_log.proofs.Batch.{DidAll-after, from_state}
use Rattle.row_log.specs.declared.applying.Applying.{Applying}
use Rattle.row_log.specs.declared.applying.Applying.TheVariants.{Applied, Refused}
use Rattle.batch_update.specs.declared.item.Item.{Item}
use Rattle.batch_update.specs.declared.item.Item.TheVariants.{Batch, Bad, Report}
use Rattle.refine_pool.specs.Phases.{answer, answers as answers_of, rows_after_all}
use Rattle.report_text.specs.Outcome.{refused_line}
use Rattle.profile_text.specs.declared.session.Asked.{Asked}
use Rattle.profile_text.specs.declared.session.Asked.TheVariants.{Sound, Faulty}
use Rattle.profile_text.specs.Items.{IsAnswerable}
use Rattle.profile_text.specs.Reports.{reports}
use Rattle.profile_text.specs.Session.{answers, batch_line}
use Rattle.profile_text.specs.Waiting.{waiting, sound_count, text_with, AreWaiting, AreTold, IsReply}
use Rattle.profile_text.proofs.SessionAnswers.{fails_within, kept-width}

-- ---- one item more
waiting-sound : (asked : List Asked) (batches : List (List Op)) (number first : ℕ) (ops : List Op) → sound_count asked ≡ length batches
    → waiting (asked ++ Sound number first ∷ []) (batches ++ ops ∷ []) ≡ waiting asked batches ++ Batch number first ops ∷ []
waiting-sound [] [] number first ops e = refl
waiting-sound [] (b ∷ bs) number first ops e = absurd (omega arith)
waiting-sound (Sound n f ∷ asked) [] number first ops e = absurd (omega arith)
waiting-sound (Sound n f ∷ asked) (b ∷ bs) number first ops e = ap (λ (items : List Item). Batch n f b ∷ items) (waiting-sound asked bs number first ops (omega arith))
waiting-sound (Faulty n rec why ∷ asked) bs number first ops e = ap (λ (items : List Item). Bad n rec why ∷ items) (waiting-sound asked bs number first ops e)

waiting-faulty : (asked : List Asked) (batches : List (List Op)) (number rec : ℕ) (why : Why) → sound_count asked ≡ length batches
    → waiting (asked ++ Faulty number rec why ∷ []) batches ≡ waiting asked batches ++ Bad number rec why ∷ []
waiting-faulty [] [] number rec why e = refl
waiting-faulty [] (b ∷ bs) number rec why e = absurd (omega arith)
waiting-faulty (Sound n f ∷ asked) [] number rec why e = absurd (omega arith)
waiting-faulty (Sound n f ∷ asked) (b ∷ bs) number rec why e = ap (λ (items : List Item). Batch n f b ∷ items) (waiting-faulty asked bs number rec why (omega arith))
waiting-faulty (Faulty n r w ∷ asked) bs number rec why e = ap (λ (items : List Item). Bad n r w ∷ items) (waiting-faulty asked bs number rec why e)

count-sound : (asked : List Asked) (number first : ℕ) → sound_count (asked ++ Sound number first ∷ []) ≡ sound_count asked + 1
count-sound [] number first = refl
count-sound (Sound n f ∷ asked) number first = ap (λ (k : ℕ). k + 1) (count-sound asked number first)
count-sound (Faulty n rec why ∷ asked) number first = count-sound asked number first

count-faulty : (asked : List Asked) (number rec : ℕ) (why : Why) → sound_count (asked ++ Faulty number rec why ∷ []) ≡ sound_count asked
count-faulty [] number rec why = refl
count-faulty (Sound n f ∷ asked) number rec why = ap (λ (k : ℕ). k + 1) (count-faulty asked number rec why)
count-faulty (Faulty n r w ∷ asked) number rec why = count-faulty asked number rec why

length-one : {X : Type 0} (xs : List X) (x : X) → length (xs ++ x ∷ []) ≡ length xs + 1
length-one [] x = refl
length-one (y ∷ xs) x = let e = length-one xs x in omega arith

All-one : {X : Type 0} (P : X → Type 0) (xs : List X) (x : X) → All P xs → P x → All P (xs ++ x ∷ [])
All-one P xs x all p = All-append P xs (x ∷ []) all (All-cons P x [] p (λ k d h. absurd (omega arith)))

pub AreWaiting-sound : (n : ℕ) (asked asked' : List Asked) (batches batches' : List (List Op)) (number first : ℕ) (ops : List Op) → AreWaiting n asked batches → IsAnswerable n (Batch number first ops)
    → asked' ≡ asked ++ Sound number first ∷ [] → batches' ≡ batches ++ ops ∷ [] → AreWaiting n asked' batches'
AreWaiting-sound n asked asked' batches batches' number first ops w h a b =
    let e = w.each in
    let more = count-sound asked number first in
    let longer = length-one batches ops in
    subst (λ (these : List Asked). AreWaiting n these batches') (sym a) (subst (λ (bs : List (List Op)). AreWaiting n (asked ++ Sound number first ∷ []) bs) (sym b) (record {
      each = omega arith;
      answerable = subst (All (IsAnswerable n)) (sym (waiting-sound asked batches number first ops e)) (All-one (IsAnswerable n) (waiting asked batches) (Batch number first ops) w.answerable h);
    }))

pub AreWaiting-faulty : (n : ℕ) (asked asked' : List Asked) (batches : List (List Op)) (number rec : ℕ) (why : Why) → AreWaiting n asked batches → IsAnswerable n (Bad number rec why)
    → asked' ≡ asked ++ Faulty number rec why ∷ [] → AreWaiting n asked' batches
AreWaiting-faulty n asked asked' batches number rec why w h a =
    subst (λ (these : List Asked). AreWaiting n these batches) (sym a) (record {
      each = count-faulty asked number rec why ∙ w.each;
      answerable = subst (All (IsAnswerable n)) (sym (waiting-faulty asked batches number rec why w.each)) (All-one (IsAnswerable n) (waiting asked batches) (Bad number rec why) w.answerable h);
    })

pub AreWaiting-none : (n : ℕ) (asked : List Asked) (batches : List (List Op)) → asked ≡ [] → batches ≡ [] → AreWaiting n asked batches
AreWaiting-none n asked batches a b =
    subst (λ (these : List Asked). AreWaiting n these batches) (sym a) (subst (AreWaiting n []) (sym b) (record { each = refl; answerable = λ k d h. absurd (omega arith) }))

text_more : (name lines : List ℕ) (r : RowState) (asked asked' : List Asked) (batches batches' : List (List Op)) (item : Item) (more : List Item)
    → waiting asked' batches' ≡ waiting asked batches ++ item ∷ [] → text_with name lines r asked' batches' more ≡ text_with name lines r asked batches (item ∷ more)
text_more name lines r asked asked' batches batches' item more e =
    ap (λ (items : List Item). lines ++ answers name r items) (ap (λ (items : List Item). items ++ more) e ∙ append_assoc (waiting asked batches) (item ∷ []) more)

pub text-sound : (name lines : List ℕ) (r : RowState) (n : ℕ) (asked asked' : List Asked) (batches batches' : List (List Op)) (number first : ℕ) (ops : List Op) (more : List Item) → AreWaiting n asked batches
    → asked' ≡ asked ++ Sound number first ∷ [] → batches' ≡ batches ++ ops ∷ [] → text_with name lines r asked' batches' more ≡ text_with name lines r asked batches (Batch number first ops ∷ more)
text-sound name lines r n asked asked' batches batches' number first ops more w a b =
    text_more name lines r asked asked' batches batches' (Batch number first ops) more (ap₂ waiting a b ∙ waiting-sound asked batches number first ops w.each)

pub text-faulty : (name lines : List ℕ) (r : RowState) (n : ℕ) (asked asked' : List Asked) (batches : List (List Op)) (number rec : ℕ) (why : Why) (more : List Item) → AreWaiting n asked batches
    → asked' ≡ asked ++ Faulty number rec why ∷ [] → text_with name lines r asked' batches more ≡ text_with name lines r asked batches (Bad number rec why ∷ more)
text-faulty name lines r n asked asked' batches number rec why more w a =
    text_more name lines r asked asked' batches batches (Bad number rec why) more (ap (λ (these : List Asked). waiting these batches) a ∙ waiting-faulty asked batches number rec why w.each)

-- ---- all that waits
answers-waiting : (name : List ℕ) (r : RowState) (asked : List Asked) (batches : List (List Op)) (more : List Item) → sound_count asked ≡ length batches
    → answers name r (waiting asked batches ++ more) ≡ answers name r (waiting asked batches) ++ answers name (rows_after_all r batches) more
unfolding answers
answers-waiting name r [] [] more e = refl
answers-waiting name r [] (b ∷ bs) more e = absurd (omega arith)
answers-waiting name r (Sound n f ∷ asked) [] more e = absurd (omega arith)
answers-waiting name r (Sound n f ∷ asked) (b ∷ bs) more e =
    let s : RowState = kept_or_after r (after r b) in
    let line : List ℕ = batch_line n f b (after r b) in
    ap (λ (t : List ℕ). line ++ t) (answers-waiting name s asked bs more (omega arith))
    ∙ sym (append_assoc line (answers name s (waiting asked bs)) (answers name (rows_after_all s bs) more))
answers-waiting name r (Faulty n rec why ∷ asked) bs more e =
    let line : List ℕ = refused_line n rec why in
    ap (λ (t : List ℕ). line ++ t) (answers-waiting name r asked bs more e)
    ∙ sym (append_assoc line (answers name r (waiting asked bs)) (answers name (rows_after_all r bs) more))

pub text-answered : (name lines lines' : List ℕ) (r r' : RowState) (n : ℕ) (asked : List Asked) (batches : List (List Op)) (more : List Item) → AreWaiting n asked batches
    → lines' ≡ lines ++ answers name r (waiting asked batches) → r' ≡ rows_after_all r batches → text_with name lines' r' [] [] more ≡ text_with name lines r asked batches more
text-answered name lines lines' r r' n asked batches more w made rows =
    ap₂ (λ (t : List ℕ) (s : RowState). t ++ answers name s more) made rows
    ∙ append_assoc lines (answers name r (waiting asked batches)) (answers name (rows_after_all r batches) more)
    ∙ ap (λ (t : List ℕ). lines ++ t) (sym (answers-waiting name r asked batches more w.each))

pub text-start : (name lines : List ℕ) (r : RowState) (asked : List Asked) (batches : List (List Op)) (items : List Item) → lines ≡ [] → asked ≡ [] → batches ≡ []
    → text_with name lines r asked batches items ≡ answers name r items
text-start name lines r asked batches items l a b =
    ap₂ (λ (t : List ℕ) (w : List Item). t ++ answers name r (w ++ items)) l (ap₂ waiting a b)

-- a report behind what was answered
pub text-reported : (name lines lines' : List ℕ) (r r' : RowState) (asked : List Asked) (batches : List (List Op)) (more : List Item) (whole : List ℕ)
    → lines' ≡ lines ++ reports (name ∷ []) (r ∷ []) → r' ≡ r → asked ≡ [] → batches ≡ [] → text_with name lines r [] [] (Report ∷ more) ≡ whole → text_with name lines' r' asked batches more ≡ whole
unfolding answers
text-reported name lines lines' r r' asked batches more whole made rows a b e =
    ap₂ (λ (s : RowState) (w : List Item). lines' ++ answers name s (w ++ more)) rows (ap₂ waiting a b)
    ∙ ap (λ (t : List ℕ). t ++ answers name r more) made
    ∙ append_assoc lines (reports (name ∷ []) (r ∷ [])) (answers name r more)
    ∙ e

pub text-nothing : (name lines : List ℕ) (r : RowState) → text_with name lines r [] [] [] ≡ lines
unfolding answers
text-nothing name lines r = append-nil lines

pub answers-end : (name lines : List ℕ) (r : RowState) (asked : List Asked) (batches : List (List Op)) → lines ++ answers name r (waiting asked batches) ≡ text_with name lines r asked batches []
answers-end name lines r asked batches = ap (λ (items : List Item). lines ++ answers name r items) (sym (append-nil (waiting asked batches)))

batches_wide : (n : ℕ) (asked : List Asked) (batches : List (List Op)) → sound_count asked ≡ length batches → All (IsAnswerable n) (waiting asked batches) → All (All (IsAsWide n)) batches
batches_wide n [] [] e all = λ k d h. absurd (omega arith)
batches_wide n [] (b ∷ bs) e all = absurd (omega arith)
batches_wide n (Sound number f ∷ asked) [] e all = λ k d h. absurd (omega arith)
batches_wide n (Sound number f ∷ asked) (b ∷ bs) e all =
    let first : IsAnswerable n (Batch number f b) = all 0 (Batch number f b) (omega arith) in
    All-cons (All (IsAsWide n)) b bs first.2 (batches_wide n asked bs (omega arith) (All-tail (IsAnswerable n) (Batch number f b) (waiting asked bs) all))
batches_wide n (Faulty number rec why ∷ asked) bs e all = batches_wide n asked bs e (All-tail (IsAnswerable n) (Bad number rec why) (waiting asked bs) all)

pub AreWaiting-wide : (n : ℕ) (asked : List Asked) (batches : List (List Op)) → AreWaiting n asked batches → All (All (IsAsWide n)) batches
AreWaiting-wide n asked batches w = batches_wide n asked batches w.each w.answerable

pub width-after_all : (r : RowState) (batches : List (List Op)) → width (rows_after_all r batches) ≡ width r
width-after_all r [] = refl
width-after_all r (ops ∷ batches) = width-after_all (kept_or_after r (after r ops)) batches ∙ kept-width r ops (after r ops) refl

-- ---- a batch and its reply
kept-state : (r : RowState) (ops : List Op) (a : Result RowState (ℕ × Why)) → after r ops ≡ a → IsRowState r → All (IsAsWide (width r)) ops → IsRowState (kept_or_after r a)
kept-state r ops (Ok s) is state wide = (after-follows 1 r s ops state wide is).0
kept-state r ops (Err e) is state wide = state

climbs_within : (a b : ℕ) (xs : List ℕ) → Climbs xs → ((y : ℕ) → Listed y xs → (a ≤ y) × (y < b)) → a ≤ b → a + length xs ≤ b
climbs_within a b [] c f h = omega arith
climbs_within a b (x ∷ xs) c f h =
    let w = f x (inl refl) in
    let low = w.0 in
    let high = w.1 in
    let rest = climbs_within (x + 1) b xs c.1 (λ y l. (let above = c.0 y l in omega arith, (f y (inr l)).1)) (omega arith) in
    omega arith

few_live : (r : RowState) → IsRowState r → length r.live ≤ length r.given
few_live r is =
    let all = climbs_within 1 (next r) r.live (live_climbs r is) (λ y l. (let p = live_positive r y is l in omega arith, live_numbered r y is l)) (omega arith) in
    omega arith

-- the sums that lead from the live rows before a batch to those after it fit
pub record AddsUp (r : RowState) (ops : List Op) (inserted deleted live : ℕ) : Type 0 where
  pub rows : RowState
  pub after_is : after r ops ≡ Ok rows
  pub inserts : inserted ≡ insert_count ops
  pub deletes : deleted ≡ delete_count ops
  pub live_is : length rows.live + deleted ≡ live + inserted
  pub fits : live + inserted < 2 ^ 32

pub adds_up : (first : ℕ) (r : RowState) (ops : List Op) (inserted deleted live : ℕ) → IsReply first r ops (Applied inserted deleted) live → AddsUp r ops inserted deleted live
adds_up first r ops inserted deleted live h = by (after r ops) refl h.reply_is
  where
    by : (a : Result RowState (ℕ × Why)) → after r ops ≡ a → Applied inserted deleted ≡ answer ops a → AddsUp r ops inserted deleted live
    by (Ok s) is e =
        let i : inserted ≡ insert_count ops = cc in
        let d : deleted ≡ delete_count ops = cc in
        let did = DidAll-after 1 r s ops (from_state r h.rows) is in
        let came = did.came in
        let ended = did.ended in
        let state = (after-follows 1 r s ops h.rows h.wide is).0 in
        let short = state.short in
        let few = few_live r h.rows in
        let same = h.live_is in
        record { rows = s; after_is = is; inserts = i; deletes = d; live_is = omega arith; fits = omega arith }
    by (Err failed) is e = absurd (cc)

pub refused_at : (first : ℕ) (r : RowState) (ops : List Op) (at : ℕ) (why : Why) (live : ℕ) → IsReply first r ops (Refused at why) live → (after r ops ≡ Err (at, why)) × (1 ≤ at) × (at ≤ length ops)
refused_at first r ops at why live h = by (after r ops) refl h.reply_is
  where
    by : (a : Result RowState (ℕ × Why)) → after r ops ≡ a → Refused at why ≡ answer ops a → (after r ops ≡ Err (at, why)) × (1 ≤ at) × (at ≤ length ops)
    by (Ok s) is e = absurd (cc)
    by (Err (k, cause)) is e =
        let same : k ≡ at = cc in
        let also : cause ≡ why = cc in
        let failed : after r ops ≡ Err (at, why) = is ∙ (λ i. Err (same i, also i)) in
        let within = fails_within at r why ops failed in
        (failed, within.0, within.1)

-- ---- the answers, one after another
-- the first of what waits is a batch: it got the first reply, and the others wait behind it
pub record IsNext (r : RowState) (batches : List (List Op)) (number first : ℕ) (asked : List Asked) (reply : Applying) (later : List Applying) (live : ℕ) : Type 0 where
  pub ops : List Op
  pub others : List (List Op)
  pub batches_are : batches ≡ ops ∷ others
  pub reply_is : IsReply first r ops reply live
  pub told : (now : ℕ) → now ≡ length (kept_or_after r (after r ops)).live → AreTold (kept_or_after r (after r ops)) others asked later now

pub next_reply : (r : RowState) (batches : List (List Op)) (number first : ℕ) (asked : List Asked) (replies : List Applying) (reply : Applying) (later : List Applying) (live : ℕ)
    → AreTold r batches (Sound number first ∷ asked) replies live → replies ≡ reply ∷ later → IsNext r batches number first asked reply later live
next_reply r [] number first asked replies reply later live t e = let each = t.are_waiting.each in absurd (omega arith)
next_reply r (ops ∷ others) number first asked replies reply later live t e =
    let each = t.are_waiting.each in
    let all = t.are_waiting.answerable in
    let h : IsAnswerable (width r) (Batch number first ops) = all 0 (Batch number first ops) (omega arith) in
    let both : reply ∷ later ≡ answer ops (after r ops) ∷ answers_of (kept_or_after r (after r ops)) others = sym e ∙ t.replies_are in
    let s : RowState = kept_or_after r (after r ops) in
    record {
      ops = ops;
      others = others;
      batches_are = refl;
      reply_is = record { rows = t.rows; live_is = t.live_is; wide = h.2; short = h.1; reply_is = cc };
      told = λ now is. record {
        rows = kept-state r ops (after r ops) refl t.rows h.2;
        live_is = is;
        replies_are = cc;
        are_waiting = subst (λ (n : ℕ). AreWaiting n asked others) (sym (kept-width r ops (after r ops) refl))
            (record { each = omega arith; answerable = All-tail (IsAnswerable (width r)) (Batch number first ops) (waiting asked others) all });
      };
    }

pub no_reply : (r : RowState) (batches : List (List Op)) (number first : ℕ) (asked : List Asked) (replies : List Applying) (live : ℕ) → AreTold r batches (Sound number first ∷ asked) replies live → length replies ≡ 0 → ⊥
no_reply r [] number first asked replies live t e = let each = t.are_waiting.each in omega arith
no_reply r (ops ∷ others) number first asked replies live t e = let some = ap length t.replies_are in omega arith

past_faulty : (r : RowState) (batches : List (List Op)) (number rec : ℕ) (why : Why) (asked : List Asked) (replies : List Applying) (live : ℕ) → AreTold r batches (Faulty number rec why ∷ asked) replies live
    → AreTold r batches asked replies live
past_faulty r batches number rec why asked replies live t = record {
  rows = t.rows;
  live_is = t.live_is;
  replies_are = t.replies_are;
  are_waiting = record { each = t.are_waiting.each; answerable = All-tail (IsAnswerable (width r)) (Bad number rec why) (waiting asked batches) t.are_waiting.answerable };
}

pub told_by : (r : RowState) (asked these : List Asked) (batches : List (List Op)) (replies those : List Applying) (live : ℕ) → IsRowState r → live ≡ length r.live → AreWaiting (width r) asked batches
    → replies ≡ answers_of r batches → these ≡ asked → those ≡ replies → AreTold r batches these those live
told_by r asked these batches replies those live state is w e f g =
    subst (λ (as_asked : List Asked). AreTold r batches as_asked those live) (sym f)
    (subst (λ (as_replied : List Applying). AreTold r batches asked as_replied live) (sym g) (record { rows = state; live_is = is; replies_are = e; are_waiting = w }))

-- some rows and batches are left to be told of, and the lines so far with what these are answered are the whole
pub record IsTelling (asked : List Asked) (replies : List Applying) (live : ℕ) (lines : List ℕ) (whole : List ℕ → List ℕ) : Type 0 where
  pub r : RowState
  pub batches : List (List Op)
  pub told : AreTold r batches asked replies live
  pub text : (name : List ℕ) → lines ++ answers name r (waiting asked batches) ≡ whole name

pub telling-sound : (number first : ℕ) (asked : List Asked) (replies : List Applying) (reply : Applying) (later : List Applying) (live now : ℕ) (lines lines' : List ℕ) (whole : List ℕ → List ℕ)
    → replies ≡ reply ∷ later
    → ((r : RowState) (ops : List Op) → IsReply first r ops reply live → lines' ≡ lines ++ batch_line number first ops (after r ops))
    → ((r : RowState) (ops : List Op) → IsReply first r ops reply live → now ≡ length (kept_or_after r (after r ops)).live)
    → IsTelling (Sound number first ∷ asked) replies live lines whole → IsTelling asked later now lines' whole
unfolding answers
telling-sound number first asked replies reply later live now lines lines' whole e made living t =
    let n = next_reply t.r t.batches number first asked replies reply later live t.told e in
    let s : RowState = kept_or_after t.r (after t.r n.ops) in
    let line : List ℕ = batch_line number first n.ops (after t.r n.ops) in
    record {
      r = s;
      batches = n.others;
      told = n.told now (living t.r n.ops n.reply_is);
      text = λ name. ap (λ (u : List ℕ). u ++ answers name s (waiting asked n.others)) (made t.r n.ops n.reply_is)
          ∙ append_assoc lines line (answers name s (waiting asked n.others))
          ∙ ap (λ (bs : List (List Op)). lines ++ answers name t.r (waiting (Sound number first ∷ asked) bs)) (sym n.batches_are)
          ∙ t.text name;
    }

pub telling-faulty : (number rec : ℕ) (why : Why) (asked : List Asked) (replies : List Applying) (live : ℕ) (lines lines' : List ℕ) (whole : List ℕ → List ℕ)
    → lines' ≡ lines ++ refused_line number rec why → IsTelling (Faulty number rec why ∷ asked) replies live lines whole → IsTelling asked replies live lines' whole
unfolding answers
telling-faulty number rec why asked replies live lines lines' whole made t = record {
  r = t.r;
  batches = t.batches;
  told = past_faulty t.r t.batches number rec why asked replies live t.told;
  text = λ name. ap (λ (u : List ℕ). u ++ answers name t.r (waiting asked t.batches)) made
      ∙ append_assoc lines (refused_line number rec why) (answers name t.r (waiting asked t.batches))
      ∙ t.text name;
}

pub telling-none : (asked : List Asked) (replies : List Applying) (live : ℕ) (lines : List ℕ) (whole : List ℕ → List ℕ) → asked ≡ [] → IsTelling asked replies live lines whole → (name : List ℕ) → lines ≡ whole name
unfolding answers
telling-none [] replies live lines whole e t name = sym (append-nil lines) ∙ t.text name
telling-none (a ∷ asked) replies live lines whole e t name = absurd (cc)

pub telling-same : (asked : List Asked) (replies replies' : List Applying) (live live' : ℕ) (lines lines' : List ℕ) (whole : List ℕ → List ℕ) → replies' ≡ replies → live' ≡ live → lines' ≡ lines
    → IsTelling asked replies live lines whole → IsTelling asked replies' live' lines' whole
telling-same asked replies replies' live live' lines lines' whole e f g t =
    subst (λ (rs : List Applying). IsTelling asked rs live' lines' whole) (sym e) (subst (λ (n : ℕ). IsTelling asked replies n lines' whole) (sym f) (subst (λ (text : List ℕ). IsTelling asked replies live text whole) (sym g) t))

-- what is left of a list from a place on
pub from_place : {X : Type 0} (xs : List X) (i : ℕ) (d x : X) → i < length xs → get_or xs i d ≡ x → drop i xs ≡ x ∷ drop (i + 1) xs
from_place {X} xs i d x h e = rw (add-one, drop-cons xs i d) (ap (λ (y : X). y ∷ drop (suc i) xs) e)
