-- What a session answers, item by item.
use Rattle.std.proofs.Common.{◌≡◌, ◌∙◌, ◌+◌, ◌<◌, ◌≤◌, ℕ, Bool, cond, true, false, refl, sym, ap, ap₂, zero, suc, ◌^◌, arith, List, [], ◌∷◌, ◌++◌, length, drop, get_or, append_assoc, append-nil, add-one, drop-cons, Result, Ok, Err}
use Rattle.std.specs.List.{All}
use Rattle.rel_base.specs.declared.batch.Op.{Op}
use Rattle.rel_base.specs.declared.batch.Op.TheVariants.{Insert, Delete, Update}
use Rattle.rel_base.specs.declared.why.Why.{Why}
use Rattle.rel_base.specs.declared.why.Why.TheVariants.{Rows, Missing}
use Rattle.rel_base.specs.RowState.{RowState, width}
use Rattle.rel_base.specs.Batches.{after, after_from, applied, deleted, go_on, inserted, is_full, is_live, kept_or_after}
use Rattle.batch_update.specs.Numbers.{IsNumberedTo}
use Rattle.batch_update.specs.Wide.{IsWide}
use Rattle.batch_update.specs.declared.item.Item.{Item}
use Rattle.batch_update.specs.declared.item.Item.TheVariants.{Batch, Bad, Report}
use Rattle.profile_text.specs.Items.{IsAnswerable}
use Rattle.profile_text.specs.Reports.{inclusion_lines, report_of, reports}
use Rattle.profile_text.specs.Session.{answers, item_rows, item_text}

-- ---- a batch leaves the names
applied-names : (r m : RowState) (op : Op) → applied r op ≡ Ok m → m.names ≡ r.names
applied-names r m (Insert row) e = by (is_full r) e
  where
    by : (b : Bool) → cond b (Err Rows) (Ok (inserted r row)) ≡ Ok m → m.names ≡ r.names
    by true e = cc
    by false e = let same : inserted r row ≡ m = cc in sym (ap (λ (s : RowState). s.names) same)
applied-names r m (Delete number) e = by (is_live r number) e
  where
    by : (b : Bool) → cond b (Ok (deleted r number)) (Err Missing) ≡ Ok m → m.names ≡ r.names
    by true e = let same : deleted r number ≡ m = cc in sym (ap (λ (s : RowState). s.names) same)
    by false e = cc
applied-names r m (Update number row) e = by (is_live r number) (is_full r) e
  where
    by : (b c : Bool) → cond b (cond c (Err Rows) (Ok (inserted (deleted r number) row))) (Err Missing) ≡ Ok m → m.names ≡ r.names
    by true true e = cc
    by true false e = let same : inserted (deleted r number) row ≡ m = cc in sym (ap (λ (s : RowState). s.names) same)
    by false c e = cc

names_on : (k : ℕ) (r s : RowState) (op : Op) (ops : List Op) → ((m : RowState) → after_from (k + 1) m ops ≡ Ok s → s.names ≡ m.names)
    → (a : Result RowState Why) → applied r op ≡ a → go_on a k (λ m. after_from (k + 1) m ops) ≡ Ok s → s.names ≡ r.names
names_on k r s op ops more (Ok m) is e = more m e ∙ applied-names r m op is
names_on k r s op ops more (Err why) is e = cc

after-names : (k : ℕ) (r s : RowState) (ops : List Op) → after_from k r ops ≡ Ok s → s.names ≡ r.names
after-names k r s [] e = let same : r ≡ s = cc in sym (ap (λ (m : RowState). m.names) same)
after-names k r s (op ∷ ops) e = names_on k r s op ops (λ m f. after-names (k + 1) m s ops f) (applied r op) refl e

-- ---- where a batch fails
no_end : (r : RowState) (p : ℕ × Why) → Ok r ≡ Err p → ⊥
no_end r p e = cc

fails_on : (k at : ℕ) (why : Why) (ops : List Op) → ((m : RowState) → after_from (k + 1) m ops ≡ Err (at, why) → (k + 1 ≤ at) × (at < k + 1 + length ops))
    → (a : Result RowState Why) → go_on a k (λ m. after_from (k + 1) m ops) ≡ Err (at, why) → (k ≤ at) × (at < k + suc (length ops))
fails_on k at why ops more (Ok m) e = let w = more m e in let a = w.0 in let b = w.1 in (omega arith, omega arith)
fails_on k at why ops more (Err other) e =
    let p : (k, other) ≡ (at, why) = cc in
    let same : k ≡ at = ap (λ (q : ℕ × Why). q.0) p in
    (omega arith, omega arith)

after-fails : (k at : ℕ) (r : RowState) (why : Why) (ops : List Op) → after_from k r ops ≡ Err (at, why) → (k ≤ at) × (at < k + length ops)
after-fails k at r why [] e = absurd (no_end r (at, why) e)
after-fails k at r why (op ∷ ops) e = fails_on k at why ops (λ m f. after-fails (k + 1) at m why ops f) (applied r op) e

pub fails_within : (at : ℕ) (r : RowState) (why : Why) (ops : List Op) → after r ops ≡ Err (at, why) → (1 ≤ at) × (at ≤ length ops)
fails_within at r why ops e = let w = after-fails 1 at r why ops e in let a = w.0 in let b = w.1 in (omega arith, omega arith)

-- ---- an item leaves the width
pub kept-width : (r : RowState) (ops : List Op) (a : Result RowState (ℕ × Why)) → after r ops ≡ a → width (kept_or_after r a) ≡ width r
kept-width r ops (Ok s) is = ap length (after-names 1 r s ops is)
kept-width r ops (Err e) is = refl

pub item-width : (r : RowState) (item : Item) → width (item_rows r item) ≡ width r
item-width r (Batch number first ops) = kept-width r ops (after r ops) refl
item-width r (Bad number rec why) = refl
item-width r Report = refl

-- ---- the answers to several items
pub answers-none : (name : List ℕ) (r : RowState) → answers name r [] ≡ []
unfolding answers
answers-none name r = refl

answers-cons : (name : List ℕ) (r : RowState) (item : Item) (items : List Item) → answers name r (item ∷ items) ≡ item_text name r item ++ answers name (item_rows r item) items
unfolding answers
answers-cons name r item items = refl

pub answers-more : (name : List ℕ) (r r' : RowState) (items : List Item) (i : ℕ) (item : Item) (old new whole : List ℕ) → i < length items → item ≡ get_or items i item
    → new ≡ old ++ item_text name r item → r' ≡ item_rows r item → old ++ answers name r (drop i items) ≡ whole → new ++ answers name r' (drop (i + 1) items) ≡ whole
answers-more name r r' items i item old new whole h at made rows so_far =
    let here : drop i items ≡ item ∷ drop (i + 1) items = rw (add-one, drop-cons items i item) (ap (λ (x : Item). x ∷ drop (suc i) items) (sym at)) in
    ap₂ (λ (t : List ℕ) (s : RowState). t ++ answers name s (drop (i + 1) items)) made rows
    ∙ append_assoc old (item_text name r item) (answers name (item_rows r item) (drop (i + 1) items))
    ∙ ap (λ t. old ++ t) (sym (ap (answers name r) here ∙ answers-cons name r item (drop (i + 1) items)))
    ∙ so_far

drop_whole : {X : Type 0} (i : ℕ) (xs : List X) → length xs ≤ i → drop i xs ≡ []
drop_whole zero [] h = refl
drop_whole zero (x ∷ xs) h = absurd (omega arith)
drop_whole (suc i) [] h = refl
drop_whole (suc i) (x ∷ xs) h = drop_whole i xs (omega arith)

pub answers-whole : (name : List ℕ) (r : RowState) (items : List Item) (i : ℕ) (lines whole : List ℕ) → length items ≤ i → lines ++ answers name r (drop i items) ≡ whole → lines ≡ whole
answers-whole name r items i lines whole h so_far =
    sym (append-nil lines) ∙ ap (λ t. lines ++ t) (sym (ap (answers name r) (drop_whole i items h) ∙ answers-none name r)) ∙ so_far

-- ---- items that can be answered
answerable : (n m : ℕ) (it : Item) → m < 2 ^ 32 → IsNumberedTo m it → IsWide n it → IsAnswerable n it
answerable n m (Batch number first ops) small (some, le, any, last) h = (omega arith, omega arith, h)
answerable n m (Bad number rec why) small (some, le, any, last) h = omega arith
answerable n m Report small numbered h = tt

pub all_answerable : (n m : ℕ) (items : List Item) → m < 2 ^ 32 → All (IsNumberedTo m) items → All (IsWide n) items → All (IsAnswerable n) items
all_answerable n m items small numbered wide k d h = answerable n m (get_or items k d) small (numbered k d h) (wide k d h)

-- ---- the report of one relation, with its inclusions
pub reports-one : (name : List ℕ) (r : RowState) (old middle new : List ℕ) → middle ≡ old ++ report_of name r → new ≡ middle ++ inclusion_lines (r ∷ []) → new ≡ old ++ reports (name ∷ []) (r ∷ [])
unfolding reports
reports-one name r old middle new made more =
    more ∙ ap (λ t. t ++ inclusion_lines (r ∷ [])) (made ∙ ap (λ t. old ++ t) (sym (append-nil (report_of name r)))) ∙ append_assoc old (report_of name r ++ []) (inclusion_lines (r ∷ []))
