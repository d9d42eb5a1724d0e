-- Batches one operation at a time: what the last one did, what is left of one that fails, and how many rows come and end.
use Rattle.std.proofs.Common.{inl, inr, ◌≡◌, ◌⊎◌, ℕ, suc, ◌+◌, ◌-◌, ◌<◌, ◌≤◌, Bool, true, false, cond, not, eqb, refl, sym, ap, ap₂, ◌∙◌, subst, arith, List, [], ◌∷◌, ◌++◌, length, take, drop, get_or, Result, Ok, Err}
use Rattle.std.specs.List.{All, filter, count_by}
use Rattle.std.proofs.lemmas.Bool.{ne_eqb}
use Rattle.std.proofs.lemmas.List.{length_push, length-take-le, take_more, take_all, take-append-drop, drop_more}
use Rattle.std.proofs.lemmas.List.Sums.{sum_by-cons}
use Rattle.col_set.specs.Lists.{Listed, Listed-append_cases, Listed-filter_parts}
use Rattle.col_set.proofs.Places.{Climbs, Climbs-increasing}
use Rattle.rel_base.specs.declared.batch.Op.{Op}
use Rattle.rel_base.specs.declared.batch.Op.TheVariants.{Insert, Delete, Update}
use Rattle.rel_base.specs.declared.why.Why.{Why}
use Rattle.rel_base.specs.declared.why.Why.TheVariants.{Rows, Missing}
use Rattle.rel_base.specs.Cells.{Row}
use Rattle.rel_base.specs.RowState.{RowState, IsRowState, next, width}
use Rattle.rel_base.specs.Batches.{is_live, is_full, inserted, deleted, applied, go_on, after_from, after, is_insert, is_delete, insert_count, delete_count}
use Rattle.rel_base.proofs.States.{All-listed, All-from, increasing-Climbs, Climbs-append}
use Rattle.rel_base.proofs.Valid.{Climbs-filter}
use Rattle.rel_base.proofs.Results.{same_Ok, refused_or, passed_or}
use Rattle.rel_base.specs.Batches.{IsAsWide}
use Rattle.row_log.specs.declared.applying.Applying.{Applying}
use Rattle.row_log.specs.declared.applying.Halt.{Halt}
use Rattle.row_log.specs.declared.applying.Halt.TheVariants.{Failed, Starved}
use Rattle.row_log.specs.Applying.{Answers, Outcome, IsNumbered, LeadsFrom, IsFrom, CameLast, IsEnded}
use Rattle.row_log.specs.Halting.{answer_at}
use Rattle.row_log.proofs.Changing.{is_live-Listed, length-without}

pub from_state : (r : RowState) → IsRowState r → IsNumbered r
from_state r is = record { ascending = is.ascending; positive = is.positive; numbered = is.numbered }

-- ---- one operation
module _ (r : RowState) (is : IsNumbered r) where
  climbs : Climbs r.live
  climbs = Climbs-increasing r.live is.ascending

  above : (i : ℕ) → Listed i r.live → 0 < i
  above i h = All-listed (λ (number : ℕ). 0 < number) i r.live is.positive h

  pub below_next : (i : ℕ) → Listed i r.live → i < next r
  below_next i h = All-listed (λ (number : ℕ). number < next r) i r.live is.numbered h

  IsNumbered-inserted : (row : Row) → IsNumbered (inserted r row)
  IsNumbered-inserted row = record {
    ascending = increasing-Climbs (inserted r row).live (Climbs-append r.live (next r) climbs below_next);
    positive = All-from (λ (number : ℕ). 0 < number) (inserted r row).live (λ i h. positive i (Listed-append_cases i r.live (next r ∷ []) h));
    numbered = All-from (λ (number : ℕ). number < next (inserted r row)) (inserted r row).live (λ i h. numbered i (Listed-append_cases i r.live (next r ∷ []) h));
  }
    where
      last_is : (i : ℕ) → Listed i (next r ∷ []) → i ≡ next r
      last_is i (inl e) = e
      last_is i (inr h) = absurd h

      positive : (i : ℕ) → Listed i r.live ⊎ Listed i (next r ∷ []) → 0 < i
      positive i (inl h) = above i h
      positive i (inr h) = let e = last_is i h in omega arith

      numbered : (i : ℕ) → Listed i r.live ⊎ Listed i (next r ∷ []) → i < next (inserted r row)
      numbered i (inl h) = let l = below_next i h in let p = length_push r.given row in omega arith
      numbered i (inr h) = let l = last_is i h in let p = length_push r.given row in omega arith

  IsNumbered-deleted : (gone : ℕ) → IsNumbered (deleted r gone)
  IsNumbered-deleted gone = record {
    ascending = increasing-Climbs (deleted r gone).live (Climbs-filter (λ i. not (eqb gone i)) r.live climbs);
    positive = All-from (λ (number : ℕ). 0 < number) (deleted r gone).live (λ i h. above i (Listed-filter_parts (λ i. not (eqb gone i)) i r.live h).0);
    numbered = All-from (λ (number : ℕ). number < next r) (deleted r gone).live (λ i h. below_next i (Listed-filter_parts (λ i. not (eqb gone i)) i r.live h).0);
  }

  count-deleted : (gone : ℕ) → is_live r gone ≡ true → length (deleted r gone).live + 1 ≡ length r.live
  count-deleted gone e = length-without gone r.live climbs (is_live-Listed r gone e)

-- what an operation that was applied did
pub record Did (r s : RowState) (op : Op) : Type 0 where
  pub is : IsNumbered s
  pub names : s.names ≡ r.names
  pub came : length s.given ≡ length r.given + cond (is_insert op) 1 0
  pub ended : length s.live + cond (is_delete op) 1 0 ≡ length r.live + cond (is_insert op) 1 0

pub Did-applied : (r s : RowState) (op : Op) → IsNumbered r → applied r op ≡ Ok s → Did r s op
Did-applied r s (Insert row) is e =
    let w = refused_or (is_full r) Rows (inserted r row) s e in
    subst (λ (s : RowState). Did r s (Insert row)) w.1
    (record { is = IsNumbered-inserted r is row; names = refl; came = length_push r.given row; ended = let p = length_push r.live (next r) in omega arith })
Did-applied r s (Delete gone) is e =
    let w = passed_or (is_live r gone) Missing (Ok (deleted r gone)) s e in
    subst (λ (s : RowState). Did r s (Delete gone)) (same_Ok w.1)
    (record { is = IsNumbered-deleted r is gone; names = refl; came = omega arith; ended = let c = count-deleted r is gone w.0 in omega arith })
Did-applied r s (Update gone row) is e =
    let v = passed_or (is_live r gone) Missing (cond (is_full r) (Err Rows) (Ok (inserted (deleted r gone) row))) s e in
    let w = refused_or (is_full r) Rows (inserted (deleted r gone) row) s v.1 in
    subst (λ (s : RowState). Did r s (Update gone row)) w.1 (record {
      is = IsNumbered-inserted (deleted r gone) (IsNumbered-deleted r is gone) row;
      names = refl;
      came = length_push r.given row;
      ended = let c = count-deleted r is gone v.0 in let p = length_push (deleted r gone).live (next r) in omega arith;
    })

-- an update is an insert and then the end of the old row
filter-append : (p : ℕ → Bool) (xs : List ℕ) (x : ℕ) → p x ≡ true → filter p (xs ++ x ∷ []) ≡ filter p xs ++ x ∷ []
filter-append p [] x e = ap (λ (b : Bool). let l : List ℕ = cond b (x ∷ []) [] in l) e
filter-append p (y ∷ xs) x e = by (p y) (filter-append p xs x e)
  where
    by : (b : Bool) → filter p (xs ++ x ∷ []) ≡ filter p xs ++ x ∷ [] → cond b (y ∷ filter p (xs ++ x ∷ [])) (filter p (xs ++ x ∷ [])) ≡ cond b (y ∷ filter p xs) (filter p xs) ++ x ∷ []
    by true h = ap (λ (ys : List ℕ). y ∷ ys) h
    by false h = h

pub updated : (r s t : RowState) (number : ℕ) (row : Row) → number < next r → is_live r number ≡ true → applied r (Insert row) ≡ Ok s → t ≡ deleted s number → applied r (Update number row) ≡ Ok t
updated r s t number row l live e d =
    let w = refused_or (is_full r) Rows (inserted r row) s e in
    let q : not (eqb number (next r)) ≡ true = ap not (ne_eqb number (next r) (λ i. absurd (omega arith))) in
    let swapped : inserted (deleted r number) row ≡ deleted (inserted r row) number =
    ap (λ (xs : List ℕ). let x : RowState = record { names = r.names; nulls = r.nulls; limit = r.limit; given = r.given ++ row ∷ []; live = xs } in x) (sym (filter-append (λ i. not (eqb number i)) r.live (next r) q)) in
    ap (λ (b : Bool). let x : Result RowState Why = cond b (cond (is_full r) (Err Rows) (Ok (inserted (deleted r number) row))) (Err Missing) in x) live
    ∙ ap (λ (b : Bool). let x : Result RowState Why = cond b (Err Rows) (Ok (inserted (deleted r number) row)) in x) w.0
    ∙ ap (λ (z : RowState). let x : Result RowState Why = Ok z in x) (swapped ∙ ap (λ (z : RowState). deleted z number) w.1 ∙ sym d)

pub from_update : (r s : RowState) (number : ℕ) (row : Row) → IsFrom (Update number row) s r → (inserted (deleted r number) row ≡ s) × IsEnded r number (deleted r number)
from_update r s number row f =
    let v = passed_or (is_live r number) Missing (cond (is_full r) (Err Rows) (Ok (inserted (deleted r number) row))) s f.applied in
    let w = refused_or (is_full r) Rows (inserted (deleted r number) row) s v.1 in
    (w.1, record { is = f.is; live = v.0; ended = refl })

pub to_pop_inserted : (op : Op) (r s : RowState) (row : Row) → op ≡ Insert row → IsFrom op s r → CameLast s r
to_pop_inserted op r s row e f =
    let g = subst (λ (o : Op). IsFrom o s r) e f in
    record { row = row; came = (refused_or (is_full r) Rows (inserted r row) s g.applied).1 }

pub to_revive : (op : Op) (r s t : RowState) (number : ℕ) (row : Row) → op ≡ Update number row → IsFrom op s r
    → ((x : RowState) → CameLast s x → t ≡ x) → IsEnded r number t
to_revive op r s t number row e f popped =
    let w = from_update r s number row (subst (λ (o : Op). IsFrom o s r) e f) in
    subst (λ (x : RowState). IsEnded r number x) (sym (popped (deleted r number) (record { row = row; came = w.0 }))) w.1

pub to_pop : (op : Op) (r s : RowState) (number : ℕ) (row : Row) → op ≡ Update number row → IsFrom op s r → CameLast s (deleted r number)
to_pop op r s number row e f = record { row = row; came = (from_update r s number row (subst (λ (o : Op). IsFrom o s r) e f)).0 }

-- ---- a batch
-- the operations before the last one lead to a row state from which the last one leads on
pub split-last : (k : ℕ) (r s : RowState) (ops : List Op) (op : Op) → IsNumbered r → after_from k r (ops ++ op ∷ []) ≡ Ok s → (t : RowState) × (after_from k r ops ≡ Ok t) × IsFrom op s t
split-last k r s [] op is e = by (applied r op) refl e
  where
    by : (a : Result RowState Why) → applied r op ≡ a → go_on a k (λ m. Ok m) ≡ Ok s → (t : RowState) × (after_from k r [] ≡ Ok t) × IsFrom op s t
    by (Ok m) i g = (r, refl, record { is = is; applied = i ∙ ap (λ (z : RowState). let x : Result RowState Why = Ok z in x) (same_Ok g) })
    by (Err why) i g = absurd (cc)
split-last k r s (x ∷ ops) op is e = by (applied r x) refl e (λ m d g. split-last (k + 1) m s ops op d g)
  where
    by : (a : Result RowState Why) → applied r x ≡ a → go_on a k (λ m. after_from (k + 1) m (ops ++ op ∷ [])) ≡ Ok s
        → ((m : RowState) → IsNumbered m → after_from (k + 1) m (ops ++ op ∷ []) ≡ Ok s → (t : RowState) × (after_from (k + 1) m ops ≡ Ok t) × IsFrom op s t)
        → (t : RowState) × (after_from k r (x ∷ ops) ≡ Ok t) × IsFrom op s t
    by (Ok m) i g rest =
        let w = rest m (Did-applied r m x is i).is g in (w.0, ap (λ (a : Result RowState Why). go_on a k (λ m. after_from (k + 1) m ops)) i ∙ w.1, w.2)
    by (Err why) i g rest = absurd (cc)

pub from_last : (s r : RowState) (ops left : List Op) (op : Op) → ops ≡ left ++ op ∷ [] → LeadsFrom ops s r → (t : RowState) × (after r left ≡ Ok t) × IsFrom op s t
from_last s r ops left op e l = split-last 1 r s left op l.is (subst (λ (xs : List Op). after_from 1 r xs ≡ Ok s) e l.after)

pub nothing_back : (s r : RowState) (ops : List Op) → length ops ≡ 0 → LeadsFrom ops s r → s ≡ r
nothing_back s r [] e l = sym (same_Ok l.after)
nothing_back s r (x ∷ ops) e l = absurd (omega arith)

-- the operations from a place on are applied to what those before it lead to
pub after-append : (k : ℕ) (r t : RowState) (xs ys : List Op) → after_from k r xs ≡ Ok t → after_from k r (xs ++ ys) ≡ after_from (k + length xs) t ys
after-append k r t [] ys e = let z : k ≡ k + 0 = omega arith in ap₂ (λ (n : ℕ) (m : RowState). after_from n m ys) z (same_Ok e)
after-append k r t (x ∷ xs) ys e = by (applied r x) refl e (λ m g. after-append (k + 1) m t xs ys g)
  where
    by : (a : Result RowState Why) → applied r x ≡ a → go_on a k (λ m. after_from (k + 1) m xs) ≡ Ok t
        → ((m : RowState) → after_from (k + 1) m xs ≡ Ok t → after_from (k + 1) m (xs ++ ys) ≡ after_from (k + 1 + length xs) t ys)
        → go_on (applied r x) k (λ m. after_from (k + 1) m (xs ++ ys)) ≡ after_from (k + suc (length xs)) t ys
    by (Ok m) i g rest =
        let z : k + 1 + length xs ≡ k + suc (length xs) = omega arith in
        ap (λ (a : Result RowState Why). go_on a k (λ m. after_from (k + 1) m (xs ++ ys))) i ∙ rest m g ∙ ap (λ (n : ℕ). after_from n t ys) z
    by (Err why) i g rest = absurd (cc)

count-cons : (p : Op → Bool) (op : Op) (ops : List Op) → count_by p (op ∷ ops) ≡ cond (p op) 1 0 + count_by p ops
count-cons p op ops = sum_by-cons (λ (x : Op). cond (p x) 1 0) op ops

-- what a batch that was applied did
pub record DidAll (r s : RowState) (ops : List Op) : Type 0 where
  pub is : IsNumbered s
  pub names : s.names ≡ r.names
  pub came : length s.given ≡ length r.given + insert_count ops
  pub ended : length s.live + delete_count ops ≡ length r.live + insert_count ops

pub DidAll-after : (k : ℕ) (r s : RowState) (ops : List Op) → IsNumbered r → after_from k r ops ≡ Ok s → DidAll r s ops
DidAll-after k r s [] is e = subst (λ (s : RowState). DidAll r s []) (same_Ok e) (record { is = is; names = refl; came = omega arith; ended = omega arith })
DidAll-after k r s (op ∷ ops) is e = by (applied r op) refl e (λ m d g. DidAll-after (k + 1) m s ops d g)
  where
    by : (a : Result RowState Why) → applied r op ≡ a → go_on a k (λ m. after_from (k + 1) m ops) ≡ Ok s → ((m : RowState) → IsNumbered m → after_from (k + 1) m ops ≡ Ok s → DidAll m s ops) → DidAll r s (op ∷ ops)
    by (Ok m) i g rest =
        let d = Did-applied r m op is i in
        let w = rest m d.is g in
        let a = d.came in let b = d.ended in let x = w.came in let y = w.ended in
        let more : insert_count (op ∷ ops) ≡ cond (is_insert op) 1 0 + insert_count ops = count-cons is_insert op ops in
        let fewer : delete_count (op ∷ ops) ≡ cond (is_delete op) 1 0 + delete_count ops = count-cons is_delete op ops in
        record { is = w.is; names = w.names ∙ d.names; came = omega arith; ended = omega arith }
    by (Err why) i g rest = absurd (cc)

-- ---- a batch in a loop over its operations
pub as_wide : (r s : RowState) (ops : List Op) (k : ℕ) (op : Op) → IsRowState r → All (IsAsWide (width r)) ops → k < length ops → op ≡ get_or ops k op → after r (take k ops) ≡ Ok s → IsAsWide (width s) op
as_wide r s ops k op is wide l e h =
    let d = DidAll-after 1 r s (take k ops) (from_state r is) h in
    subst (λ (n : ℕ). IsAsWide n op) (ap length (sym d.names)) (subst (λ (o : Op). IsAsWide (width r) o) (sym e) (wide k op l))

pub stepped : (r s t : RowState) (ops : List Op) (k : ℕ) (op : Op) → k < length ops → op ≡ get_or ops k op → after r (take k ops) ≡ Ok s → applied s op ≡ Ok t → after r (take (k + 1) ops) ≡ Ok t
stepped r s t ops k op l e h a =
    ap (after_from 1 r) (take_more ops k op l ∙ ap (λ (o : Op). take k ops ++ o ∷ []) (sym e))
    ∙ after-append 1 r s (take k ops) (op ∷ []) h
    ∙ ap (λ (z : Result RowState Why). go_on z (1 + length (take k ops)) (λ m. Ok m)) a

failed : (r s : RowState) (ops : List Op) (k : ℕ) (op : Op) (why : Why) → k < length ops → op ≡ get_or ops k op → after r (take k ops) ≡ Ok s → applied s op ≡ Err why → after r ops ≡ Err (k + 1, why)
failed r s ops k op why l e h a =
    let t = length-take-le k ops (omega arith) in
    let n : 1 + length (take k ops) ≡ k + 1 = omega arith in
    ap (after_from 1 r) (sym (take-append-drop k ops) ∙ ap (λ (xs : List Op). take k ops ++ xs) (drop_more ops k op l ∙ ap (λ (o : Op). o ∷ drop (k + 1) ops) (sym e)))
    ∙ after-append 1 r s (take k ops) (op ∷ drop (k + 1) ops) h
    ∙ ap (λ (z : Result RowState Why). go_on z (1 + length (take k ops)) (λ m. after_from (1 + length (take k ops) + 1) m (drop (k + 1) ops))) a
    ∙ ap (λ (i : ℕ). let x : Result RowState (ℕ × Why) = Err (i, why) in x) n

-- after an operation that was not applied the row state is that before it
pub halted : (h : Halt) (s t : RowState) (outcome : Result RowState Why) → Outcome s outcome t (Err h) → t ≡ s
halted (Failed why) s t outcome o = o.1
halted Starved s t outcome o = o

pub answered : (h : Halt) (r s t u : RowState) (ops batch : List Op) (k : ℕ) (op : Op) (a : Applying) → a ≡ answer_at h k → Outcome s (applied s op) t (Err h) → u ≡ r
    → k < length ops → op ≡ get_or ops k op → after r (take k ops) ≡ Ok s → ops ≡ batch → Answers r batch u a
answered (Failed why) r s t u ops batch k op a e o same l i h b =
    subst (Answers r batch u) (sym e) (record { after = ap (after_from 1 r) (sym b) ∙ failed r s ops k op why l i h o.0; same = same })
answered Starved r s t u ops batch k op a e o same l i h b = subst (Answers r batch u) (sym e) same

pub whole : (r s : RowState) (ops batch : List Op) (k : ℕ) → length ops ≤ k → ops ≡ batch → after r (take k ops) ≡ Ok s → after r batch ≡ Ok s
whole r s ops batch k l b h = ap (after_from 1 r) (sym b ∙ sym (take_all k ops l)) ∙ h

-- ---- operations taken back from a place on
-- the operations up to a place are those before it and the one behind it
pub one_more : (ops : List Op) (k n : ℕ) (op : Op) → n ≡ k - 1 → 0 < k → k ≤ length ops → op ≡ get_or ops n op → take k ops ≡ take n ops ++ op ∷ []
one_more ops k n op e l m i =
    ap (λ (j : ℕ). take j ops) (let f : k ≡ n + 1 = omega arith in f)
    ∙ take_more ops n op (omega arith) ∙ ap (λ (o : Op). take n ops ++ o ∷ []) (sym i)
