-- What is to come of a change text, one entry after another.
use Rattle.std.proofs.Common.{◌≡◌, refl, arith, ◌+◌, ◌-◌, ℕ, suc, Bool, true, false, cond, List, [], ◌∷◌, ◌++◌, append_assoc, length, Some, None}
use Rattle.std.proofs.lemmas.List.{append-nil}
use Rattle.std.specs.List.{onto_first, prefix_len, slice_split}
use Rattle.rel_base.specs.declared.batch.Op.{Op}
use Rattle.rel_base.specs.declared.why.Why.{Why}
use Rattle.rel_base.specs.declared.why.Why.TheVariants as why
use Rattle.batch_update.specs.declared.begun.Begun.TheVariants.{Nothing, Faulty}
use Rattle.batch_update.specs.declared.entry.Entry.{Entry}
use Rattle.batch_update.specs.declared.entry.Entry.TheVariants.{Operation, End, Report, Malformed}
use Rattle.batch_update.specs.declared.item.Item.{Item}
use Rattle.batch_update.specs.declared.item.Item.TheVariants as item
use Rattle.batch_update.specs.Entry.{fault, is_end, is_report}
use Rattle.batch_update.specs.Changes.{first_fault, items_of_parts}
use Rattle.batch_update.specs.Coming.{after_fault, after_operations, coming, rest_of_batch}

-- ---- the first fault of a batch, one entry further

pub first_fault-here : (n : ℕ) (entry : Entry) (batch : List Entry) (cause : Why) → fault entry ≡ Some cause → first_fault n (entry ∷ batch) ≡ Some (n, cause)
unfolding first_fault
first_fault-here n entry batch cause e = rw e refl

pub first_fault-later : (n : ℕ) (op : Op) (batch : List Entry) → first_fault n (Operation op ∷ batch) ≡ first_fault (n + 1) batch
unfolding first_fault
first_fault-later n op batch = refl

pub first_fault-none : (n : ℕ) → first_fault n [] ≡ None
unfolding first_fault
first_fault-none n = refl

-- ---- the parts of a text are never none

parts_cases : (P : List (List Entry) → Type 0) → ((part : List Entry) (parts : List (List Entry)) → P (part ∷ parts)) → (left : List Entry) → P (slice_split is_end left)
parts_cases P h [] = h [] []
parts_cases P h (entry ∷ left) = by (is_end entry) (slice_split is_end left)
  where
    by : (b : Bool) (parts : List (List Entry)) → P (cond b ([] ∷ parts) (onto_first entry parts))
    by true parts = h [] parts
    by false [] = h (entry ∷ []) []
    by false (part ∷ parts) = h (entry ∷ part) parts

-- ---- numbers

none_more : (n : ℕ) → n + 0 ≡ n
none_more n = omega arith

one_more : (n : ℕ) (part : List Entry) → n + length part ≡ n + 1 + length part - 1
one_more n part = omega arith

last_more : (n : ℕ) (part : List Entry) → n + suc (length part) - 1 ≡ n + 1 + length part - 1
last_more n part = omega arith

next_part : (n : ℕ) (part : List Entry) → n + suc (length part) + 1 ≡ n + 1 + length part + 1
next_part n part = omega arith

-- ---- between batches

begin_operation : (number n : ℕ) (op : Op) (part : List Entry) (parts : List (List Entry))
    → items_of_parts number n ((Operation op ∷ part) ∷ parts) ≡ after_operations number (n + 1) n (op ∷ []) (part ∷ parts)
unfolding items_of_parts rest_of_batch
begin_operation number n op part [] = rw (none_more n, first_fault-later n op part, one_more n part) refl
begin_operation number n op part (next ∷ parts) = rw (none_more n, first_fault-later n op part, next_part n part) refl

begin_fault : (number n : ℕ) (cause : Why) (part : List Entry) (parts : List (List Entry))
    → items_of_parts number n ((Malformed cause ∷ part) ∷ parts) ≡ after_fault number (n + 1) n cause (part ∷ parts)
unfolding items_of_parts rest_of_batch
begin_fault number n cause part [] = rw (none_more n, first_fault-here n (Malformed cause) part cause refl) refl
begin_fault number n cause part (next ∷ parts) = rw (none_more n, first_fault-here n (Malformed cause) part cause refl, next_part n part) refl

begin_report : (number n : ℕ) (part : List Entry) (parts : List (List Entry))
    → items_of_parts number n ((Report ∷ part) ∷ parts) ≡ item.Report ∷ items_of_parts number (n + 1) (part ∷ parts)
unfolding items_of_parts
begin_report number n part [] =
    let more : 1 + prefix_len is_report part ≡ suc (prefix_len is_report part) = omega arith in
    let place : n + suc (prefix_len is_report part) ≡ n + 1 + prefix_len is_report part = omega arith in
    rw (more, place) refl
begin_report number n part (next ∷ parts) =
    let more : 1 + prefix_len is_report part ≡ suc (prefix_len is_report part) = omega arith in
    let place : n + suc (prefix_len is_report part) ≡ n + 1 + prefix_len is_report part = omega arith in
    rw (more, place, next_part n part) refl

begin_end : (number n : ℕ) (part : List Entry) (parts : List (List Entry))
    → items_of_parts number n ([] ∷ part ∷ parts) ≡ item.Batch number n [] ∷ items_of_parts (number + 1) (n + 1) (part ∷ parts)
unfolding items_of_parts
begin_end number n part parts = rw (none_more n, first_fault-none n) refl

-- ---- after operations

operation_after : (number n first : ℕ) (ops : List Op) (op : Op) (part : List Entry) (parts : List (List Entry))
    → after_operations number n first ops ((Operation op ∷ part) ∷ parts) ≡ after_operations number (n + 1) first (ops ++ op ∷ []) (part ∷ parts)
unfolding rest_of_batch
operation_after number n first ops op part [] = rw (first_fault-later n op part, last_more n part) refl
operation_after number n first ops op part (next ∷ parts) = rw (first_fault-later n op part, append_assoc, next_part n part) refl

fault_after : (number n first : ℕ) (ops : List Op) (entry : Entry) (cause : Why) (part : List Entry) (parts : List (List Entry)) → fault entry ≡ Some cause
    → after_operations number n first ops ((entry ∷ part) ∷ parts) ≡ after_fault number (n + 1) n cause (part ∷ parts)
unfolding rest_of_batch
fault_after number n first ops entry cause part [] e = rw (first_fault-here n entry part cause e) refl
fault_after number n first ops entry cause part (next ∷ parts) e = rw (first_fault-here n entry part cause e, next_part n part) refl

end_after : (number n first : ℕ) (ops : List Op) (part : List Entry) (parts : List (List Entry))
    → after_operations number n first ops ([] ∷ part ∷ parts) ≡ item.Batch number first ops ∷ items_of_parts (number + 1) (n + 1) (part ∷ parts)
unfolding rest_of_batch
end_after number n first ops part parts = rw (none_more n, first_fault-none n, append-nil) refl

-- ---- after a fault

skipped : (number n rec : ℕ) (why : Why) (entry : Entry) (part : List Entry) (parts : List (List Entry))
    → after_fault number n rec why ((entry ∷ part) ∷ parts) ≡ after_fault number (n + 1) rec why (part ∷ parts)
unfolding rest_of_batch
skipped number n rec why entry part [] = refl
skipped number n rec why entry part (next ∷ parts) = rw (next_part n part) refl

end_after_fault : (number n rec : ℕ) (why : Why) (part : List Entry) (parts : List (List Entry))
    → after_fault number n rec why ([] ∷ part ∷ parts) ≡ item.Bad number rec why ∷ items_of_parts (number + 1) (n + 1) (part ∷ parts)
unfolding rest_of_batch
end_after_fault number n rec why part parts = rw (none_more n) refl

-- ---- the same of the entries that are left

pub begins_operation : (number n : ℕ) (op : Op) (left : List Entry)
    → coming number n Nothing (Operation op ∷ left) ≡ after_operations number (n + 1) n (op ∷ []) (slice_split is_end left)
unfolding coming
begins_operation number n op left =
    parts_cases (λ parts. items_of_parts number n (onto_first (Operation op) parts) ≡ after_operations number (n + 1) n (op ∷ []) parts) (begin_operation number n op) left

pub begins_fault : (number n : ℕ) (cause : Why) (left : List Entry)
    → coming number n Nothing (Malformed cause ∷ left) ≡ coming number (n + 1) (Faulty n cause) left
unfolding coming
begins_fault number n cause left =
    parts_cases (λ parts. items_of_parts number n (onto_first (Malformed cause) parts) ≡ after_fault number (n + 1) n cause parts) (begin_fault number n cause) left

pub begins_report : (number n : ℕ) (left : List Entry) → coming number n Nothing (Report ∷ left) ≡ item.Report ∷ coming number (n + 1) Nothing left
unfolding coming
begins_report number n left =
    parts_cases (λ parts. items_of_parts number n (onto_first Report parts) ≡ item.Report ∷ items_of_parts number (n + 1) parts) (begin_report number n) left

pub begins_end : (number n : ℕ) (left : List Entry) → coming number n Nothing (End ∷ left) ≡ item.Batch number n [] ∷ coming (number + 1) (n + 1) Nothing left
unfolding coming
begins_end number n left =
    parts_cases (λ parts. items_of_parts number n ([] ∷ parts) ≡ item.Batch number n [] ∷ items_of_parts (number + 1) (n + 1) parts) (begin_end number n) left

pub goes_on : (number n first : ℕ) (ops : List Op) (op : Op) (left : List Entry)
    → after_operations number n first ops (slice_split is_end (Operation op ∷ left)) ≡ after_operations number (n + 1) first (ops ++ op ∷ []) (slice_split is_end left)
goes_on number n first ops op left =
    parts_cases (λ parts. after_operations number n first ops (onto_first (Operation op) parts) ≡ after_operations number (n + 1) first (ops ++ op ∷ []) parts)
    (operation_after number n first ops op) left

pub faults : (number n first : ℕ) (ops : List Op) (entry : Entry) (cause : Why) (left : List Entry) → is_end entry ≡ false → fault entry ≡ Some cause
    → after_operations number n first ops (slice_split is_end (entry ∷ left)) ≡ coming number (n + 1) (Faulty n cause) left
unfolding coming
faults number n first ops entry cause left goes e =
    rw goes
    (parts_cases (λ parts. after_operations number n first ops (onto_first entry parts) ≡ after_fault number (n + 1) n cause parts)
    (λ part parts. fault_after number n first ops entry cause part parts e) left)

pub ends : (number n first : ℕ) (ops : List Op) (left : List Entry)
    → after_operations number n first ops (slice_split is_end (End ∷ left)) ≡ item.Batch number first ops ∷ coming (number + 1) (n + 1) Nothing left
unfolding coming
ends number n first ops left =
    parts_cases (λ parts. after_operations number n first ops ([] ∷ parts) ≡ item.Batch number first ops ∷ items_of_parts (number + 1) (n + 1) parts)
    (end_after number n first ops) left

pub skips : (number n rec : ℕ) (why : Why) (entry : Entry) (left : List Entry) → is_end entry ≡ false
    → coming number n (Faulty rec why) (entry ∷ left) ≡ coming number (n + 1) (Faulty rec why) left
unfolding coming
skips number n rec why entry left goes =
    rw goes
    (parts_cases (λ parts. after_fault number n rec why (onto_first entry parts) ≡ after_fault number (n + 1) rec why parts) (skipped number n rec why entry) left)

pub ends_fault : (number n rec : ℕ) (why : Why) (entry : Entry) (left : List Entry) → is_end entry ≡ true
    → coming number n (Faulty rec why) (entry ∷ left) ≡ item.Bad number rec why ∷ coming (number + 1) (n + 1) Nothing left
unfolding coming
ends_fault number n rec why entry left stops =
    rw stops
    (parts_cases (λ parts. after_fault number n rec why ([] ∷ parts) ≡ item.Bad number rec why ∷ items_of_parts (number + 1) (n + 1) parts)
    (end_after_fault number n rec why) left)

-- ---- with the items so far

pub unlisted : (before all rest : List Item) → all ≡ rest → before ++ all ≡ before ++ rest
unlisted before all rest e = rw e refl

pub listed : (before after : List Item) (it : Item) (all rest : List Item) → after ≡ before ++ it ∷ [] → all ≡ it ∷ rest → before ++ all ≡ after ++ rest
listed before after it all rest pushed e = rw (pushed, e, append_assoc) refl

-- ---- the end of the text

pub text_ends_between : (number n : ℕ) → coming number n Nothing [] ≡ []
unfolding coming items_of_parts
text_ends_between number n = refl

pub text_ends_after_operations : (number n first : ℕ) (ops : List Op) → after_operations number n first ops (slice_split is_end []) ≡ item.Bad number (n - 1) why.Cut ∷ []
unfolding rest_of_batch
text_ends_after_operations number n first ops = rw (none_more n, first_fault-none n) refl

pub text_ends_after_fault : (number n rec : ℕ) (why : Why) → coming number n (Faulty rec why) [] ≡ item.Bad number rec why ∷ []
unfolding coming rest_of_batch
text_ends_after_fault number n rec why = refl
