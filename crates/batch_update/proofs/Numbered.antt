-- No item has a number above that of the last record.
use Rattle.std.proofs.Common.{◌≡◌, refl, arith, ◌+◌, ◌-◌, ◌<◌, ◌≤◌, ℕ, List, [], ◌∷◌, ◌++◌, length, length-append, map}
use Rattle.std.specs.List.{All, slice_split}
use Rattle.std.proofs.lemmas.List.{length-map}
use Rattle.std.proofs.lemmas.List.Elements.{All-nil, All-cons}
use Rattle.rel_base.specs.declared.limits.Limits.{Limits}
use Rattle.rel_base.specs.declared.batch.Op.{Op}
use Rattle.rel_base.specs.declared.why.Why.{Why}
use Rattle.rel_base.specs.declared.why.Why.TheVariants as why
use Rattle.csv_load.specs.Records.{records_of}
use Rattle.batch_update.specs.declared.begun.Begun.TheVariants.{Nothing, Faulty}
use Rattle.batch_update.specs.declared.entry.Entry.{Entry}
use Rattle.batch_update.specs.declared.entry.Entry.TheVariants.{Operation, End, Report, Malformed}
use Rattle.batch_update.specs.declared.item.Item.{Item}
use Rattle.batch_update.specs.declared.item.Item.TheVariants as item
use Rattle.batch_update.specs.Changes.{changes}
use Rattle.batch_update.specs.Coming.{after_operations, coming}
use Rattle.batch_update.specs.Entry.{entry_of, is_end}
use Rattle.batch_update.specs.Numbers.{IsNumberedTo}
use Rattle.batch_update.proofs.Few.{few_records}
use Rattle.batch_update.proofs.Steps.{begins_end, begins_fault, begins_operation, begins_report, ends, ends_fault, faults, goes_on, skips, text_ends_after_fault, text_ends_after_operations, text_ends_between}

-- no item that is to come has a number above m, wherever the reading stands
record Numbered (m : ℕ) (left : List Entry) : Type 0 where
  between : (number n : ℕ) → 0 < number → number ≤ n → n + length left ≤ m + 1 → All (IsNumberedTo m) (coming number n Nothing left)
  operations : (number n first : ℕ) (ops : List Op) → 0 < number → number ≤ first → 0 < length ops → first + length ops ≡ n → n + length left ≤ m + 1
      → All (IsNumberedTo m) (after_operations number n first ops (slice_split is_end left))
  fault : (number n rec : ℕ) (cause : Why) → 0 < number → number ≤ rec → rec < n → n + length left ≤ m + 1
      → All (IsNumberedTo m) (coming number n (Faulty rec cause) left)

one_item : (m : ℕ) (it : Item) → IsNumberedTo m it → All (IsNumberedTo m) (it ∷ [])
one_item m it h = All-cons (IsNumberedTo m) it [] h (All-nil (IsNumberedTo m))

numbered_end : (m : ℕ) → Numbered m []
numbered_end m = record {
  between = λ number n some le few. rw (text_ends_between number n) (All-nil (IsNumberedTo m));
  operations = λ number n first ops some le any count few.
      rw (text_ends_after_operations number n first ops) (one_item m (item.Bad number (n - 1) why.Cut) (some, omega arith, omega arith, omega arith));
  fault = λ number n rec cause some le below few.
      rw (text_ends_after_fault number n rec cause) (one_item m (item.Bad number rec cause) (some, omega arith, omega arith, omega arith));
}

numbered_more : (m : ℕ) (entry : Entry) (left : List Entry) → Numbered m left → Numbered m (entry ∷ left)
numbered_more m (Operation op) left h = record {
  between = λ number n some le few.
      rw (begins_operation number n op left) (h.operations number (n + 1) n (op ∷ []) some le (omega arith) refl (omega arith));
  operations = λ number n first ops some le any count few.
      let more : length (ops ++ op ∷ []) ≡ length ops + 1 = length-append ops (op ∷ []) in
      rw (goes_on number n first ops op left)
      (h.operations number (n + 1) first (ops ++ op ∷ []) some le (omega (arith, more)) (omega (arith, more)) (omega arith));
  fault = λ number n rec cause some le below few.
      rw (skips number n rec cause (Operation op) left refl) (h.fault number (n + 1) rec cause some le (omega arith) (omega arith));
}
numbered_more m End left h = record {
  between = λ number n some le few.
      rw (begins_end number n left)
      (All-cons (IsNumberedTo m) (item.Batch number n []) (coming (number + 1) (n + 1) Nothing left) (some, omega arith, omega arith, omega arith)
      (h.between (number + 1) (n + 1) (omega arith) (omega arith) (omega arith)));
  operations = λ number n first ops some le any count few.
      rw (ends number n first ops left)
      (All-cons (IsNumberedTo m) (item.Batch number first ops) (coming (number + 1) (n + 1) Nothing left) (some, omega arith, omega arith, omega arith)
      (h.between (number + 1) (n + 1) (omega arith) (omega arith) (omega arith)));
  fault = λ number n rec cause some le below few.
      rw (ends_fault number n rec cause End left refl)
      (All-cons (IsNumberedTo m) (item.Bad number rec cause) (coming (number + 1) (n + 1) Nothing left) (some, omega arith, omega arith, omega arith)
      (h.between (number + 1) (n + 1) (omega arith) (omega arith) (omega arith)));
}
numbered_more m Report left h = record {
  between = λ number n some le few.
      rw (begins_report number n left)
      (All-cons (IsNumberedTo m) item.Report (coming number (n + 1) Nothing left) tt (h.between number (n + 1) some (omega arith) (omega arith)));
  operations = λ number n first ops some le any count few.
      rw (faults number n first ops Report why.Kind left refl refl) (h.fault number (n + 1) n why.Kind some (omega arith) (omega arith) (omega arith));
  fault = λ number n rec cause some le below few.
      rw (skips number n rec cause Report left refl) (h.fault number (n + 1) rec cause some le (omega arith) (omega arith));
}
numbered_more m (Malformed why) left h = record {
  between = λ number n some le few.
      rw (begins_fault number n why left) (h.fault number (n + 1) n why some le (omega arith) (omega arith));
  operations = λ number n first ops some le any count few.
      rw (faults number n first ops (Malformed why) why left refl refl) (h.fault number (n + 1) n why some (omega arith) (omega arith) (omega arith));
  fault = λ number n rec cause some le below few.
      rw (skips number n rec cause (Malformed why) left refl) (h.fault number (n + 1) rec cause some le (omega arith) (omega arith));
}

numbered : (m : ℕ) (left : List Entry) → Numbered m left
numbered m [] = numbered_end m
numbered m (entry ∷ left) = numbered_more m entry left (numbered m left)

pub changes_are_numbered : (bytes : List ℕ) (columns : ℕ) (limits : Limits) → All (IsNumberedTo (length bytes)) (changes bytes columns limits)
unfolding changes coming
changes_are_numbered bytes columns limits =
    let few = few_records bytes in
    let entries : length (map (entry_of columns limits) (records_of bytes)) ≡ length (records_of bytes) = length-map (records_of bytes) (entry_of columns limits) in
    (numbered (length bytes) (map (entry_of columns limits) (records_of bytes))).between 1 1 (omega arith) (omega arith) (omega (arith, few, entries))
