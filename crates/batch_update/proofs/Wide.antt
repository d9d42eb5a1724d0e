-- The batches of a change text have new rows that are as wide as the relation.
use Rattle.std.proofs.Common.{◌≡◌, ◌+◌, ℕ, Bool, cond, true, false, eqb, refl, ◌-◌, List, [], ◌∷◌, ◌++◌, length, map, Option, Some, None}
use Rattle.std.specs.List.{All, slice_split}
use Rattle.std.proofs.lemmas.Bool.{eqb-true}
use Rattle.std.proofs.lemmas.List.Elements.{All-nil, All-cons, All-push}
use Rattle.rel_base.specs.declared.limits.Limits.{Limits}
use Rattle.rel_base.specs.declared.batch.Op.{Op}
use Rattle.rel_base.specs.declared.batch.Op.TheVariants.{Insert, Delete, Update}
use Rattle.rel_base.specs.declared.why.Why.{Why}
use Rattle.rel_base.specs.declared.why.Why.TheVariants as why
use Rattle.rel_base.specs.Cells.{Row}
use Rattle.rel_base.specs.Batches.{IsAsWide}
use Rattle.csv_load.specs.Records.{records_of}
use Rattle.csv_load.specs.Refusal.{has_long_cell}
use Rattle.batch_update.specs.declared.begun.Begun.TheVariants.{Nothing, Faulty}
use Rattle.batch_update.specs.declared.entry.Entry.{Entry}
use Rattle.batch_update.specs.declared.entry.Entry.TheVariants.{Operation, End, Report, Malformed}
use Rattle.batch_update.specs.declared.item.Item.{Item}
use Rattle.batch_update.specs.declared.item.Item.TheVariants as item
use Rattle.batch_update.specs.declared.kind.Kind.{Kind}
use Rattle.batch_update.specs.declared.kind.Kind.TheVariants as kind
use Rattle.batch_update.specs.Changes.{changes}
use Rattle.batch_update.specs.Coming.{after_operations, coming}
use Rattle.batch_update.specs.Entry.{alone, deletion, entry_by, entry_of, insertion, is_end, on_row, update, with_cells}
use Rattle.batch_update.specs.Kind.{kind_of}
use Rattle.batch_update.specs.Wide.{IsWide}
use Rattle.batch_update.specs.RowNumber.{row_number}
use Rattle.batch_update.proofs.Steps.{begins_end, begins_fault, begins_operation, begins_report, ends, ends_fault, faults, goes_on, skips, text_ends_after_fault, text_ends_after_operations, text_ends_between}

-- ---- one record
abbrev EntryWide : ℕ → Entry → Type 0
EntryWide n (Operation op) = IsAsWide n op
EntryWide n End = Unit {0}
EntryWide n Report = Unit {0}
EntryWide n (Malformed cause) = Unit {0}

cells_wide : (n : ℕ) (limits : Limits) (cells : Row) (op : Op) → IsAsWide n op → EntryWide n (with_cells limits cells op)
cells_wide n limits cells op h = by (has_long_cell limits.cell cells)
  where
    by : (b : Bool) → EntryWide n (cond b (Malformed why.Cell) (Operation op))
    by true = tt
    by false = h

row_wide : (n : ℕ) (o : Option ℕ) (f : ℕ → Entry) → ((number : ℕ) → EntryWide n (f number)) → EntryWide n (on_row o f)
row_wide n None f h = tt
row_wide n (Some number) f h = h number

insertion_wide : (n : ℕ) (limits : Limits) (cells : Row) → EntryWide n (insertion n limits cells)
insertion_wide n limits cells = by (eqb (length cells) n) refl
  where
    by : (b : Bool) → eqb (length cells) n ≡ b → EntryWide n (cond b (with_cells limits cells (Insert cells)) (Malformed why.Fields))
    by true e = cells_wide n limits cells (Insert cells) (eqb-true (length cells) n e)
    by false e = tt

deletion_wide : (n : ℕ) (fields : Row) → EntryWide n (deletion fields)
deletion_wide n [] = tt
deletion_wide n (field ∷ []) = row_wide n (row_number field) (λ number. Operation (Delete number)) (λ number. tt)
deletion_wide n (field ∷ other ∷ others) = tt

alone_wide : (n : ℕ) (fields : Row) (entry : Entry) → EntryWide n entry → EntryWide n (alone fields entry)
alone_wide n [] entry h = h
alone_wide n (field ∷ fields) entry h = tt

update_wide : (n : ℕ) (limits : Limits) (fields : Row) → EntryWide n (update n limits fields)
update_wide n limits [] = tt
update_wide n limits (field ∷ cells) = by (eqb (length cells) n) refl
  where
    by : (b : Bool) → eqb (length cells) n ≡ b → EntryWide n (cond b (on_row (row_number field) (λ number. with_cells limits cells (Update number cells))) (Malformed why.Fields))
    by true e = row_wide n (row_number field) (λ number. with_cells limits cells (Update number cells)) (λ number. cells_wide n limits cells (Update number cells) (eqb-true (length cells) n e))
    by false e = tt

by_kind : (n : ℕ) (limits : Limits) (o : Option Kind) (fields : Row) → EntryWide n (entry_by n limits o fields)
by_kind n limits None fields = tt
by_kind n limits (Some kind.Insert) fields = insertion_wide n limits fields
by_kind n limits (Some kind.Delete) fields = deletion_wide n fields
by_kind n limits (Some kind.End) fields = alone_wide n fields End tt
by_kind n limits (Some kind.Report) fields = alone_wide n fields Report tt
by_kind n limits (Some kind.Update) fields = update_wide n limits fields

entry_wide : (n : ℕ) (limits : Limits) (row : Row) → EntryWide n (entry_of n limits row)
unfolding entry_of
entry_wide n limits [] = tt
entry_wide n limits (first ∷ fields) = by_kind n limits (kind_of first) fields

-- ---- the items to come
-- those to come, wherever the reading stands
record Wide (n : ℕ) (left : List Entry) : Type 0 where
  between : (number m : ℕ) → All (IsWide n) (coming number m Nothing left)
  operations : (number m first : ℕ) (ops : List Op) → All (IsAsWide n) ops → All (IsWide n) (after_operations number m first ops (slice_split is_end left))
  fault : (number m rec : ℕ) (cause : Why) → All (IsWide n) (coming number m (Faulty rec cause) left)

one_item : (n : ℕ) (it : Item) → IsWide n it → All (IsWide n) (it ∷ [])
one_item n it h = All-cons (IsWide n) it [] h (All-nil (IsWide n))

wide_end : (n : ℕ) → Wide n []
wide_end n = record {
  between = λ number m. rw (text_ends_between number m) (All-nil (IsWide n));
  operations = λ number m first ops all. rw (text_ends_after_operations number m first ops) (one_item n (item.Bad number (m - 1) why.Cut) tt);
  fault = λ number m rec cause. rw (text_ends_after_fault number m rec cause) (one_item n (item.Bad number rec cause) tt);
}

wide_more : (n : ℕ) (entry : Entry) (left : List Entry) → EntryWide n entry → Wide n left → Wide n (entry ∷ left)
wide_more n (Operation op) left e h = record {
  between = λ number m. rw (begins_operation number m op left) (h.operations number (m + 1) m (op ∷ []) (All-cons (IsAsWide n) op [] e (All-nil (IsAsWide n))));
  operations = λ number m first ops all. rw (goes_on number m first ops op left) (h.operations number (m + 1) first (ops ++ op ∷ []) (All-push (IsAsWide n) ops op all e));
  fault = λ number m rec cause. rw (skips number m rec cause (Operation op) left refl) (h.fault number (m + 1) rec cause);
}
wide_more n End left e h = record {
  between = λ number m.
      rw (begins_end number m left) (All-cons (IsWide n) (item.Batch number m []) (coming (number + 1) (m + 1) Nothing left) (All-nil (IsAsWide n)) (h.between (number + 1) (m + 1)));
  operations = λ number m first ops all.
      rw (ends number m first ops left) (All-cons (IsWide n) (item.Batch number first ops) (coming (number + 1) (m + 1) Nothing left) all (h.between (number + 1) (m + 1)));
  fault = λ number m rec cause.
      rw (ends_fault number m rec cause End left refl) (All-cons (IsWide n) (item.Bad number rec cause) (coming (number + 1) (m + 1) Nothing left) tt (h.between (number + 1) (m + 1)));
}
wide_more n Report left e h = record {
  between = λ number m. rw (begins_report number m left) (All-cons (IsWide n) item.Report (coming number (m + 1) Nothing left) tt (h.between number (m + 1)));
  operations = λ number m first ops all. rw (faults number m first ops Report why.Kind left refl refl) (h.fault number (m + 1) m why.Kind);
  fault = λ number m rec cause. rw (skips number m rec cause Report left refl) (h.fault number (m + 1) rec cause);
}
wide_more n (Malformed cause) left e h = record {
  between = λ number m. rw (begins_fault number m cause left) (h.fault number (m + 1) m cause);
  operations = λ number m first ops all. rw (faults number m first ops (Malformed cause) cause left refl refl) (h.fault number (m + 1) m cause);
  fault = λ number m rec other. rw (skips number m rec other (Malformed cause) left refl) (h.fault number (m + 1) rec other);
}

wide : (n : ℕ) (limits : Limits) (rows : List Row) → Wide n (map (entry_of n limits) rows)
wide n limits [] = wide_end n
wide n limits (row ∷ rows) = wide_more n (entry_of n limits row) (map (entry_of n limits) rows) (entry_wide n limits row) (wide n limits rows)

pub changes_are_wide : (bytes : List ℕ) (columns : ℕ) (limits : Limits) → All (IsWide columns) (changes bytes columns limits)
unfolding changes coming
changes_are_wide bytes columns limits = (wide columns limits (records_of bytes)).between 1 1
