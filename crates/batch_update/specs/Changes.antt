-- The items of a change text.
use Rattle.std.specs.Prelude.{◌+◌, ℕ, List, [], ◌∷◌, ◌++◌, map, length, drop, Option, Some, None, option_map, slice_get}
use Rattle.std.specs.List.{filter_map, enumerate_from, prefix_len, take_while, slice_split}
use Rattle.rel_base.specs.declared.limits.Limits.{Limits}
use Rattle.rel_base.specs.declared.why.Why.{Why}
use Rattle.rel_base.specs.declared.why.Why.TheVariants.{Cut}
use Rattle.csv_load.specs.Records.{records_of}
use Rattle.batch_update.specs.declared.entry.Entry.{Entry}
use Rattle.batch_update.specs.declared.item.Item.{Item}
use Rattle.batch_update.specs.declared.item.Item.TheVariants.{Batch, Bad, Report}
use Rattle.batch_update.specs.Entry.{entry_of, fault, is_end, is_report, operation}

-- the entries that can't stand in a batch, each with its number and the cause, where the first entry has the number n
abbrev pub faults_from : ℕ → List Entry → List (ℕ × Why)
faults_from n batch = filter_map (λ (p : ℕ × Entry). option_map (λ why. (p.0, why)) (fault p.1)) (enumerate_from n batch)

-- the first of them
unfoldable pub first_fault : ℕ → List Entry → Option (ℕ × Why)
first_fault n batch = slice_get (faults_from n batch) 0

-- a batch with a fault is bad by its first one
abbrev pub bad_or : ℕ → Option (ℕ × Why) → Item → Item
bad_or number None item = item
bad_or number (Some (rec, why)) item = Bad number rec why

-- the batch that an end follows
abbrev pub ended : ℕ → ℕ → List Entry → Item
ended number n batch = bad_or number (first_fault n batch) (Batch number n (filter_map operation batch))

-- the batch that the text cuts off, if it has begun
abbrev pub cut_off : ℕ → ℕ → List Entry → List Item
cut_off number n [] = []
cut_off number n (entry ∷ entries) =
    bad_or number (first_fault n (entry ∷ entries)) (Bad number (n + length entries) Cut) ∷ []

-- a part of a text begins with some reports, which stand between batches, and the rest of it is a batch
abbrev pub reports : List Entry → List Item
reports part = map (λ _. Report) (take_while is_report part)

abbrev pub batch_at : ℕ → List Entry → ℕ
batch_at n part = n + prefix_len is_report part

abbrev pub batch_of : List Entry → List Entry
batch_of part = drop (prefix_len is_report part) part

-- the items of a text's parts: an end stands after each part but the last, which may have no end. The first part is that of
-- the batch of this number, and begins at entry n
unfoldable pub items_of_parts : ℕ → ℕ → List (List Entry) → List Item
items_of_parts number n [] = []
items_of_parts number n (part ∷ []) = reports part ++ cut_off number (batch_at n part) (batch_of part)
items_of_parts number n (part ∷ next ∷ parts) =
    reports part ++ ended number (batch_at n part) (batch_of part) ∷ items_of_parts (number + 1) (n + length part + 1) (next ∷ parts)

-- the items of a change text: its entries are parted at each end
unfoldable pub changes : List ℕ → ℕ → Limits → List Item
changes bytes columns limits = items_of_parts 1 1 (slice_split is_end (map (entry_of columns limits) (records_of bytes)))
