-- What is to come of a change text, where so much of it has been read.
use Rattle.std.specs.Prelude.{◌≡◌, ◌+◌, ◌-◌, if◌then◌else◌, ℕ, List, [], ◌∷◌, ◌++◌, length}
use Rattle.std.specs.List.{filter_map, slice_split}
use Rattle.rel_base.specs.declared.batch.Op.{Op}
use Rattle.rel_base.specs.declared.why.Why.{Why}
use Rattle.rel_base.specs.declared.why.Why.TheVariants.{Cut}
use Rattle.batch_update.specs.declared.begun.Begun.{Begun}
use Rattle.batch_update.specs.declared.begun.Begun.TheVariants.{Nothing, Sound, Faulty}
use Rattle.batch_update.specs.declared.entry.Entry.{Entry}
use Rattle.batch_update.specs.declared.item.Item.{Item}
use Rattle.batch_update.specs.declared.item.Item.TheVariants.{Batch, Bad}
use Rattle.batch_update.specs.Entry.{is_end, operation}
use Rattle.batch_update.specs.Changes.{bad_or, first_fault, items_of_parts}

-- the items of what is left of a batch and of the parts after it: the batch is judged in one way where an end follows it, and in
-- another where the text cuts it off
unfoldable pub rest_of_batch : (List Entry → Item) → (List Entry → Item) → ℕ → ℕ → List (List Entry) → List Item
rest_of_batch ended cut number n [] = []
rest_of_batch ended cut number n (part ∷ []) = cut part ∷ []
rest_of_batch ended cut number n (part ∷ next ∷ parts) = ended part ∷ items_of_parts (number + 1) (n + length part + 1) (next ∷ parts)

-- where the entries of the batch so far are these operations, of which the first is entry `first`
abbrev pub after_operations : ℕ → ℕ → ℕ → List Op → List (List Entry) → List Item
after_operations number n first ops parts =
    rest_of_batch
    (λ part. bad_or number (first_fault n part) (Batch number first (ops ++ filter_map operation part)))
    (λ part. bad_or number (first_fault n part) (Bad number (n + length part - 1) Cut)) number n parts

-- where the batch has a fault already
abbrev pub after_fault : ℕ → ℕ → ℕ → Why → List (List Entry) → List Item
after_fault number n rec why parts = rest_of_batch (λ part. Bad number rec why) (λ part. Bad number rec why) number n parts

-- the items of the parts that are left, where the next entry has the number n
abbrev pub coming_parts : ℕ → ℕ → Begun → List (List Entry) → List Item
coming_parts number n Nothing parts = items_of_parts number n parts
coming_parts number n (Sound first ops) parts = after_operations number n first ops parts
coming_parts number n (Faulty rec why) parts = after_fault number n rec why parts

-- the items of the entries that are left
unfoldable pub coming : ℕ → ℕ → Begun → List Entry → List Item
coming number n begun left = coming_parts number n begun (slice_split is_end left)

-- the number of the batch at hand once an entry is read
abbrev pub number_after : ℕ → Entry → ℕ
number_after number entry = if is_end entry then number + 1 else number

-- the items listed and those to come are the same before and after an entry is read
abbrev pub TakesEntry : List Item → List Item → ℕ → ℕ → Begun → Entry → Begun → Type 0
TakesEntry before after number n begun entry next =
    (left : List Entry) → before ++ coming number n begun (entry ∷ left) ≡ after ++ coming (number_after number entry) (n + 1) next left

-- the same before and after these entries are read
abbrev pub TakesEntries : List Item → List Item → ℕ → ℕ → Begun → List Entry → ℕ → ℕ → Begun → Type 0
TakesEntries before after number n begun entries next_number m next =
    (left : List Entry) → before ++ coming number n begun (entries ++ left) ≡ after ++ coming next_number m next left
