-- What records say is what is read.
use Rattle.std.proofs.Common.{◌≡◌, ◌==◌, ◌⊎◌, inl, inr, ap, eq-eqb, eqb-true, refl, ℕ, Bool, true, false, cond, [], ◌∷◌, length, Option, Some, None}
use Rattle.std.specs.Bool.{⊤}
use Rattle.rel_base.specs.declared.limits.Limits.{Limits}
use Rattle.rel_base.specs.declared.batch.Op.TheVariants as op
use Rattle.rel_base.specs.declared.why.Why.TheVariants as why
use Rattle.rel_base.specs.Cells.{Row}
use Rattle.csv_load.specs.Refusal.{has_long_cell}
use Rattle.csv_load.proofs.FirstRefused.{short_cells, no_long_cell}
use Rattle.batch_update.specs.declared.entry.Entry.{Entry}
use Rattle.batch_update.specs.declared.entry.Entry.TheVariants.{Operation, End, Report, Malformed}
use Rattle.batch_update.specs.declared.kind.Kind.{Kind}
use Rattle.batch_update.specs.declared.kind.Kind.TheVariants as kind
use Rattle.batch_update.specs.Entry.{alone, deletion, entry_by, entry_of, insertion, on_row, update}
use Rattle.batch_update.specs.Kind.{marked}
use Rattle.batch_update.specs.Laws.{EntriesAreSaid, IsMalformed, Says, WhatIsSaidIsRead}
use Rattle.batch_update.specs.RowNumber.{row_number}
use Rattle.batch_update.proofs.Decimals.{named, read_back}

-- ---- a record is read as what it says, or as malformed

IsSaid : ℕ → Limits → Row → Entry → Type 0
IsSaid columns limits fields entry = IsMalformed entry ⊎ Says columns limits fields entry

insertion_said : (columns : ℕ) (limits : Limits) (cells : Row) → IsSaid columns limits ((43 ∷ []) ∷ cells) (insertion columns limits cells)
unfolding IsSaid
insertion_said columns limits cells = by (length cells == columns) (has_long_cell limits.cell cells) refl refl
  where
    by : (width long : Bool) → (length cells == columns) ≡ width → has_long_cell limits.cell cells ≡ long
        → IsMalformed (cond width (cond long (Malformed why.Cell) (Operation (op.Insert cells))) (Malformed why.Fields))
        ⊎ Says columns limits ((43 ∷ []) ∷ cells) (cond width (cond long (Malformed why.Cell) (Operation (op.Insert cells))) (Malformed why.Fields))
    by false long w l = inl tt
    by true true w l = inl tt
    by true false w l = inr (refl, (eqb-true (length cells) columns w, short_cells limits.cell cells l))

deletion_said : (columns : ℕ) (limits : Limits) (fields : Row) → IsSaid columns limits ((45 ∷ []) ∷ fields) (deletion fields)
unfolding IsSaid
deletion_said columns limits [] = inl tt
deletion_said columns limits (a ∷ b ∷ fields) = inl tt
deletion_said columns limits (field ∷ []) = by (row_number field) refl
  where
    by : (o : Option ℕ) → row_number field ≡ o
        → IsMalformed (on_row o (λ n. Operation (op.Delete n))) ⊎ Says columns limits ((45 ∷ []) ∷ field ∷ []) (on_row o (λ n. Operation (op.Delete n)))
    by None e = inl tt
    by (Some n) e = let is = named field n e in inr (ap (λ text. (45 ∷ []) ∷ text ∷ []) is.0, is.1)

update_said : (columns : ℕ) (limits : Limits) (fields : Row) → IsSaid columns limits ((61 ∷ []) ∷ fields) (update columns limits fields)
unfolding IsSaid
update_said columns limits [] = inl tt
update_said columns limits (field ∷ cells) = by (length cells == columns) (row_number field) (has_long_cell limits.cell cells) refl refl refl
  where
    by : (width : Bool) (o : Option ℕ) (long : Bool) → (length cells == columns) ≡ width → row_number field ≡ o → has_long_cell limits.cell cells ≡ long
        → IsMalformed (cond width (on_row o (λ n. cond long (Malformed why.Cell) (Operation (op.Update n cells)))) (Malformed why.Fields))
        ⊎ Says columns limits ((61 ∷ []) ∷ field ∷ cells) (cond width (on_row o (λ n. cond long (Malformed why.Cell) (Operation (op.Update n cells)))) (Malformed why.Fields))
    by false o long w e l = inl tt
    by true None long w e l = inl tt
    by true (Some n) true w e l = inl tt
    by true (Some n) false w e l =
        let is = named field n e in
        inr (ap (λ text. (61 ∷ []) ∷ text ∷ cells) is.0, is.1, (eqb-true (length cells) columns w, short_cells limits.cell cells l))

end_said : (columns : ℕ) (limits : Limits) (fields : Row) → IsSaid columns limits ((33 ∷ []) ∷ fields) (alone fields End)
unfolding IsSaid
end_said columns limits [] = inr refl
end_said columns limits (field ∷ fields) = inl tt

report_said : (columns : ℕ) (limits : Limits) (fields : Row) → IsSaid columns limits ((63 ∷ []) ∷ fields) (alone fields Report)
unfolding IsSaid
report_said columns limits [] = inr refl
report_said columns limits (field ∷ fields) = inl tt

-- the byte that marks a kind
HasMark : ℕ → Option Kind → Type 0
HasMark byte None = ⊤
HasMark byte (Some kind.Insert) = byte ≡ 43
HasMark byte (Some kind.Delete) = byte ≡ 45
HasMark byte (Some kind.End) = byte ≡ 33
HasMark byte (Some kind.Report) = byte ≡ 63
HasMark byte (Some kind.Update) = byte ≡ 61

mark_of : (byte : ℕ) → HasMark byte (marked byte)
unfolding HasMark
mark_of byte = by (byte == 43) (byte == 45) (byte == 33) (byte == 63) (byte == 61) refl refl refl refl refl
  where
    by : (p q r s t : Bool) → (byte == 43) ≡ p → (byte == 45) ≡ q → (byte == 33) ≡ r → (byte == 63) ≡ s → (byte == 61) ≡ t
        → HasMark byte (cond p (Some kind.Insert) (cond q (Some kind.Delete) (cond r (Some kind.End) (cond s (Some kind.Report) (cond t (Some kind.Update) None)))))
    by true q r s t a b c d e = eqb-true byte 43 a
    by false true r s t a b c d e = eqb-true byte 45 b
    by false false true s t a b c d e = eqb-true byte 33 c
    by false false false true t a b c d e = eqb-true byte 63 d
    by false false false false true a b c d e = eqb-true byte 61 e
    by false false false false false a b c d e = tt

kind_said : (columns : ℕ) (limits : Limits) (byte : ℕ) (fields : Row) (k : Option Kind) → HasMark byte k → IsSaid columns limits ((byte ∷ []) ∷ fields) (entry_by columns limits k fields)
unfolding HasMark IsSaid
kind_said columns limits byte fields None h = inl tt
kind_said columns limits byte fields (Some kind.Insert) h = rw h (insertion_said columns limits fields)
kind_said columns limits byte fields (Some kind.Delete) h = rw h (deletion_said columns limits fields)
kind_said columns limits byte fields (Some kind.End) h = rw h (end_said columns limits fields)
kind_said columns limits byte fields (Some kind.Report) h = rw h (report_said columns limits fields)
kind_said columns limits byte fields (Some kind.Update) h = rw h (update_said columns limits fields)

pub entries_are_said : EntriesAreSaid
unfolding entry_of IsSaid
entries_are_said columns limits [] = inl tt
entries_are_said columns limits ([] ∷ fields) = inl tt
entries_are_said columns limits ((byte ∷ []) ∷ fields) = kind_said columns limits byte fields (marked byte) (mark_of byte)
entries_are_said columns limits ((byte ∷ other ∷ others) ∷ fields) = inl tt

-- ---- what a record says is read

pub what_is_said_is_read : WhatIsSaidIsRead
unfolding entry_of
what_is_said_is_read columns limits fields (Operation (op.Insert cells)) h =
    rw (h.0, eq-eqb (length cells) columns h.1.0, no_long_cell limits.cell cells h.1.1) refl
what_is_said_is_read columns limits fields (Operation (op.Delete n)) h = rw (h.0, read_back n h.1) refl
what_is_said_is_read columns limits fields (Operation (op.Update n cells)) h =
    rw (h.0, eq-eqb (length cells) columns h.2.0, read_back n h.1, no_long_cell limits.cell cells h.2.1) refl
what_is_said_is_read columns limits fields End h = rw h refl
what_is_said_is_read columns limits fields Report h = rw h refl
what_is_said_is_read columns limits fields (Malformed cause) h = absurd h
