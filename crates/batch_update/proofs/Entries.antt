-- What the fields of a record say.
use Rattle.std.proofs.Common.{◌≡◌, ◌<◌, eq-eqb, refl, arith, ℕ, [], ◌∷◌, length, drop, get_or, Option, Some, None, Bor}
use Rattle.std.specs.Option.{option_map}
use Rattle.csv.specs.Records.{field_at}
use Rattle.rel_base.specs.declared.limits.Limits.{Limits}
use Rattle.rel_base.specs.declared.batch.Op.TheVariants.{Delete, Update}
use Rattle.rel_base.specs.declared.why.Why.TheVariants as why
use Rattle.rel_base.specs.Cells.{Cell, Row}
use Rattle.rel_base.proofs.Fields.{field-now}
use Rattle.batch_update.specs.declared.entry.Entry.TheVariants.{Malformed, Operation}
use Rattle.batch_update.specs.declared.kind.Kind.{Kind}
use Rattle.batch_update.specs.Entry.{deletion, entry_by, entry_of, on_row, update, with_cells}
use Rattle.batch_update.specs.Kind.{kind_of}
use Rattle.batch_update.specs.RowNumber.{row_number}

-- ---- the second field

second_is : (fields : Row) → 1 < length fields → drop 1 fields ≡ get_or fields 1 [] ∷ drop 2 fields
second_is [] h = absurd (omega arith)
second_is (a ∷ []) h = absurd (omega arith)
second_is (a ∷ b ∷ fields) h = refl

no_third : (fields : Row) → length fields ≡ 2 → drop 2 fields ≡ []
no_third [] e = absurd (omega arith)
no_third (a ∷ []) e = absurd (omega arith)
no_third (a ∷ b ∷ []) e = refl
no_third (a ∷ b ∷ c ∷ fields) e = absurd (omega arith)

pub second : (fields : Row) (got : Option (Bor Cell)) (field : Bor Cell) → 1 < length fields → got ≡ Some field → option_map (λ s. s.now) got ≡ field_at fields 1
    → drop 1 fields ≡ field.now ∷ drop 2 fields
second fields got field there is e = rw (field-now got field fields 1 is there e) (second_is fields there)

-- a record that names a row
pub named_row : (fields : Row) (field : Cell) (number : Option ℕ) → length fields ≡ 2 → drop 1 fields ≡ field ∷ drop 2 fields → number ≡ row_number field
    → deletion (drop 1 fields) ≡ on_row number (λ n. Operation (Delete n))
named_row fields field number count e is = rw (is, e, no_third fields count) refl

-- a record that names a row and has cells for it
pub named_row_with_cells : (columns : ℕ) (limits : Limits) (fields : Row) (field : Cell) (number : Option ℕ) → length (drop 2 fields) ≡ columns
    → drop 1 fields ≡ field ∷ drop 2 fields → number ≡ row_number field
    → update columns limits (drop 1 fields) ≡ on_row number (λ n. with_cells limits (drop 2 fields) (Update n (drop 2 fields)))
named_row_with_cells columns limits fields field number width e is = rw (is, e, eq-eqb (length (drop 2 fields)) columns width) refl

-- ---- the first field

pub no_first : (columns : ℕ) (limits : Limits) (fields : Row) (got : Option (Bor Cell)) → got ≡ None → option_map (λ s. s.now) got ≡ field_at fields 0
    → Malformed why.Kind ≡ entry_of columns limits fields
unfolding entry_of field_at
no_first columns limits [] got is e = refl
no_first columns limits (first ∷ fields) got is e = absurd (never (rw is at e))
  where
    never : None ≡ Some first → ⊥
    never e = cc

-- the first field is there, and the record says what its kind makes of the others
pub record FirstIs (columns : ℕ) (limits : Limits) (fields : Row) (kind : Option Kind) : Type 0 where
  pub some : 0 < length fields
  pub says : entry_by columns limits kind (drop 1 fields) ≡ entry_of columns limits fields

pub first_is : (columns : ℕ) (limits : Limits) (fields : Row) (got : Option (Bor Cell)) (field : Bor Cell) (kind : Option Kind)
    → got ≡ Some field → option_map (λ s. s.now) got ≡ field_at fields 0 → kind ≡ kind_of field.now → FirstIs columns limits fields kind
unfolding entry_of field_at
first_is columns limits [] got field kind is e k = absurd (never (rw is at e))
  where
    never : Some field.now ≡ None → ⊥
    never e = cc
first_is columns limits (first ∷ fields) got field kind is e k = record {
  some = omega arith;
  says = rw (k, same (rw is at e)) refl;
}
  where
    same : Some field.now ≡ Some first → field.now ≡ first
    same e = cc
