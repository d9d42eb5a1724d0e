-- The entries of a text that is parted at a record that is far too wide.
use Rattle.std.proofs.Common.{◌≡◌, ◌==◌, ◌∙◌, ap, refl, sym, arith, ◌+◌, ◌<◌, ◌≤◌, ℕ, List, [], ◌∷◌, ◌++◌, append_assoc, length, length-append, map, false, Option, Some, None}
use Rattle.std.proofs.lemmas.Bool.{ne_eqb}
use Rattle.std.proofs.lemmas.List.{map-append}
use Rattle.rel_base.specs.declared.limits.Limits.{Limits}
use Rattle.rel_base.specs.declared.why.Why.TheVariants as why
use Rattle.rel_base.specs.Cells.{Row}
use Rattle.csv_load.specs.Records.{records_of}
use Rattle.csv_load.specs.Parting.{IsParted}
use Rattle.batch_update.specs.declared.entry.Entry.{Entry}
use Rattle.batch_update.specs.declared.entry.Entry.TheVariants.{End, Malformed, Report}
use Rattle.batch_update.specs.declared.kind.Kind.{Kind}
use Rattle.batch_update.specs.declared.kind.Kind.TheVariants as kind
use Rattle.batch_update.specs.Entry.{alone, deletion, entry_by, entry_of, insertion, update}
use Rattle.batch_update.specs.Kind.{kind_of}

-- ---- a record with more fields than an operation has

-- why such a record is malformed
abbrev wide_cause : Option Kind → Entry
wide_cause None = Malformed why.Kind
wide_cause (Some k) = Malformed why.Fields

wide_insertion : (columns : ℕ) (limits : Limits) (fields : Row) → columns + 1 < length fields → insertion columns limits fields ≡ Malformed why.Fields
wide_insertion columns limits fields h = let other : length fields == columns ≡ false = ne_eqb (length fields) columns (omega (arith, h)) in rw other refl

wide_deletion : (columns : ℕ) (fields : Row) → columns + 1 < length fields → deletion fields ≡ Malformed why.Fields
wide_deletion columns [] h = refl
wide_deletion columns (field ∷ []) h = absurd (omega (arith, h))
wide_deletion columns (field ∷ other ∷ others) h = refl

wide_update : (columns : ℕ) (limits : Limits) (fields : Row) → columns + 1 < length fields → update columns limits fields ≡ Malformed why.Fields
wide_update columns limits [] h = refl
wide_update columns limits (field ∷ cells) h = let other : length cells == columns ≡ false = ne_eqb (length cells) columns (omega (arith, h)) in rw other refl

wide_alone : (columns : ℕ) (fields : Row) (entry : Entry) → columns + 1 < length fields → alone fields entry ≡ Malformed why.Fields
wide_alone columns [] entry h = absurd (omega (arith, h))
wide_alone columns (field ∷ fields) entry h = refl

wide_by : (columns : ℕ) (limits : Limits) (o : Option Kind) (fields : Row) → columns + 1 < length fields → entry_by columns limits o fields ≡ wide_cause o
wide_by columns limits None fields h = refl
wide_by columns limits (Some kind.Insert) fields h = wide_insertion columns limits fields h
wide_by columns limits (Some kind.Delete) fields h = wide_deletion columns fields h
wide_by columns limits (Some kind.End) fields h = wide_alone columns fields End h
wide_by columns limits (Some kind.Report) fields h = wide_alone columns fields Report h
wide_by columns limits (Some kind.Update) fields h = wide_update columns limits fields h

-- two such records that begin alike are malformed for the same cause
same_entry : (columns : ℕ) (limits : Limits) (fields some others : Row) → columns + 2 ≤ length fields → 0 < length some → 0 < length others
    → entry_of columns limits (fields ++ some) ≡ entry_of columns limits (fields ++ others)
unfolding entry_of
same_entry columns limits [] some others h k l = absurd (omega (arith, h))
same_entry columns limits (first ∷ fields) some others h k l =
    wide_by columns limits (kind_of first) (fields ++ some) (rw length-append (omega (arith, h, k)))
    ∙ sym (wide_by columns limits (kind_of first) (fields ++ others) (rw length-append (omega (arith, h, l))))

-- ---- the two parts of a text

pub record ArePartsOf (columns : ℕ) (limits : Limits) (bytes upto behind : List ℕ) : Type 0 where
  pub entries : map (entry_of columns limits) (records_of bytes) ≡ map (entry_of columns limits) (records_of upto) ++ map (entry_of columns limits) (records_of behind)
  pub count : length (records_of bytes) ≡ length (records_of upto) + length (records_of behind)
  pub some : 0 < length (records_of upto)

pub parts_are : (columns limit : ℕ) (limits : Limits) (bytes upto behind : List ℕ) → columns + 2 ≤ limit → IsParted limit bytes upto behind
    → ArePartsOf columns limits bytes upto behind
parts_are columns limit limits bytes upto behind enough h =
    let many = h.many in
    let here = same_entry columns limits h.fields (h.field ∷ []) h.others (omega (arith, many)) (omega arith) h.some in
    let row : Row = h.fields ++ h.others in
    let short : Row = h.fields ++ h.field ∷ [] in
    let say : Row → Entry = entry_of columns limits in
    let later = records_of behind in
    record {
      entries = ap (map say) h.records_are ∙ map-append say h.earlier (row ∷ later)
          ∙ ap (λ (e : Entry). map say h.earlier ++ e ∷ map say later) (sym here)
          ∙ sym (append_assoc (map say h.earlier) (say short ∷ []) (map say later))
          ∙ ap (λ (es : List Entry). es ++ map say later) (sym (map-append say h.earlier (short ∷ [])) ∙ ap (map say) (sym h.upto_are));
      count = rw (h.records_are, h.upto_are, length-append, length-append) (omega arith);
      some = rw (h.upto_are, length-append) (omega arith);
    }
