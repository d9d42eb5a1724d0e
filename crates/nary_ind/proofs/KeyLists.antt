-- Lists of keys that are kept.
use Rattle.std.proofs.Common.{◌≡◌, ℕ, sym, ap, ◌∙◌, subst, arith, List, [], ◌∷◌, ◌++◌, ◌+◌, length, get_or, Some}
use Rattle.std.specs.Prelude.{slice_get}
use Rattle.std.specs.List.{All}
use Rattle.std.specs.List.Sorted.{IsStrictlyIncreasing}
use Rattle.std.proofs.lemmas.List.{get_or_push, length_push}
use Rattle.std.proofs.lemmas.List.Elements.{All-get_or, All-push}
use Rattle.std.proofs.lemmas.Option.{get_or_from_slice_get, slice_get-get_or, slice_get_within}
use Rattle.nary_ind.specs.declared.found.Side.{Side}
use Rattle.nary_ind.specs.declared.key_lists.Entry.{Entry}
use Rattle.nary_ind.specs.declared.key_lists.KeyLists.{KeyLists}
use Rattle.nary_ind.specs.Tables.{Coded, table_at}
use Rattle.nary_ind.specs.Keys.{AreEntries, AreKeysIn, IsEntry, IsEntryOf}

module _ (l : KeyLists) (are : AreEntries l) (place : ℕ) (side : Side) (here : IsEntryOf l place side) where
  entry-good : IsEntry l.tables.items here.0
  entry-good =
      subst (IsEntry l.tables.items) (get_or_from_slice_get l.entries.items place here.0 here.0 here.1)
      (All-get_or (IsEntry l.tables.items) l.entries.items place here.0 (slice_get_within l.entries.items place here.0 here.1) are)

  pub entry-rises : (e : Entry) → slice_get l.entries.items place ≡ Some e → IsStrictlyIncreasing e.keys.items
  entry-rises e at = subst (λ (x : Entry). IsStrictlyIncreasing x.keys.items) (same e at) entry-good.rises
    where
      same : (e : Entry) → slice_get l.entries.items place ≡ Some e → here.0 ≡ e
      same e at = sym (get_or_from_slice_get l.entries.items place here.0 here.0 here.1) ∙ get_or_from_slice_get l.entries.items place e here.0 at

  pub entry-keys : (e : Entry) → slice_get l.entries.items place ≡ Some e → AreKeysIn (table_at l.tables.items side.rel) side.columns e.keys.items
  entry-keys e at =
      subst (λ (x : Entry). AreKeysIn (table_at l.tables.items side.rel) side.columns x.keys.items) (same e at)
      (subst (λ (s : Side). AreKeysIn (table_at l.tables.items s.rel) s.columns here.0.keys.items) here.2 entry-good.each)
    where
      same : (e : Entry) → slice_get l.entries.items place ≡ Some e → here.0 ≡ e
      same e at = sym (get_or_from_slice_get l.entries.items place here.0 here.0 here.1) ∙ get_or_from_slice_get l.entries.items place e here.0 at

-- ---- an entry more
pub entries-more : (ts : List Coded) (old new : List Entry) (e : Entry) → All (IsEntry ts) old → new ≡ old ++ e ∷ [] → IsEntry ts e → All (IsEntry ts) new
entries-more ts old new e all is good = subst (All (IsEntry ts)) (sym is) (All-push (IsEntry ts) old e all good)

pub pushed-at : (old new : List Entry) (e : Entry) (n : ℕ) → n ≡ length old → new ≡ old ++ e ∷ [] → slice_get new n ≡ Some e
pushed-at old new e n at is =
    let l : length new ≡ length old + 1 = ap length is ∙ length_push old e in
    slice_get-get_or new n e (omega arith) ∙ ap Some (ap (λ (es : List Entry). get_or es n e) is ∙ get_or_push old e e n (sym at))

pub read-table : (ts : List Coded) (p : ℕ) (t : Coded) → slice_get ts p ≡ Some t → t ≡ table_at ts p
read-table ts p t e = sym (get_or_from_slice_get ts p t (record { rows = 0; columns = [] }) e)
