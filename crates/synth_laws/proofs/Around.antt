-- Each table lies inside one that is kept.
use Rattle.std.proofs.Common.{inl, inr, ◌≡◌, Bool, true, false, cond, ◌||◌, refl, sym, ap, ap₂, ◌∙◌, subst, List, [], ◌∷◌, ◌++◌, append_assoc}
use Rattle.std.specs.List.{list_any}
use Rattle.std.proofs.lemmas.Bool.{true≢false, false_from_ne_true}
use Rattle.std.proofs.lemmas.List.{append-nil}
use Rattle.col_set.specs.ColSet.{Columns, IsSubset, subset}
use Rattle.col_set.specs.Minimal.{proper_subset}
use Rattle.col_set.specs.Lists.{Listed, Listed-append_right, list_any_which}
use Rattle.col_set.specs.Subsets.{IsSubset-refl, IsSubset-trans, IsSubset-antisymm, subset-true, true-subset, proper_parts}
use Rattle.rel_base.specs.declared.dependency.Table.{Table}
use Rattle.synth_3nf.specs.Tables.{is_inside, outermost}

abbrev lies : Table → Table → Bool
lies t e = subset t.columns e.columns

abbrev lies_properly : Table → Table → Bool
lies_properly t l = proper_subset t.columns l.columns

-- a table around c that is not inside an earlier one, nor properly inside a later one
record Outer (ts : List Table) (c : Columns) : Type 0 where
  before : List Table
  table : Table
  after : List Table
  is : ts ≡ before ++ table ∷ after
  contains : IsSubset c table.columns
  first : list_any (lies table) before ≡ false
  last : list_any (lies_properly table) after ≡ false

outer-more : (one : Table) (ts : List Table) (c d : Columns) → IsSubset c d → (IsSubset d one.columns → ⊥) → Outer ts d → Outer (one ∷ ts) c
outer-more one ts c d s out v = record {
  before = one ∷ v.before;
  table = v.table;
  after = v.after;
  is = ap (λ (l : List Table). one ∷ l) v.is;
  contains = IsSubset-trans s v.contains;
  first = ap₂ (λ (p q : Bool). p || q) (false_from_ne_true (lies v.table one) (λ e. out (IsSubset-trans v.contains (subset-true e)))) v.first;
  last = v.last;
}

outer-of : (ts : List Table) (c : Columns) (t : Table) → Listed t ts → IsSubset c t.columns → Outer ts c
outer-of [] c t h s = absurd h
outer-of (one ∷ ts) c t h s = by (subset c one.columns) (list_any (lies_properly one) ts) refl refl (outer-of ts)
  where
    there : subset c one.columns ≡ false → Listed t (one ∷ ts) → Listed t ts
    there e (inl i) = absurd (true≢false (sym (true-subset (subst (λ (u : Table). IsSubset c u.columns) i s)) ∙ e))
    there e (inr g) = g

    by : (p q : Bool) → subset c one.columns ≡ p → list_any (lies_properly one) ts ≡ q → ((c : Columns) (t : Table) → Listed t ts → IsSubset c t.columns → Outer ts c) → Outer (one ∷ ts) c
    by false q e f rec = outer-more one ts c c (IsSubset-refl c) (λ i. true≢false (sym (true-subset i) ∙ e)) (rec c t (there e h) s)
    by true false e f rec = record { before = []; table = one; after = ts; is = refl; contains = subset-true e; first = refl; last = f }
    by true true e f rec =
        let w = list_any_which (lies_properly one) ts f in
        let q = proper_parts w.2 in
        outer-more one ts c w.0.columns (IsSubset-trans (subset-true e) q.0) (λ i. q.1 (IsSubset-antisymm q.0 i)) (rec w.0.columns w.0 w.1 (IsSubset-refl w.0.columns))

outermost-keeps : (earlier before : List Table) (u : Table) (after : List Table) → is_inside (earlier ++ before) after u ≡ false → Listed u (outermost earlier (before ++ u ∷ after))
unfolding outermost
outermost-keeps earlier [] u after e =
    subst (λ (b : Bool). Listed u (cond b [] (u ∷ []) ++ outermost (earlier ++ u ∷ []) after)) (sym (ap (λ (l : List Table). is_inside l after u) (sym (append-nil earlier)) ∙ e)) (inl refl)
outermost-keeps earlier (b ∷ before) u after e =
    Listed-append_right u (cond (is_inside earlier (before ++ u ∷ after) b) [] (b ∷ [])) (outermost (earlier ++ b ∷ []) (before ++ u ∷ after))
    (outermost-keeps (earlier ++ b ∷ []) before u after (ap (λ (l : List Table). is_inside l after u) (append_assoc earlier (b ∷ []) before) ∙ e))

pub record Around (ts : List Table) (t : Table) : Type 0 where
  pub table : Table
  pub listed : Listed table (outermost [] ts)
  pub contains : IsSubset t.columns table.columns

pub around : (ts : List Table) (t : Table) → Listed t ts → Around ts t
around ts t h =
    let v = outer-of ts t.columns t h (IsSubset-refl t.columns) in
    record {
      table = v.table;
      listed = subst (λ (l : List Table). Listed v.table (outermost [] l)) (sym v.is) (outermost-keeps [] v.before v.table v.after (ap₂ (λ (p q : Bool). p || q) v.first v.last));
      contains = v.contains;
    }
