-- The tables of a set, with their keys: of one without a violation, and of one that is parted.
use Rattle.std.proofs.Common.{inl, inr, ◌≡◌, ◌⊎◌, ℕ, ◌<◌, ◌^◌, Bool, true, refl, sym, ap, ap₂, ◌∙◌, subst, arith, List, [], ◌∷◌, ◌++◌, map, length, get_or, append_assoc, Option, Some, None, Result, Ok, Err}
use Rattle.std.specs.Prelude.{OnOk, IsNone, ◌↔◌}
use Rattle.std.specs.List.{Contains}
use Rattle.std.specs.List.Sorted.{IsBinarySearchResult, IsSearchInRange}
use Rattle.std.specs.Result.{is_ok}
use Rattle.std.proofs.lemmas.Bool.{false≢true, ltb-true}
use Rattle.std.proofs.lemmas.Option.{none-some}
use Rattle.col_set.specs.ColSet.{Columns, all, subset, union, minus, report_cmp}
use Rattle.col_set.specs.Members.{has-all}
use Rattle.col_set.specs.AllSets.{report_cmp-same}
use Rattle.col_set.specs.Subsets.{below_from}
use Rattle.rel_base.specs.declared.dependency.Table.{Table}
use Rattle.rel_base.specs.RowState.{RowState, IsRowState, width}
use Rattle.rel_base.specs.Covers.{CoverLists, covers}
use Rattle.rel_base.proofs.States.{live_climbs}
use Rattle.fd_closure.specs.Closure.{closure_of}
use Rattle.fd_closure.specs.Keys.{shrunk, table_key}
use Rattle.fd_closure.proofs.Telling.{shrunk-table_key}
use Rattle.bcnf_split.specs.declared.parted.Parting.{Parting}
use Rattle.bcnf_split.specs.Bcnf.{IsBcnf, IsTableOf, first_violation}
use Rattle.bcnf_split.specs.Split.{splits, tables_of}
use Rattle.bcnf_split.specs.Search.{IsViolation, IsFoundBy}
use Rattle.bcnf_split.proofs.Violating.{first-cases, IsBcnf-none, none-IsBcnf}
use Rattle.bcnf_split.proofs.Splitting.{splits-whole, splits-parted}
use Rattle.bcnf_split.proofs.Searching.{found_first}

pub on_ok : {T E P Q : Type 0} (o : Result T E) → (P → Q) → OnOk o P → OnOk o Q
on_ok (Ok x) f h = f h
on_ok (Err e) f h = h

pub key_found : (keys : List ℕ) (x : ℕ) (found : Result ℕ ℕ) (answer : Bool) → IsSearchInRange found (length keys) → IsBinarySearchResult (λ y. report_cmp y x) keys found → answer ≡ is_ok found → answer ≡ true → Contains keys x
key_found keys x (Ok k) answer l p e t = (k, l, report_cmp-same (get_or keys k x) x (p x))
key_found keys x (Err k) answer l p e t = absurd (false≢true (sym e ∙ t))

-- what the search answers of normal form
pub none-normal : (lists : CoverLists) (r : RowState) (s : ℕ) (o : Option ℕ) → IsTableOf lists r s → o ≡ first_violation r s → IsNone o ↔ IsBcnf r s
none-normal lists r s o t e = (λ h. IsBcnf-none r s t.below (live_climbs r t.state) (sym e ∙ is_none o h), λ b. from_none o (e ∙ none-IsBcnf r s (live_climbs r t.state) b))
  where
    is_none : (o : Option ℕ) → IsNone o → o ≡ None
    is_none None h = refl
    is_none (Some x) h = absurd (none_none h)
      where
        none_none : IsNone (Some x) → ⊥
        none_none h = cc

    from_none : (o : Option ℕ) → o ≡ None → IsNone o
    from_none None e = refl
    from_none (Some x) e = absurd (none-some x (sym e))

module _ (lists : CoverLists) (r : RowState) (s : Columns) (table : IsTableOf lists r s) where
  -- ---- of a table without a violation
  pub tables_whole : (key : ℕ) → key ≡ shrunk (λ x. subset s (closure_of lists.fds x)) 128 s → ((x : ℕ) → first_violation r s ≡ Some x → IsFoundBy x None) → record { columns = s; key = key } ∷ [] ≡ tables_of r s
  tables_whole key k none =
      ap (λ (z : ℕ). record { columns = s; key = z } ∷ []) (k ∙ ap (λ (l : CoverLists). shrunk (λ x. subset s (closure_of l.fds x)) 128 s) table.own ∙ shrunk-table_key r s table.state.narrow table.below)
      ∙ ap (map (λ (t : ℕ). record { columns = t; key = table_key r t })) (sym (splits-whole r s (by (first-cases r s))))
    where
      by : (first_violation r s ≡ None) ⊎ ((x : ℕ) × (first_violation r s ≡ Some x)) → first_violation r s ≡ None
      by (inl e) = e
      by (inr w) = absurd (none w.0 w.1)

  -- ---- of one that is parted
  map-append : (f : ℕ → Table) (xs ys : List ℕ) → map f (xs ++ ys) ≡ map f xs ++ map f ys
  map-append f [] ys = refl
  map-append f (x ∷ xs) ys = ap (λ (zs : List Table). f x ∷ zs) (map-append f xs ys)

  pub tables_parted : (p : Parting) → IsViolation r s p → ((x : ℕ) → first_violation r s ≡ Some x → IsFoundBy x (Some p)) → tables_of r (minus s p.dependents) ++ tables_of r (union p.left p.dependents) ≡ tables_of r s
  tables_parted p v f =
      let e : first_violation r s ≡ Some p.left = sym (found_first r s (Some p) table.below v f) in
      sym (map-append (λ (t : ℕ). record { columns = t; key = table_key r t }) (splits r (minus s p.dependents)) (splits r (union p.left p.dependents)))
      ∙ ap (λ (d : ℕ). map (λ (t : ℕ). record { columns = t; key = table_key r t }) (splits r (minus s d) ++ splits r (union p.left d))) v.all
      ∙ ap (map (λ (t : ℕ). record { columns = t; key = table_key r t })) (sym (splits-parted r s p.left table.below e))

  pub part_table : (part t : ℕ) → part ≡ t → t < s → IsTableOf lists r part
  part_table part t e l = let b = table.below in record { state = table.state; own = table.own; below = omega arith }

  -- the tables of the two parts, one after the other, behind those before
  pub tables_joined : (p : Parting) (before with_rest with_moved : List Table) (rest moved : ℕ) → rest ≡ minus s p.dependents → moved ≡ union p.left p.dependents → IsViolation r s p → ((x : ℕ) → first_violation r s ≡ Some x → IsFoundBy x (Some p)) →
      with_rest ≡ before ++ tables_of r rest → with_moved ≡ with_rest ++ tables_of r moved → with_moved ≡ before ++ tables_of r s
  tables_joined p before with_rest with_moved rest moved d e v f g h =
      h ∙ ap (λ (ts : List Table). ts ++ tables_of r moved) g ∙ append_assoc before (tables_of r rest) (tables_of r moved)
      ∙ ap (λ (ts : List Table). before ++ ts) (ap₂ (λ (a b : ℕ). tables_of r a ++ tables_of r b) d e ∙ tables_parted p v f)

pub all-below : (n : ℕ) → all n < 2 ^ n
all-below n = below_from (all n) n (λ k h. ltb-true k n (sym (has-all n k) ∙ h))

pub all_table : (lists : CoverLists) (r : RowState) (n s : ℕ) → IsRowState r → width r ≡ n → lists ≡ covers r → s ≡ all n → IsTableOf lists r s
all_table lists r n s is w e i = record { state = is; own = e; below = subst (λ (z : ℕ). z < 2 ^ width r) (ap all w ∙ sym i) (all-below (width r)) }
