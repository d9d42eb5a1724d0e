-- Tables keep the canonical dependencies, and their keys reach them.
use Rattle.std.proofs.Common.{inl, inr, ◌≡◌, ◌⊎◌, ℕ, ◌<◌, ◌^◌, Bool, true, false, cond, ◌&&◌, eqb, refl, sym, ap, ◌∙◌, subst, List, [], ◌∷◌, ◌++◌}
use Rattle.std.specs.List.{All, list_any}
use Rattle.std.proofs.lemmas.Bool.{and_parts, and_from, or_cases, or_left, or_right, eqb-true, eq-eqb}
use Rattle.col_set.specs.ColSet.{Columns, IsSubset, all, has, all_sets}
use Rattle.col_set.specs.AllSets.{Listed-all_sets}
use Rattle.col_set.specs.Lists.{Listed, Listed-append_left, Listed-append_right, Listed-append_cases, Listed-filter, Listed-map, Listed-map_which, list_any_at, list_any_which}
use Rattle.col_set.specs.Subsets.{IsSubset-refl, IsSubset-trans, subset-true, true-subset}
use Rattle.col_set.proofs.Places.{Contains-listed, Listed-contained}
use Rattle.rel_base.specs.declared.dependency.Fd.{Fd}
use Rattle.rel_base.specs.declared.dependency.Table.{Table}
use Rattle.rel_base.proofs.States.{All-listed}
use Rattle.fd_closure.proofs.Shrinking.{shrunk-passes}
use Rattle.synth_3nf.specs.Reached.{reached}
use Rattle.synth_3nf.specs.Canonical.{canonical}
use Rattle.synth_3nf.specs.Tables.{left_sides, with_rights, tables_of_lefts, reaches_all, whole_key, with_key_table, outermost, synthesis}
use Rattle.synth_3nf.proofs.Trials.{canonical-listed, canonical-reached}
use Rattle.synth_3nf.proofs.Tabling.{has-with_rights}
use Rattle.synth_3nf.proofs.Below.{outermost-listed}
use Rattle.synth_laws.specs.Keeping.{CanonicalMeans, TablesKeep, IsReachedByKey, TablesReach}
use Rattle.synth_laws.proofs.Reach.{reached-own, reached-by, reached-more}
use Rattle.synth_laws.proofs.Needed.{canonical-needed}
use Rattle.synth_laws.proofs.Around.{around}

-- ---- canonical dependencies
pub CanonicalMeans-canonical : (fds : List Fd) → CanonicalMeans fds
CanonicalMeans-canonical fds = record {
  listed = λ fd h. Contains-listed fd fds (canonical-listed fds fd (Listed-contained fd (canonical fds) h));
  follow = λ fd h. ap (λ (x : Columns). has x fd.right) (canonical-reached fds fd.left) ∙ reached-by fds fd.left fd (Listed-contained fd fds h) (reached-own fds fd.left);
  needed = canonical-needed fds;
}

-- ---- the table of a left side
abbrev pub left_table : List Fd → Columns → Table
left_table kept x = record { columns = with_rights kept x; key = x }

pub with_rights-own : (kept : List Fd) (x : Columns) → IsSubset x (with_rights kept x)
with_rights-own kept x = record { each = λ k h. has-with_rights kept x k ∙ or_left _ _ h }

pub with_rights-right : (kept : List Fd) (fd : Fd) → Listed fd kept → has (with_rights kept fd.left) fd.right ≡ true
with_rights-right kept fd h =
    has-with_rights kept fd.left fd.right ∙ or_right (has fd.left fd.right) _ (list_any_at (λ (f : Fd). eqb f.left fd.left && eqb f.right fd.right) fd kept h (and_from _ _ (eq-eqb fd.left fd.left refl) (eq-eqb fd.right fd.right refl)))

-- a column of it is one of the left side or the right column of a dependency
pub record IsRight (kept : List Fd) (x a : ℕ) : Type 0 where
  pub fd : Fd
  pub listed : Listed fd kept
  pub left : fd.left ≡ x
  pub right : fd.right ≡ a

pub with_rights-cases : (kept : List Fd) (x a : ℕ) → has (with_rights kept x) a ≡ true → (has x a ≡ true) ⊎ IsRight kept x a
with_rights-cases kept x a h = by (or_cases (has x a) _ (sym (has-with_rights kept x a) ∙ h))
  where
    by : (has x a ≡ true) ⊎ (list_any (λ (fd : Fd). eqb fd.left x && eqb fd.right a) kept ≡ true) → (has x a ≡ true) ⊎ IsRight kept x a
    by (inl e) = inl e
    by (inr e) =
        let w = list_any_which (λ (fd : Fd). eqb fd.left x && eqb fd.right a) kept e in
        let q = and_parts (eqb w.0.left x) (eqb w.0.right a) w.2 in
        inr (record { fd = w.0; listed = w.1; left = eqb-true w.0.left x q.0; right = eqb-true w.0.right a q.1 })

pub with_rights-reached : (kept : List Fd) (x : Columns) → IsSubset (with_rights kept x) (reached kept x)
with_rights-reached kept x = record { each = λ a h. by a (with_rights-cases kept x a h) }
  where
    by : (a : ℕ) → (has x a ≡ true) ⊎ IsRight kept x a → has (reached kept x) a ≡ true
    by a (inl e) = (reached-own kept x).each a e
    by a (inr w) = subst (λ (k : ℕ). has (reached kept x) k ≡ true) w.right (reached-by kept x w.fd w.listed (subst (λ (y : Columns). IsSubset y (reached kept x)) (sym w.left) (reached-own kept x)))

pub left_table-listed : (n : ℕ) (kept : List Fd) (fd : Fd) → Listed fd kept → fd.left < 2 ^ n → Listed (left_table kept fd.left) (tables_of_lefts n kept)
unfolding left_sides
left_table-listed n kept fd h l = Listed-map (left_table kept) fd.left (left_sides n kept)
    (Listed-filter (λ x. list_any (λ (f : Fd). eqb f.left x) kept) fd.left (all_sets n) (Listed-all_sets n fd.left l) (list_any_at (λ (f : Fd). eqb f.left fd.left) fd kept h (eq-eqb fd.left fd.left refl)))

-- ---- with the key table
abbrev pub key_table : ℕ → List Fd → Table
key_table n fds = record { columns = whole_key n fds; key = whole_key n fds }

pub with_key-more : (n : ℕ) (fds : List Fd) (ts : List Table) (t : Table) → Listed t ts → Listed t (with_key_table n fds ts)
unfolding with_key_table
with_key-more n fds ts t h = by (list_any (λ (t : Table). reaches_all n fds t.columns) ts)
  where
    by : (b : Bool) → Listed t (cond b ts (ts ++ key_table n fds ∷ []))
    by true = h
    by false = Listed-append_left t ts (key_table n fds ∷ []) h

pub with_key-cases : (n : ℕ) (fds : List Fd) (ts : List Table) (t : Table) → Listed t (with_key_table n fds ts) → Listed t ts ⊎ (t ≡ key_table n fds)
unfolding with_key_table
with_key-cases n fds ts t h = by (list_any (λ (t : Table). reaches_all n fds t.columns) ts) h
  where
    last : Listed t ts ⊎ Listed t (key_table n fds ∷ []) → Listed t ts ⊎ (t ≡ key_table n fds)
    last (inl g) = inl g
    last (inr (inl e)) = inr e
    last (inr (inr g)) = absurd g

    by : (b : Bool) → Listed t (cond b ts (ts ++ key_table n fds ∷ [])) → Listed t ts ⊎ (t ≡ key_table n fds)
    by true g = inl g
    by false g = last (Listed-append_cases t ts (key_table n fds ∷ []) g)

pub whole_key-reaches : (n : ℕ) (fds : List Fd) → reaches_all n fds (whole_key n fds) ≡ true
unfolding whole_key
whole_key-reaches n fds = shrunk-passes (reaches_all n fds) n (all n) (true-subset (reached-own fds (all n)))

record Whole (n : ℕ) (fds : List Fd) (ts : List Table) : Type 0 where
  table : Table
  listed : Listed table ts
  reaches : IsSubset (all n) (reached fds table.columns)

with_key-whole : (n : ℕ) (fds : List Fd) (ts : List Table) → Whole n fds (with_key_table n fds ts)
unfolding with_key_table
with_key-whole n fds ts = by (list_any (λ (t : Table). reaches_all n fds t.columns) ts) refl
  where
    by : (b : Bool) → list_any (λ (t : Table). reaches_all n fds t.columns) ts ≡ b → Whole n fds (cond b ts (ts ++ key_table n fds ∷ []))
    by true e = let w = list_any_which (λ (t : Table). reaches_all n fds t.columns) ts e in record { table = w.0; listed = w.1; reaches = subset-true w.2 }
    by false e = record { table = key_table n fds; listed = Listed-append_right (key_table n fds) ts (key_table n fds ∷ []) (inl refl); reaches = subset-true (whole_key-reaches n fds) }

-- ---- the tables
abbrev pub unkept : ℕ → List Fd → List Table
unkept n fds = with_key_table n fds (tables_of_lefts n (canonical fds))

-- which kind of table one is
pub record IsLeftTable (n : ℕ) (fds : List Fd) (t : Table) : Type 0 where
  pub left : Columns
  pub listed : Listed left (left_sides n (canonical fds))
  pub is : t ≡ left_table (canonical fds) left

pub synthesis-cases : (n : ℕ) (fds : List Fd) (t : Table) → Listed t (synthesis n fds) → IsLeftTable n fds t ⊎ (t ≡ key_table n fds)
unfolding synthesis
synthesis-cases n fds t h = by (with_key-cases n fds (tables_of_lefts n (canonical fds)) t (outermost-listed [] (unkept n fds) t h))
  where
    by : Listed t (tables_of_lefts n (canonical fds)) ⊎ (t ≡ key_table n fds) → IsLeftTable n fds t ⊎ (t ≡ key_table n fds)
    by (inl g) = let w = Listed-map_which (left_table (canonical fds)) t (left_sides n (canonical fds)) g in inl (record { left = w.0; listed = w.1; is = w.2 })
    by (inr e) = inr e

pub TablesKeep-synthesis : (n : ℕ) (fds : List Fd) → All (λ fd. fd.left < 2 ^ n) fds → TablesKeep n fds
unfolding synthesis
TablesKeep-synthesis n fds low fd h =
    let l = Listed-contained fd (canonical fds) h in
    let kept = canonical fds in
    let v = around (unkept n fds) (left_table kept fd.left) (with_key-more n fds (tables_of_lefts n kept) (left_table kept fd.left) (left_table-listed n kept fd l (All-listed (λ (f : Fd). f.left < 2 ^ n) fd fds low (canonical-listed fds fd l)))) in
    record {
      table = v.table;
      listed = Contains-listed v.table (outermost [] (unkept n fds)) v.listed;
      left = IsSubset-trans (with_rights-own kept fd.left) v.contains;
      right = v.contains.each fd.right (with_rights-right kept fd l);
    }

left_table-key : (fds : List Fd) (x : Columns) → IsReachedByKey fds (left_table (canonical fds) x)
left_table-key fds x = record {
  inside = with_rights-own (canonical fds) x;
  reaches = subst (IsSubset (with_rights (canonical fds) x)) (canonical-reached fds x) (with_rights-reached (canonical fds) x);
}

synthesis-key : (n : ℕ) (fds : List Fd) (t : Table) → IsLeftTable n fds t ⊎ (t ≡ key_table n fds) → IsReachedByKey fds t
synthesis-key n fds t (inl w) = subst (IsReachedByKey fds) (sym w.is) (left_table-key fds w.left)
synthesis-key n fds t (inr e) = subst (IsReachedByKey fds) (sym e) (record { inside = IsSubset-refl (whole_key n fds); reaches = reached-own fds (whole_key n fds) })

pub TablesReach-synthesis : (n : ℕ) (fds : List Fd) → TablesReach n fds
unfolding synthesis
TablesReach-synthesis n fds =
    let w = with_key-whole n fds (tables_of_lefts n (canonical fds)) in
    let v = around (unkept n fds) w.table w.listed in
    record {
      keys = λ t h. synthesis-key n fds t (synthesis-cases n fds t (Listed-contained t (synthesis n fds) h));
      whole = record {
        table = v.table;
        listed = Contains-listed v.table (outermost [] (unkept n fds)) v.listed;
        reaches = IsSubset-trans w.reaches (reached-more fds w.table.columns v.table.columns v.contains);
      };
    }
