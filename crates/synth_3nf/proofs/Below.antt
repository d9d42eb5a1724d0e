-- The columns of tables are columns of the relation.
use Rattle.std.proofs.Common.{inl, inr, ◌≡◌, ◌⊎◌, ℕ, ◌<◌, ◌^◌, Bool, true, false, cond, ◌&&◌, eqb, sym, ◌∙◌, subst, List, [], ◌∷◌, ◌++◌}
use Rattle.std.specs.List.{All, list_any}
use Rattle.std.proofs.lemmas.Bool.{and_parts, or_cases, eqb-true, ltb-true}
use Rattle.col_set.specs.ColSet.{Columns, has, all, all_sets}
use Rattle.col_set.specs.Members.{has-all}
use Rattle.col_set.specs.Subsets.{below_from, subset_below, has_within}
use Rattle.col_set.specs.Lists.{Listed, Listed-filter_parts, Listed-map_which, Listed-append_cases, list_any_which}
use Rattle.col_set.specs.AllSets.{all_sets_below}
use Rattle.rel_base.specs.declared.dependency.Fd.{Fd}
use Rattle.rel_base.specs.declared.dependency.Table.{Table}
use Rattle.rel_base.proofs.States.{All-listed, All-from}
use Rattle.fd_closure.proofs.Shrinking.{shrunk-inside}
use Rattle.synth_3nf.specs.Canonical.{canonical}
use Rattle.synth_3nf.specs.Tables.{is_inside, left_sides, with_rights, tables_of_lefts, reaches_all, whole_key, with_key_table, outermost, synthesis}
use Rattle.synth_3nf.proofs.Trials.{canonical-All}
use Rattle.synth_3nf.proofs.Tabling.{has-with_rights}

pub all-below : (n : ℕ) → all n < 2 ^ n
all-below n = below_from (all n) n (λ k h. ltb-true k n (sym (has-all n k) ∙ h))

pub outermost-listed : (earlier later : List Table) (t : Table) → Listed t (outermost earlier later) → Listed t later
unfolding outermost
outermost-listed earlier [] t h = absurd h
outermost-listed earlier (u ∷ later) t h = by (is_inside earlier later u) (outermost-listed (earlier ++ u ∷ []) later t) h
  where
    by : (b : Bool) → (Listed t (outermost (earlier ++ u ∷ []) later) → Listed t later) → Listed t (cond b [] (u ∷ []) ++ outermost (earlier ++ u ∷ []) later) → Listed t (u ∷ later)
    by true f h = inr (f h)
    by false f (inl e) = inl e
    by false f (inr h) = inr (f h)

module _ (n : ℕ) where
  pub left_sides-below : (fds : List Fd) (x : Columns) → Listed x (left_sides n fds) → x < 2 ^ n
  unfolding left_sides
  left_sides-below fds x h = all_sets_below n x (Listed-filter_parts (λ x. list_any (λ (fd : Fd). eqb fd.left x) fds) x (all_sets n) h).0

  rights-below : (fds : List Fd) (x : Columns) → All (λ fd. fd.right < n) fds → x < 2 ^ n → with_rights fds x < 2 ^ n
  rights-below fds x narrow l = below_from (with_rights fds x) n (λ k h. by k (or_cases (has x k) _ (sym (has-with_rights fds x k) ∙ h)))
    where
      by : (k : ℕ) → (has x k ≡ true) ⊎ (list_any (λ (fd : Fd). eqb fd.left x && eqb fd.right k) fds ≡ true) → k < n
      by k (inl h) = has_within x n k l h
      by k (inr h) =
          let w = list_any_which (λ (fd : Fd). eqb fd.left x && eqb fd.right k) fds h in
          let q = and_parts (eqb w.0.left x) (eqb w.0.right k) w.2 in
          subst (λ (j : ℕ). j < n) (eqb-true w.0.right k q.1) (All-listed (λ (fd : Fd). fd.right < n) w.0 fds narrow w.1)

  pub whole_key-below : (fds : List Fd) → whole_key n fds < 2 ^ n
  unfolding whole_key
  whole_key-below fds = subset_below n (shrunk-inside (reaches_all n fds) n (all n)) (all-below n)

  with_key-below : (fds : List Fd) (ts : List Table) → ((t : Table) → Listed t ts → t.columns < 2 ^ n) → (t : Table) → Listed t (with_key_table n fds ts) → t.columns < 2 ^ n
  unfolding with_key_table
  with_key-below fds ts f t h = by (list_any (λ (t : Table). reaches_all n fds t.columns) ts) h
    where
      last : Listed t ts ⊎ Listed t (record { columns = whole_key n fds; key = whole_key n fds } ∷ []) → t.columns < 2 ^ n
      last (inl g) = f t g
      last (inr (inl e)) = subst (λ (u : Table). u.columns < 2 ^ n) (sym e) (whole_key-below fds)
      last (inr (inr g)) = absurd g

      by : (b : Bool) → Listed t (cond b ts (ts ++ record { columns = whole_key n fds; key = whole_key n fds } ∷ [])) → t.columns < 2 ^ n
      by true g = f t g
      by false g = last (Listed-append_cases t ts (record { columns = whole_key n fds; key = whole_key n fds } ∷ []) g)

  pub synthesis-below : (fds : List Fd) → All (λ fd. fd.right < n) fds → All (λ t. t.columns < 2 ^ n) (synthesis n fds)
  unfolding synthesis
  synthesis-below fds narrow = All-from (λ (t : Table). t.columns < 2 ^ n) (outermost [] (with_key_table n fds (tables_of_lefts n (canonical fds))))
      (λ t h. with_key-below fds (tables_of_lefts n (canonical fds)) lefts t (outermost-listed [] (with_key_table n fds (tables_of_lefts n (canonical fds))) t h))
    where
      lefts : (t : Table) → Listed t (tables_of_lefts n (canonical fds)) → t.columns < 2 ^ n
      lefts t h =
          let w = Listed-map_which (λ (x : Columns). record { columns = with_rights (canonical fds) x; key = x }) t (left_sides n (canonical fds)) h in
          subst (λ (u : Table). u.columns < 2 ^ n) (sym w.2) (rights-below (canonical fds) w.0 (canonical-All (λ (fd : Fd). fd.right < n) fds narrow) (left_sides-below (canonical fds) w.0 w.1))
