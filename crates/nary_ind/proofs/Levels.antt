-- From the lists of one width to those of the next.
use Rattle.std.proofs.Common.{inl, inr, ◌≡◌, ℕ, zero, suc, ◌<◌, Bool, true, false, not, eqb, refl, sym, ap, ap₂, ◌∙◌, subst, arith, List, [], ◌∷◌, ◌++◌, length, map}
use Rattle.std.specs.List.{filter, flat_map, list_all}
use Rattle.std.proofs.lemmas.Bool.{and_from, or_right, eqb-true, ne_eqb, true≢false}
use Rattle.std.proofs.lemmas.List.{nil_from_length}
use Rattle.std.proofs.lemmas.List.Concat.{flat_map_single}
use Rattle.std.proofs.lemmas.List.FromFn.{length-map-range_with_len}
use Rattle.col_set.specs.ColSet.{upto}
use Rattle.col_set.specs.AllSets.{Listed-upto_within}
use Rattle.col_set.specs.Lists.{Listed, Listed-filter_parts, Listed-map_which, Listed-flat_map_which}
use Rattle.rel_base.specs.Agreement.{same_cell}
use Rattle.rel_base.specs.RowState.{RowState}
use Rattle.nary_ind.specs.declared.found.Side.{Side}
use Rattle.nary_ind.specs.ListInclusions.{tuple, rows_at, width_at, column_lists, all_lists, is_list_inclusion, from_to, of_width}
use Rattle.nary_ind.specs.Laws.{without_place}
use Rattle.nary_ind.specs.Levels.{into_of, has_some, groups, listed_of, IsSide, IsGroup, extend, grown, next_into, next_groups}
use Rattle.nary_ind.proofs.Among.{among-from, map-twice}
use Rattle.nary_ind.proofs.Lists.{filter-map, filter-flat, flat_same, flat-filter, map-same, flat-flat, flat-map, map-flat, filter-none, filter-all, not-so}
use Rattle.nary_ind.proofs.Places.{fewer_places, formed-from}

-- ---- one column more
snoc : ℕ → List ℕ → List (List ℕ)
snoc n cs = map (λ c. cs ++ c ∷ []) (upto n)

lists-more : (k n : ℕ) → column_lists (suc k) n ≡ flat_map (snoc n) (column_lists k n)
unfolding column_lists snoc
lists-more zero n = flat_map_single (λ (c : ℕ). c ∷ []) (upto n) ∙ sym (λ i. append-nil-of (map (λ (c : ℕ). c ∷ []) (upto n)) i)
  where
    append-nil-of : (xs : List (List ℕ)) → xs ++ [] ≡ xs
    append-nil-of [] = refl
    append-nil-of (x ∷ xs) = ap (λ (ys : List (List ℕ)). x ∷ ys) (append-nil-of xs)
lists-more (suc k) n =
    flat_same (λ c. map (λ cs. c ∷ cs) (column_lists (suc k) n)) (λ c. flat_map (snoc n) (map (λ cs. c ∷ cs) (column_lists k n))) (upto n) (λ c h.
    ap (map (λ (cs : List ℕ). c ∷ cs)) (lists-more k n)
    ∙ map-flat (λ (cs : List ℕ). c ∷ cs) (snoc n) (column_lists k n)
    ∙ flat_same (λ cs. map (λ (ds : List ℕ). c ∷ ds) (snoc n cs)) (λ cs. snoc n (c ∷ cs)) (column_lists k n) (λ cs g. map-twice (λ (ds : List ℕ). c ∷ ds) (λ (d : ℕ). cs ++ d ∷ []) (upto n))
    ∙ sym (flat-map (snoc n) (λ (cs : List ℕ). c ∷ cs) (column_lists k n)))
    ∙ sym (flat-flat (snoc n) (λ c. map (λ cs. c ∷ cs) (column_lists k n)) (upto n))

side : ℕ → List ℕ → Side
side p cs = record { rel = p; columns = cs }

pub all-more : (k : ℕ) (rs : List RowState) → all_lists (suc k) rs ≡ flat_map (grown rs) (all_lists k rs)
unfolding all_lists side snoc
all-more k rs =
    flat_same (λ p. map (side p) (column_lists (suc k) (width_at rs p))) (λ p. flat_map (grown rs) (map (side p) (column_lists k (width_at rs p)))) (upto (length rs)) (λ p h.
    ap (map (side p)) (lists-more k (width_at rs p))
    ∙ map-flat (side p) (snoc (width_at rs p)) (column_lists k (width_at rs p))
    ∙ flat_same (λ cs. map (side p) (snoc (width_at rs p) cs)) (λ cs. grown rs (side p cs)) (column_lists k (width_at rs p)) (λ cs g. map-twice (side p) (λ (c : ℕ). cs ++ c ∷ []) (upto (width_at rs p)))
    ∙ sym (flat-map (grown rs) (side p) (column_lists k (width_at rs p))))
    ∙ sym (flat-flat (grown rs) (λ p. map (side p) (column_lists k (width_at rs p))) (upto (length rs)))

-- ---- what the lists have
lists-are : (k n : ℕ) (cs : List ℕ) → Listed cs (column_lists k n) → (length cs ≡ k) × ((c : ℕ) → Listed c cs → c < n)
unfolding column_lists
lists-are zero n cs (inl e) = (ap length e, λ c h. absurd (subst (λ (xs : List ℕ). Listed c xs) e h))
lists-are zero n cs (inr h) = absurd h
lists-are (suc k) n cs h =
    let w = Listed-flat_map_which (λ (c : ℕ). map (λ ds. c ∷ ds) (column_lists k n)) cs (upto n) h in
    let v = Listed-map_which (λ (ds : List ℕ). w.0 ∷ ds) cs (column_lists k n) w.2 in
    let r = lists-are k n v.0 v.1 in
    (ap length v.2 ∙ ap suc r.0, λ c g. by w.0 v.0 (Listed-upto_within n w.0 w.1) r.1 c (subst (λ (xs : List ℕ). Listed c xs) v.2 g))
  where
    by : (d : ℕ) (ds : List ℕ) → d < n → ((c : ℕ) → Listed c ds → c < n) → (c : ℕ) → Listed c (d ∷ ds) → c < n
    by d ds l f c (inl e) = subst (λ (x : ℕ). x < n) (sym e) l
    by d ds l f c (inr g) = f c g

pub side-of : (k : ℕ) (rs : List RowState) (s : Side) → Listed s (all_lists k rs) → IsSide rs k s
unfolding all_lists
side-of k rs s h =
    let w = Listed-flat_map_which (λ (p : ℕ). map (λ cs. record { rel = p; columns = cs }) (column_lists k (width_at rs p))) s (upto (length rs)) h in
    let v = Listed-map_which (λ (cs : List ℕ). record { rel = w.0; columns = cs }) s (column_lists k (width_at rs w.0)) w.2 in
    let r = lists-are k (width_at rs w.0) v.0 v.1 in
    subst (IsSide rs k) (sym v.2) (record { rel = Listed-upto_within (length rs) w.0 w.1; long = r.0; within = r.1 })

-- ---- without the last place
without-last : (cs : List ℕ) (c : ℕ) → without_place (cs ++ c ∷ []) (length cs) ≡ cs
without-last [] c = refl
without-last (d ∷ cs) c = ap (λ (xs : List ℕ). d ∷ xs) (without-last cs c)

pub without-extended : (rs : List RowState) (s i : Side) (c e : ℕ) → length i.columns ≡ length s.columns → is_list_inclusion rs (from_to (extend s c) (extend i e)) ≡ true → is_list_inclusion rs (from_to s i) ≡ true
without-extended rs s i c e long h =
    ap₂ (λ (ds es : List ℕ). is_list_inclusion rs (record { dep_rel = s.rel; into_rel = i.rel; dep_cols = ds; into_cols = es }))
    (sym (without-last s.columns c)) (sym (without-last i.columns e) ∙ ap (without_place (i.columns ++ e ∷ [])) long)
    ∙ fewer_places rs (extend s c) (extend i e) (length s.columns) h

-- ---- groups
module _ (rs : List RowState) where
  good : Side → Side → Bool
  good d i = is_list_inclusion rs (from_to d i)

  into-more : (k : ℕ) (s : Side) (c : ℕ) → IsSide rs k s → into_of rs (suc k) (extend s c) ≡ next_into rs (extend s c) (into_of rs k s)
  unfolding into_of next_into good
  into-more k s c is =
      ap (filter (good (extend s c))) (all-more k rs)
      ∙ filter-flat (good (extend s c)) (grown rs) (all_lists k rs)
      ∙ sym (flat-filter (λ i. filter (good (extend s c)) (grown rs i)) (good s) (all_lists k rs) (λ i h e.
      filter-none (good (extend s c)) (grown rs i) (λ x g.
      let w = Listed-map_which (extend i) x (upto (width_at rs i.rel)) g in
      not-so (good (extend s c) x) (λ t. true≢false (sym (without-extended rs s i c w.0 ((side-of k rs i h).long ∙ sym is.long) (subst (λ (y : Side). good (extend s c) y ≡ true) w.2 t)) ∙ e)))))
      ∙ sym (filter-flat (good (extend s c)) (grown rs) (filter (good s) (all_lists k rs)))

  none-of : (g : Side × List Side) → has_some g ≡ false → g.1 ≡ []
  none-of g e = nil_from_length g.1 (eqb-true (length g.1) 0 (not-false (eqb (length g.1) 0) e))
    where
      not-false : (b : Bool) → not b ≡ false → b ≡ true
      not-false true e = refl
      not-false false e = sym e

  no-next : (g : Side × List Side) → has_some g ≡ false → next_groups rs g ≡ []
  unfolding next_groups next_into
  no-next g e =
      filter-none has_some (map (λ c. (extend g.0 c, next_into rs (extend g.0 c) g.1)) (upto (width_at rs g.0.rel))) (λ x h.
      let w = Listed-map_which (λ (c : ℕ). (extend g.0 c, next_into rs (extend g.0 c) g.1)) x (upto (width_at rs g.0.rel)) h in
      ap has_some (w.2 ∙ ap (λ (is : List Side). (extend g.0 w.0, next_into rs (extend g.0 w.0) is)) (none-of g e)))

  pub groups-more : (k : ℕ) → groups rs (suc k) ≡ flat_map (next_groups rs) (groups rs k)
  unfolding groups next_groups
  groups-more k =
      ap (λ (xs : List Side). filter has_some (map of_next xs)) (all-more k rs)
      ∙ ap (filter has_some) (map-flat of_next (grown rs) (all_lists k rs))
      ∙ filter-flat has_some (λ s. map of_next (grown rs s)) (all_lists k rs)
      ∙ flat_same (λ s. filter has_some (map of_next (grown rs s))) (λ s. next_groups rs (of_this s)) (all_lists k rs) (λ s h.
      ap (filter has_some) (map-twice of_next (extend s) (upto (width_at rs s.rel))
      ∙ map-same (λ c. of_next (extend s c)) (λ c. (extend s c, next_into rs (extend s c) (into_of rs k s))) (upto (width_at rs s.rel)) (λ c g. ap (λ (is : List Side). (extend s c, is)) (into-more k s c (side-of k rs s h)))))
      ∙ sym (flat-map (next_groups rs) of_this (all_lists k rs))
      ∙ sym (flat-filter (next_groups rs) has_some (map of_this (all_lists k rs)) (λ g h e. no-next g e))
    where
      of_next : Side → Side × List Side
      of_next d = (d, into_of rs (suc k) d)

      of_this : Side → Side × List Side
      of_this d = (d, into_of rs k d)

  pub groups-listed : (k : ℕ) → flat_map listed_of (groups rs k) ≡ of_width k rs
  unfolding groups of_width into_of good
  groups-listed k =
      flat-filter listed_of has_some (map of_this (all_lists k rs)) (λ g h e. ap (map (from_to g.0)) (none-of g e))
      ∙ flat-map listed_of of_this (all_lists k rs)
      ∙ flat_same (λ d. map (from_to d) (filter (good d) (all_lists k rs))) (λ d. filter (is_list_inclusion rs) (map (from_to d) (all_lists k rs))) (all_lists k rs) (λ d h. sym (filter-map (is_list_inclusion rs) (from_to d) (all_lists k rs)))
      ∙ sym (filter-flat (is_list_inclusion rs) (λ d. map (from_to d) (all_lists k rs)) (all_lists k rs))
    where
      of_this : Side → Side × List Side
      of_this d = (d, filter (good d) (all_lists k rs))

  pub group-of : (k : ℕ) (g : Side × List Side) → Listed g (groups rs k) → IsGroup rs k g
  unfolding groups into_of good
  group-of k g h =
      let w = Listed-filter_parts has_some g (map (λ (d : Side). (d, filter (good d) (all_lists k rs))) (all_lists k rs)) h in
      let v = Listed-map_which (λ (d : Side). (d, filter (good d) (all_lists k rs))) g (all_lists k rs) w.0 in
      subst (IsGroup rs k) (sym v.2) (record {
        side = side-of k rs v.0 v.1;
        into = λ i m. side-of k rs i (Listed-filter_parts (good v.0) i (all_lists k rs) m).0;
        holds = λ i m. (Listed-filter_parts (good v.0) i (all_lists k rs) m).1;
      })

  -- ---- lists without columns
  bare : ℕ → Side
  bare p = record { rel = p; columns = [] }

  bare-good : (p q : ℕ) → good (bare p) (bare q) ≡ true
  unfolding good bare
  bare-good p q =
      and_from _ _ (formed-from (from_to (bare p) (bare q)) (record { ascending = refl; different = refl; apart = or_right (not (eqb p q)) true refl }))
      (among-from (map (tuple []) (rows_at rs p)) (map (tuple []) (rows_at rs q)) (λ t h. let w = Listed-map_which (tuple []) t (rows_at rs p) h in inl (ap (list_all (λ a. same_cell a [])) w.2)))

  all-bare : all_lists 0 rs ≡ map bare (upto (length rs))
  unfolding all_lists column_lists bare
  all-bare = flat_map_single bare (upto (length rs))

  pub groups-zero : groups rs 0 ≡ map (λ p. (record { rel = p; columns = [] }, map (λ q. record { rel = q; columns = [] }) (upto (length rs)))) (upto (length rs))
  unfolding groups into_of bare good
  groups-zero =
      ap (λ (xs : List Side). filter has_some (map (λ d. (d, filter (good d) xs)) xs)) all-bare
      ∙ ap (filter has_some) (map-twice (λ (d : Side). (d, filter (good d) (map bare (upto (length rs))))) bare (upto (length rs))
      ∙ map-same (λ p. (bare p, filter (good (bare p)) (map bare (upto (length rs))))) (λ p. (bare p, map bare (upto (length rs)))) (upto (length rs))
      (λ p h. ap (λ (is : List Side). (bare p, is)) (filter-all (good (bare p)) (map bare (upto (length rs))) (λ i g. let w = Listed-map_which bare i (upto (length rs)) g in ap (good (bare p)) w.2 ∙ bare-good p w.0))))
      ∙ filter-all has_some (map (λ p. (bare p, map bare (upto (length rs)))) (upto (length rs))) (λ g h.
      let w = Listed-map_which (λ (p : ℕ). (bare p, map bare (upto (length rs)))) g (upto (length rs)) h in
      ap has_some w.2 ∙ ap not (ne_eqb (length (map bare (upto (length rs)))) 0 (λ e. let l = Listed-upto_within (length rs) w.0 w.1 in let n = length-map-range_with_len bare 0 (length rs) in omega arith)))
