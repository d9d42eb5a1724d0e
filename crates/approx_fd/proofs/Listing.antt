-- What the lists of approximate dependencies and near keys have, and that they are the covers where no row may be removed.
use Rattle.std.proofs.Common.{inl, inr, ◌≡◌, ℕ, ◌^◌, ◌<◌, ◌≤◌, Bool, false, not, ◌&&◌, leb, refl, sym, ap, ap₂, ◌∙◌, subst, arith, List, [], ◌∷◌, ◌++◌, map, Ordering}
use Rattle.std.specs.List.{filter, flat_map}
use Rattle.std.proofs.lemmas.Bool.{and_parts, and_from, not-true, not_from_false, leb-true, le-leb}
use Rattle.col_set.specs.declared.target.Target.{Target}
use Rattle.col_set.specs.declared.target.Target.TheVariants.{Col, RowId}
use Rattle.col_set.specs.ColSet.{upto, all_sets, report_cmp}
use Rattle.col_set.specs.Target.{has_target}
use Rattle.col_set.specs.Minimal.{is_minimal, IsMinimal}
use Rattle.col_set.specs.Lists.{Listed, Rises, Listed-filter, Listed-filter_parts, Listed-map, Listed-map_which, Listed-flat_map, Listed-flat_map_which, Rises-filter, Rises-map}
use Rattle.col_set.specs.Subsets.{same_test}
use Rattle.col_set.specs.AllSets.{Listed-upto, Listed-upto_within, Listed-all_sets, all_sets_below, Rises-all_sets}
use Rattle.col_set.proofs.Minimal.{IsMinimal-from_test, test_from_IsMinimal}
use Rattle.col_set.proofs.Places.{Contains-listed, Listed-contained, AllPairs-rises}
use Rattle.rel_base.specs.CodeTable.{CodeTable}
use Rattle.rel_base.specs.RowState.{RowState, IsRowState, width}
use Rattle.rel_base.specs.Shows.{Shows}
use Rattle.rel_base.specs.Validity.{holds}
use Rattle.rel_base.specs.Minimality.{min_fd, min_key}
use Rattle.rel_base.specs.Covers.{covers, fds_to, fd_cmp}
use Rattle.rel_base.specs.declared.dependency.Fd.{Fd}
use Rattle.rel_base.proofs.Ordered.{fds-rise}
use Rattle.approx_fd.specs.declared.found.Approx.{Approx}
use Rattle.approx_fd.specs.declared.found.NearKey.{NearKey}
use Rattle.approx_fd.specs.Removal.{removed}
use Rattle.approx_fd.specs.Approximate.{min_nearly, nearly_least, approx_of, approximate_by, approximate, approximate_in, near_keys_by, near_keys, near_keys_in, IsMinimalApprox}
use Rattle.approx_fd.specs.Laws.{ApproximateListed, NoErrorsGiveCovers}
use Rattle.approx_fd.proofs.Removing.{map_same, removed-means, removed-shown, removed-zero, zero-removed}

-- ---- sets of which few enough rows are to be removed
module _ (n : ℕ) (count : ℕ → ℕ) (most : ℕ) (t : Target) where
  pub record IsNearlyLeast (x : ℕ) : Type 0 where
    pub below : x < 2 ^ n
    pub lacks : has_target x t ≡ false
    pub minimal : IsMinimal (λ y. leb (count y) most) x

  pub nearly-parts : (x : ℕ) → Listed x (nearly_least n count most t) → IsNearlyLeast x
  unfolding nearly_least min_nearly
  nearly-parts x h =
      let w = Listed-filter_parts (min_nearly n count most t) x (all_sets n) h in
      let b = all_sets_below n x w.0 in
      let q = and_parts (not (has_target x t)) (is_minimal n (λ y. leb (count y) most) x) w.1 in
      record { below = b; lacks = not-true _ q.0; minimal = IsMinimal-from_test n (λ y. leb (count y) most) x b q.1 }

  pub nearly-from : (x : ℕ) → IsNearlyLeast x → Listed x (nearly_least n count most t)
  unfolding nearly_least min_nearly
  nearly-from x m = Listed-filter (min_nearly n count most t) x (all_sets n) (Listed-all_sets n x m.below)
      (and_from _ _ (not_from_false _ m.lacks) (test_from_IsMinimal n (λ y. leb (count y) most) x m.minimal))

  pub Rises-nearly : Rises report_cmp (nearly_least n count most t)
  unfolding nearly_least
  Rises-nearly = Rises-filter report_cmp (min_nearly n count most t) (all_sets n) (Rises-all_sets n)

-- ---- in a row state
module _ (most : ℕ) (r : RowState) (is : IsRowState r) where
  abbrev lefts : ℕ → List ℕ
  lefts a = nearly_least (width r) (λ x. removed r x (Col a)) most (Col a)

  minimal-from : (t : Target) (x : ℕ) → IsNearlyLeast (width r) (λ x. removed r x t) most t x → IsMinimalApprox most r x t (removed r x t)
  minimal-from t x m = record {
    below = m.below;
    lacks = m.lacks;
    removed = (removed-means r is x t).is;
    few = leb-true _ _ m.minimal.passes;
    smallest = λ y j s of l. m.minimal.smallest y s (le-leb (removed r y t) most (subst (λ (k : ℕ). k ≤ most) ((removed-means r is y t).alone j of) l));
  }

  from-minimal : (t : Target) (x k : ℕ) → IsMinimalApprox most r x t k → IsNearlyLeast (width r) (λ x. removed r x t) most t x × (k ≡ removed r x t)
  from-minimal t x k m = (
    record {
      below = m.below;
      lacks = m.lacks;
      minimal = record {
        passes = le-leb (removed r x t) most (subst (λ (k : ℕ). k ≤ most) ((removed-means r is x t).alone k m.removed) m.few);
        smallest = λ y s e. m.smallest y (removed r y t) s (removed-means r is y t).is (leb-true _ _ e);
      };
    },
    (removed-means r is x t).alone k m.removed,
  )

  abbrev own : ℕ → List Approx
  own a = map (approx_of (λ x. removed r x (Col a)) a) (lefts a)

  fd_found : (f : Approx) → Listed f (approximate most r) → (f.fd.right < width r) × IsMinimalApprox most r f.fd.left (Col f.fd.right) f.removed
  unfolding approximate_by
  fd_found f h =
      let w = Listed-flat_map_which own f (upto (width r)) h in
      let v = Listed-map_which (approx_of (λ x. removed r x (Col w.0)) w.0) f (lefts w.0) w.2 in
      subst (λ (g : Approx). (g.fd.right < width r) × IsMinimalApprox most r g.fd.left (Col g.fd.right) g.removed) (sym v.2)
      (Listed-upto_within (width r) w.0 w.1, minimal-from (Col w.0) v.0 (nearly-parts (width r) (λ x. removed r x (Col w.0)) most (Col w.0) v.0 v.1))

  fd_there : (f : Approx) → f.fd.right < width r → IsMinimalApprox most r f.fd.left (Col f.fd.right) f.removed → Listed f (approximate most r)
  unfolding approximate_by
  fd_there f l m =
      let q = from-minimal (Col f.fd.right) f.fd.left f.removed m in
      Listed-flat_map own f.fd.right f (upto (width r)) (Listed-upto (width r) f.fd.right l)
      (subst (λ (k : ℕ). Listed {X = Approx} (record { fd = f.fd; removed = k }) (own f.fd.right)) (sym q.1)
      (Listed-map (approx_of (λ x. removed r x (Col f.fd.right)) f.fd.right) f.fd.left (lefts f.fd.right) (nearly-from (width r) (λ x. removed r x (Col f.fd.right)) most (Col f.fd.right) f.fd.left q.0)))

  key_found : (k : NearKey) → Listed k (near_keys most r) → IsMinimalApprox most r k.columns RowId k.removed
  unfolding near_keys_by
  key_found k h =
      let v = Listed-map_which (λ (x : ℕ). record { columns = x; removed = removed r x RowId }) k (nearly_least (width r) (λ x. removed r x RowId) most RowId) h in
      subst (λ (j : NearKey). IsMinimalApprox most r j.columns RowId j.removed) (sym v.2) (minimal-from RowId v.0 (nearly-parts (width r) (λ x. removed r x RowId) most RowId v.0 v.1))

  key_there : (k : NearKey) → IsMinimalApprox most r k.columns RowId k.removed → Listed k (near_keys most r)
  unfolding near_keys_by
  key_there k m =
      let q = from-minimal RowId k.columns k.removed m in
      subst (λ (j : ℕ). Listed {X = NearKey} (record { columns = k.columns; removed = j }) (map (λ (x : ℕ). record { columns = x; removed = removed r x RowId }) (nearly_least (width r) (λ x. removed r x RowId) most RowId))) (sym q.1)
      (Listed-map (λ (x : ℕ). record { columns = x; removed = removed r x RowId }) k.columns (nearly_least (width r) (λ x. removed r x RowId) most RowId) (nearly-from (width r) (λ x. removed r x RowId) most RowId k.columns q.0))

-- ---- order
module _ {X Y Z : Type 0} where
  map-flat : (f : Y → Z) (g : X → List Y) (xs : List X) → map f (flat_map g xs) ≡ flat_map (λ x. map f (g x)) xs
  map-flat f g [] = refl
  map-flat f g (x ∷ xs) = onto (g x) ∙ ap (λ (zs : List Z). map f (g x) ++ zs) (map-flat f g xs)
    where
      onto : (ys : List Y) → map f (ys ++ flat_map g xs) ≡ map f ys ++ map f (flat_map g xs)
      onto [] = refl
      onto (y ∷ ys) = ap (λ (zs : List Z). f y ∷ zs) (onto ys)

  map-twice : (f : Y → Z) (g : X → Y) (xs : List X) → map f (map g xs) ≡ map (λ x. f (g x)) xs
  map-twice f g [] = refl
  map-twice f g (x ∷ xs) = ap (λ (zs : List Z). f (g x) ∷ zs) (map-twice f g xs)

flat_same : {X Y : Type 0} (f g : X → List Y) (xs : List X) → ((x : X) → Listed x xs → f x ≡ g x) → flat_map f xs ≡ flat_map g xs
flat_same f g [] e = refl
flat_same {Y = Y} f g (x ∷ xs) e = ap₂ (λ (ys zs : List Y). ys ++ zs) (e x (inl refl)) (flat_same f g xs (λ z h. e z (inr h)))

-- what is in order by a key is in order
rises-by : {X Y : Type 0} (R : Y → Y → Ordering) (f : X → Y) (xs : List X) → Rises R (map f xs) → Rises (λ x y. R (f x) (f y)) xs
rises-by R f [] r = tt
rises-by R f (x ∷ xs) r = ((λ y h. r.0 (f y) (Listed-map f y xs h)), rises-by R f xs r.1)

module _ (most : ℕ) (r : RowState) (is : IsRowState r) where
  abbrev sides : ℕ → List ℕ
  sides a = nearly_least (width r) (λ x. removed r x (Col a)) most (Col a)

  fds-of : map (λ (f : Approx). f.fd) (approximate most r) ≡ flat_map (λ a. fds_to a (sides a)) (upto (width r))
  unfolding approximate_by
  fds-of =
      map-flat (λ (f : Approx). f.fd) (λ a. map (approx_of (λ x. removed r x (Col a)) a) (sides a)) (upto (width r))
      ∙ flat_same (λ a. map (λ (f : Approx). f.fd) (map (approx_of (λ x. removed r x (Col a)) a) (sides a))) (λ a. fds_to a (sides a)) (upto (width r))
      (λ a h. map-twice (λ (f : Approx). f.fd) (approx_of (λ x. removed r x (Col a)) a) (sides a))

  pub listed : ApproximateListed most r
  unfolding near_keys_by
  listed = record {
    fds = λ f. ((λ h. fd_found most r is f (Listed-contained f (approximate most r) h)), (λ p. Contains-listed f (approximate most r) (fd_there most r is f p.0 p.1)));
    fds_in_order = AllPairs-rises (λ (f g : Approx). fd_cmp f.fd g.fd) (approximate most r) (rises-by fd_cmp (λ (f : Approx). f.fd) (approximate most r)
        (subst (Rises fd_cmp) (sym fds-of) (fds-rise sides (width r) (λ a l. Rises-nearly (width r) (λ x. removed r x (Col a)) most (Col a)))));
    keys = λ k. ((λ h. key_found most r is k (Listed-contained k (near_keys most r) h)), (λ p. Contains-listed k (near_keys most r) (key_there most r is k p)));
    keys_in_order = AllPairs-rises (λ (j k : NearKey). report_cmp j.columns k.columns) (near_keys most r)
        (Rises-map report_cmp (λ (j k : NearKey). report_cmp j.columns k.columns) (λ (x : ℕ). record { columns = x; removed = removed r x RowId }) (nearly_least (width r) (λ x. removed r x RowId) most RowId)
        (Rises-nearly (width r) (λ x. removed r x RowId) most RowId) (λ x y h g e. e));
  }

-- ---- no errors
module _ (r : RowState) where
  none-holds : (t : Target) (y : ℕ) → leb (removed r y t) 0 ≡ holds r y t
  none-holds t y = same_test _ _
      (λ e. removed-zero r y t (let l = leb-true (removed r y t) 0 e in omega arith))
      (λ e. le-leb (removed r y t) 0 (let z = zero-removed r y t e in omega arith))

  lefts-fd : (a : ℕ) → nearly_least (width r) (λ x. removed r x (Col a)) 0 (Col a) ≡ filter (λ x. min_fd r x a) (all_sets (width r))
  unfolding nearly_least min_nearly min_fd has_target is_minimal
  lefts-fd a = ap (λ (p : ℕ → Bool). filter (λ x. not (has_target x (Col a)) && is_minimal (width r) p x) (all_sets (width r))) (λ i y. none-holds (Col a) y i)

  lefts-key : nearly_least (width r) (λ x. removed r x RowId) 0 RowId ≡ filter (min_key r) (all_sets (width r))
  unfolding nearly_least min_nearly min_key has_target is_minimal
  lefts-key = ap (λ (p : ℕ → Bool). filter (λ x. not (has_target x RowId) && is_minimal (width r) p x) (all_sets (width r))) (λ i y. none-holds RowId y i)

  zeros : (t : Target) (x : ℕ) → Listed x (nearly_least (width r) (λ x. removed r x t) 0 t) → removed r x t ≡ 0
  zeros t x h = let l = leb-true _ _ (nearly-parts (width r) (λ x. removed r x t) 0 t x h).minimal.passes in omega arith

  pub no_errors : NoErrorsGiveCovers r
  unfolding covers approximate_by near_keys_by
  no_errors = record {
    fds =
        flat_same (λ a. map (approx_of (λ x. removed r x (Col a)) a) (nearly_least (width r) (λ x. removed r x (Col a)) 0 (Col a))) (λ a. map with_none (fds_to a (filter (λ x. min_fd r x a) (all_sets (width r))))) (upto (width r))
        (λ a h.
        map_same (approx_of (λ x. removed r x (Col a)) a) (λ x. record { fd = record { left = x; right = a }; removed = 0 }) (nearly_least (width r) (λ x. removed r x (Col a)) 0 (Col a)) (λ x g. ap (λ (k : ℕ). record { fd = record { left = x; right = a }; removed = k }) (zeros (Col a) x g))
        ∙ ap (map (λ (x : ℕ). record { fd = record { left = x; right = a }; removed = 0 })) (lefts-fd a)
        ∙ sym (map-twice with_none (λ (x : ℕ). record { left = x; right = a }) (filter (λ x. min_fd r x a) (all_sets (width r)))))
        ∙ sym (map-flat with_none (λ a. fds_to a (filter (λ x. min_fd r x a) (all_sets (width r)))) (upto (width r)));
    keys =
        map_same (λ (x : ℕ). record { columns = x; removed = removed r x RowId }) (λ (x : ℕ). record { columns = x; removed = 0 }) (nearly_least (width r) (λ x. removed r x RowId) 0 RowId) (λ x g. ap (λ (k : ℕ). record { columns = x; removed = k }) (zeros RowId x g))
        ∙ ap (map (λ (x : ℕ). record { columns = x; removed = 0 })) lefts-key;
  }
    where
      with_none : Fd → Approx
      with_none fd = record { fd = fd; removed = 0 }

-- ---- a snapshot that shows a row state
module _ (s : CodeTable) (r : RowState) (is : IsRowState r) (shows : Shows s r) (most : ℕ) where
  pub approximate-shown : approximate_in most s ≡ approximate most r
  approximate-shown = λ i. approximate_by (shows.columns i) (λ x t. removed-shown s r is shows x t i) most

  pub near_keys-shown : near_keys_in most s ≡ near_keys most r
  near_keys-shown = λ i. near_keys_by (shows.columns i) (λ x t. removed-shown s r is shows x t i) most
