-- The values of a tree as a list in report order.
use Rattle.std.proofs.Common.{inl, inr, ◌≡◌, ◌⊎◌, ℕ, ◌<◌, ◌^◌, ◌==◌, ◌||◌, not, Bool, true, false, cond, eqb, refl, sym, ap, ap₂, ◌∙◌, subst, List, [], ◌∷◌, ◌++◌, map, Option, Some, None, if◌then◌else◌, Ordering, Less, Equal, Greater}
use Rattle.std.specs.List.{filter, find, list_any, flat_map}
use Rattle.std.specs.Cmp.{IsTotalOrder}
use Rattle.std.specs.Option.{is_some, option_map}
use Rattle.std.specs.Ordering.{is_lt, ordering_reverse}
use Rattle.std.proofs.lemmas.Option.{none-some}
use Rattle.std.proofs.lemmas.Bool.{eqb-true, eq-eqb, ne_eqb, true≢false, false_from_ne_true}
use Rattle.col_set.specs.Subsets.{same_test, true-subset, has_within}
use Rattle.col_set.specs.Members.{has-all}
use Rattle.std.proofs.lemmas.Bool.{lt-ltb}
use Rattle.col_set.specs.Lists.{filter_same}
use Rattle.col_set.specs.ColSet.{all, subset, all_sets, report_cmp}
use Rattle.col_set.specs.declared.col_set.TheConstants.{MOST_COLUMNS}
use Rattle.col_set.specs.Columns.{report_total}
use Rattle.col_set.specs.AllSets.{report_cmp-same, Listed-all_sets, all_sets_below, Rises-all_sets}
use Rattle.col_set.proofs.Places.{same_rising}
use Rattle.col_set.specs.Lists.{Listed, Rises, Rises-filter, Rises-append, Listed-filter, Listed-filter_parts, Listed-append_left, Listed-append_right, Listed-append_cases, Listed-flat_map, Listed-flat_map_which, list_any_at, list_any_which}
use Rattle.set_tree.specs.Pairs.{IsInOrder, is_key, value_at, inserted, with_value, without_key, inside, not_inside}
use Rattle.set_tree.specs.Walks.{entry, listed}
use Rattle.set_tree.proofs.Growing.{some-injective}

pub less_from : (o : Ordering) → is_lt o ≡ true → o ≡ Less
less_from Less e = refl
less_from Equal e = absurd (true≢false (sym e))
less_from Greater e = absurd (true≢false (sym e))

pub less_not_same : (x y : ℕ) → report_cmp x y ≡ Less → x ≡ y → ⊥
less_not_same x y e i =
    let self : report_cmp x x ≡ Less = ap (report_cmp x) i ∙ e in
    true≢false (ap is_lt (sym self ∙ report_total.antisymm x x ∙ ap ordering_reverse self))

module _ {X : Type 0} where
  pub find_some : (p : X → Bool) (xs : List X) (x : X) → find p xs ≡ Some x → Listed x xs × (p x ≡ true)
  find_some p [] x e = absurd (none-some x e)
  find_some p (y ∷ xs) x e = by (p y) refl e (λ f. find_some p xs x f)
    where
      by : (b : Bool) → p y ≡ b → cond b (Some y) (find p xs) ≡ Some x → (find p xs ≡ Some x → Listed x xs × (p x ≡ true)) → Listed x (y ∷ xs) × (p x ≡ true)
      by true i e rest = let s : y ≡ x = some-injective y x e in (inl (sym s), ap p (sym s) ∙ i)
      by false i e rest = (inr (rest e).0, (rest e).1)

  pub find_none : (p : X → Bool) (xs : List X) → find p xs ≡ None → (x : X) → Listed x xs → p x ≡ false
  find_none p [] e x h = absurd h
  find_none p (y ∷ xs) e x h = by (p y) refl e h (λ f g. find_none p xs f x g)
    where
      by : (b : Bool) → p y ≡ b → cond b (Some y) (find p xs) ≡ None → Listed x (y ∷ xs) → (find p xs ≡ None → Listed x xs → p x ≡ false) → p x ≡ false
      by true i e h rest = absurd (none-some y (sym e))
      by false i e (inl j) rest = ap p j ∙ i
      by false i e (inr g) rest = rest e g

  filter-append : (p : X → Bool) (us vs : List X) → filter p (us ++ vs) ≡ filter p us ++ filter p vs
  filter-append p [] vs = refl
  filter-append p (u ∷ us) vs = by (p u) (filter-append p us vs)
    where
      by : (b : Bool) → filter p (us ++ vs) ≡ filter p us ++ filter p vs → cond b (u ∷ filter p (us ++ vs)) (filter p (us ++ vs)) ≡ cond b (u ∷ filter p us) (filter p us) ++ filter p vs
      by true e = ap (λ xs. u ∷ xs) e
      by false e = e

  map-append : (f : X → X) (us vs : List X) → map f (us ++ vs) ≡ map f us ++ map f vs
  map-append f [] vs = refl
  map-append f (u ∷ us) vs = ap (λ xs. f u ∷ xs) (map-append f us vs)

module _ {V : Type 0} where
  -- pairs in order that are the same members are the same list
  pub same_pairs : (ps qs : List (ℕ × V)) → IsInOrder ps → IsInOrder qs → ((p : ℕ × V) → Listed p ps → Listed p qs) → ((p : ℕ × V) → Listed p qs → Listed p ps) → ps ≡ qs
  same_pairs ps qs r s f g = same_rising by_keys ps qs r s f g
    where
      by_keys : IsTotalOrder (λ (p q : ℕ × V). report_cmp p.0 q.0)
      by_keys = record {
        antisymm = λ p q. report_total.antisymm p.0 q.0;
        trans = λ p q r. report_total.trans p.0 q.0 r.0;
        congr = λ p q r. report_total.congr p.0 q.0 r.0;
      }

  entry_has : (x : ℕ) (o : Option V) (v : V) → o ≡ Some v → Listed (x, v) (entry x o)
  entry_has x None v e = absurd (none-some v e)
  entry_has x (Some w) v e = inl (λ i. (x, some-injective v w (sym e) i))

  entry_only : (x : ℕ) (o : Option V) (p : ℕ × V) → Listed p (entry x o) → (p.0 ≡ x) × (o ≡ Some p.1)
  entry_only x None p h = absurd h
  entry_only x (Some w) p (inl e) = (ap (λ (q : ℕ × V). q.0) e, λ i. Some ((sym (ap (λ (q : ℕ × V). q.1) e)) i))
  entry_only x (Some w) p (inr h) = absurd h

  -- what is listed of these sets
  abbrev of_sets : (ℕ → Option V) → List ℕ → List (ℕ × V)
  of_sets m xs = flat_map (λ x. entry x (m x)) xs

  of_sets_only : (m : ℕ → Option V) (xs : List ℕ) (p : ℕ × V) → Listed p (of_sets m xs) → Listed p.0 xs × (m p.0 ≡ Some p.1)
  of_sets_only m xs p h =
      let w = Listed-flat_map_which (λ x. entry x (m x)) p xs h in
      let e = entry_only w.0 (m w.0) p w.2 in
      (subst (λ (y : ℕ). Listed y xs) (sym e.0) w.1, ap m e.0 ∙ e.1)

  of_sets_rise : (m : ℕ → Option V) (xs : List ℕ) → Rises report_cmp xs → IsInOrder (of_sets m xs)
  of_sets_rise m [] r = tt
  of_sets_rise m (x ∷ xs) r = by (m x) (of_sets_rise m xs r.1)
    where
      by : (o : Option V) → IsInOrder (of_sets m xs) → IsInOrder (entry x o ++ of_sets m xs)
      by None g = g
      by (Some v) g = ((λ p h. r.0 p.0 (of_sets_only m xs p h).0), g)

  -- ---- all column sets
  module _ (m : ℕ → Option V) where
    pub listed_has : (x : ℕ) (v : V) → x < 2 ^ MOST_COLUMNS → m x ≡ Some v → Listed (x, v) (listed m)
    unfolding listed
    listed_has x v l e = Listed-flat_map (λ x. entry x (m x)) x (x, v) (all_sets MOST_COLUMNS) (Listed-all_sets MOST_COLUMNS x l) (entry_has x (m x) v e)

    pub listed_only : (p : ℕ × V) → Listed p (listed m) → m p.0 ≡ Some p.1
    unfolding listed
    listed_only p h = (of_sets_only m (all_sets MOST_COLUMNS) p h).1

    pub listed_below : (p : ℕ × V) → Listed p (listed m) → p.0 < 2 ^ MOST_COLUMNS
    unfolding listed
    listed_below p h = all_sets_below MOST_COLUMNS p.0 (of_sets_only m (all_sets MOST_COLUMNS) p h).0

    pub listed_rise : IsInOrder (listed m)
    unfolding listed
    listed_rise = of_sets_rise m (all_sets MOST_COLUMNS) (Rises-all_sets MOST_COLUMNS)

    -- ---- one key
    pub is_key_listed : ((y : ℕ) (w : V) → m y ≡ Some w → y < 2 ^ MOST_COLUMNS) → (x : ℕ) → is_key (listed m) x ≡ is_some (m x)
    is_key_listed narrow x = by (m x) refl
      where
        by : (o : Option V) → m x ≡ o → is_key (listed m) x ≡ is_some o
        by (Some v) e = list_any_at (λ p. p.0 == x) (x, v) (listed m) (listed_has x v (narrow x v e) e) (eq-eqb x x refl)
        by None e = false_from_ne_true _ (λ h. let w = list_any_which (λ p. p.0 == x) (listed m) h in none-some w.0.1 (sym e ∙ ap m (sym (eqb-true w.0.0 x w.2)) ∙ listed_only w.0 w.1))

    pub value_listed : ((y : ℕ) (w : V) → m y ≡ Some w → y < 2 ^ MOST_COLUMNS) → (x : ℕ) → value_at (listed m) x ≡ m x
    value_listed narrow x = by (find (λ p. p.0 == x) (listed m)) refl
      where
        by : (o : Option (ℕ × V)) → find (λ p. p.0 == x) (listed m) ≡ o → option_map (λ p. p.1) o ≡ m x
        by None e = other (m x) refl
          where
            other : (o : Option V) → m x ≡ o → None ≡ m x
            other None i = sym i
            other (Some v) i = absurd (true≢false (sym (eq-eqb x x refl) ∙ find_none (λ p. p.0 == x) (listed m) e (x, v) (listed_has x v (narrow x v i) i)))
        by (Some q) e = let f = find_some (λ p. p.0 == x) (listed m) q e in sym (ap m (sym (eqb-true q.0 x f.1)) ∙ listed_only q f.0)

  -- ---- values that changed alike everywhere
  of_sets_filter : (q : ℕ × V → Bool) (m n : ℕ → Option V) → ((x : ℕ) → filter q (entry x (m x)) ≡ entry x (n x)) → (xs : List ℕ) → filter q (of_sets m xs) ≡ of_sets n xs
  of_sets_filter q m n f [] = refl
  of_sets_filter q m n f (x ∷ xs) = filter-append q (entry x (m x)) (of_sets m xs) ∙ ap₂ (λ (us vs : List (ℕ × V)). us ++ vs) (f x) (of_sets_filter q m n f xs)

  pub listed_filter : (q : ℕ × V → Bool) (m n : ℕ → Option V) → ((x : ℕ) → filter q (entry x (m x)) ≡ entry x (n x)) → filter q (listed m) ≡ listed n
  unfolding listed
  listed_filter q m n f = of_sets_filter q m n f (all_sets MOST_COLUMNS)

  of_sets_map : (g : ℕ × V → ℕ × V) (m n : ℕ → Option V) → ((x : ℕ) → map g (entry x (m x)) ≡ entry x (n x)) → (xs : List ℕ) → map g (of_sets m xs) ≡ of_sets n xs
  of_sets_map g m n f [] = refl
  of_sets_map g m n f (x ∷ xs) = map-append g (entry x (m x)) (of_sets m xs) ∙ ap₂ (λ (us vs : List (ℕ × V)). us ++ vs) (f x) (of_sets_map g m n f xs)

  pub listed_same : (m n : ℕ → Option V) → ((x : ℕ) → m x ≡ n x) → listed m ≡ listed n
  unfolding listed
  listed_same m n f = go (all_sets MOST_COLUMNS)
    where
      go : (xs : List ℕ) → of_sets m xs ≡ of_sets n xs
      go [] = refl
      go (x ∷ xs) = ap₂ (λ (us vs : List (ℕ × V)). us ++ vs) (ap (entry x) (f x)) (go xs)

  pub listed_none : (m : ℕ → Option V) → ((x : ℕ) → m x ≡ None) → listed m ≡ []
  unfolding listed
  listed_none m f = go (all_sets MOST_COLUMNS)
    where
      go : (xs : List ℕ) → of_sets m xs ≡ []
      go [] = refl
      go (x ∷ xs) = ap₂ (λ (us vs : List (ℕ × V)). us ++ vs) (ap (entry x) (f x)) (go xs)

  pub listed_replaced : (m n : ℕ → Option V) (x : ℕ) (v : V) → is_some (m x) ≡ true → ((y : ℕ) → n y ≡ (if y == x then Some v else m y)) → listed n ≡ with_value (listed m) x v
  unfolding listed
  listed_replaced m n x v some f = sym (of_sets_map (λ p. if p.0 == x then (x, v) else p) m n (λ y. by y (eqb y x) refl (m y) refl) (all_sets MOST_COLUMNS))
    where
      by : (y : ℕ) (b : Bool) → eqb y x ≡ b → (o : Option V) → m y ≡ o → map (λ p. if p.0 == x then (x, v) else p) (entry y o) ≡ entry y (n y)
      by y true e None i = absurd (true≢false (sym some ∙ ap is_some (ap m (sym (eqb-true y x e)) ∙ i)))
      by y true e (Some w) i = ap (λ (b : Bool). (if b then (x, v) else (y, w)) ∷ []) e ∙ (λ i. (sym (eqb-true y x e) i, v) ∷ []) ∙ ap (entry y) (sym (f y ∙ ap (λ (b : Bool). if b then Some v else m y) e))
      by y false e None i = ap (entry y) (sym (f y ∙ ap (λ (b : Bool). if b then Some v else m y) e ∙ i))
      by y false e (Some w) i = ap (λ (b : Bool). (if b then (x, v) else (y, w)) ∷ []) e ∙ ap (entry y) (sym (f y ∙ ap (λ (b : Bool). if b then Some v else m y) e ∙ i))

  pub listed_not_replaced : (m : ℕ → Option V) (x : ℕ) (v : V) → is_some (m x) ≡ false → listed m ≡ with_value (listed m) x v
  unfolding listed
  listed_not_replaced m x v none = sym (of_sets_map (λ p. if p.0 == x then (x, v) else p) m m (λ y. by y (eqb y x) refl (m y) refl) (all_sets MOST_COLUMNS))
    where
      by : (y : ℕ) (b : Bool) → eqb y x ≡ b → (o : Option V) → m y ≡ o → map (λ p. if p.0 == x then (x, v) else p) (entry y o) ≡ entry y (m y)
      by y true e (Some w) i = absurd (true≢false (sym (ap is_some (ap m (sym (eqb-true y x e)) ∙ i)) ∙ none))
      by y b e None i = ap (entry y) (sym i)
      by y false e (Some w) i = ap (λ (b : Bool). (if b then (x, v) else (y, w)) ∷ []) e ∙ ap (entry y) (sym i)

  pub listed_removed : (m n : ℕ → Option V) (x : ℕ) → ((y : ℕ) → n y ≡ (if y == x then None else m y)) → listed n ≡ without_key (listed m) x
  listed_removed m n x f = sym (listed_filter (λ p. not (p.0 == x)) m n (λ y. by y (eqb y x) refl (m y) refl))
    where
      by : (y : ℕ) (b : Bool) → eqb y x ≡ b → (o : Option V) → m y ≡ o → filter (λ p. not (p.0 == x)) (entry y o) ≡ entry y (n y)
      by y true e None i = ap (entry y) (sym (f y ∙ ap (λ (b : Bool). if b then None else m y) e))
      by y true e (Some w) i = ap (λ (b : Bool). if not b then (y, w) ∷ [] else []) e ∙ ap (entry y) (sym (f y ∙ ap (λ (b : Bool). if b then None else m y) e))
      by y false e None i = ap (entry y) (sym (f y ∙ ap (λ (b : Bool). if b then None else m y) e ∙ i))
      by y false e (Some w) i = ap (λ (b : Bool). if not b then (y, w) ∷ [] else []) e ∙ ap (entry y) (sym (f y ∙ ap (λ (b : Bool). if b then None else m y) e ∙ i))

  -- ---- a pair more
  inserted_rise : (ps : List (ℕ × V)) (x : ℕ) (v : V) → IsInOrder ps → IsInOrder (inserted ps x v)
  inserted_rise ps x v o =
      Rises-append (λ p q. report_cmp p.0 q.0) (filter (λ p. is_lt (report_cmp p.0 x)) ps) ((x, v) ∷ filter (λ p. is_lt (report_cmp x p.0)) ps)
      (Rises-filter (λ p q. report_cmp p.0 q.0) (λ p. is_lt (report_cmp p.0 x)) ps o)
      ((λ p h. less_from (report_cmp x p.0) (Listed-filter_parts (λ p. is_lt (report_cmp x p.0)) p ps h).1), Rises-filter (λ p q. report_cmp p.0 q.0) (λ p. is_lt (report_cmp x p.0)) ps o)
      (λ p q h g. by p q (less_from (report_cmp p.0 x) (Listed-filter_parts (λ p. is_lt (report_cmp p.0 x)) p ps h).1) g)
    where
      by : (p q : ℕ × V) → report_cmp p.0 x ≡ Less → Listed q ((x, v) ∷ filter (λ p. is_lt (report_cmp x p.0)) ps) → report_cmp p.0 q.0 ≡ Less
      by p q l (inl e) = ap (λ (r : ℕ × V). report_cmp p.0 r.0) e ∙ l
      by p q l (inr h) = report_total.trans p.0 x q.0 l (less_from (report_cmp x q.0) (Listed-filter_parts (λ p. is_lt (report_cmp x p.0)) q ps h).1)

  pub listed_inserted : (m n : ℕ → Option V) (x : ℕ) (v : V) → ((y : ℕ) (w : V) → n y ≡ Some w → y < 2 ^ MOST_COLUMNS) → ((y : ℕ) → n y ≡ (if y == x then Some v else m y)) → listed n ≡ inserted (listed m) x v
  listed_inserted m n x v narrow f = same_pairs (listed n) (inserted (listed m) x v) (listed_rise n) (inserted_rise (listed m) x v (listed_rise m)) there back
    where
      here : n x ≡ Some v
      here = f x ∙ ap (λ (b : Bool). if b then Some v else m x) (eq-eqb x x refl)

      there : (p : ℕ × V) → Listed p (listed n) → Listed p (inserted (listed m) x v)
      there p h = by (report_cmp p.0 x) refl
        where
          value : n p.0 ≡ Some p.1
          value = listed_only n p h

          apart : (p.0 ≡ x → ⊥) → Listed p (listed m)
          apart ne = listed_has m p.0 p.1 (listed_below n p h) (sym (f p.0 ∙ ap (λ (b : Bool). if b then Some v else m p.0) (ne_eqb p.0 x ne)) ∙ value)

          by : (o : Ordering) → report_cmp p.0 x ≡ o → Listed p (inserted (listed m) x v)
          by Less e = Listed-append_left p (filter (λ p. is_lt (report_cmp p.0 x)) (listed m)) ((x, v) ∷ filter (λ p. is_lt (report_cmp x p.0)) (listed m))
              (Listed-filter (λ p. is_lt (report_cmp p.0 x)) p (listed m) (apart (λ i. less_not_same p.0 x e i)) (ap is_lt e))
          by Equal e = Listed-append_right p (filter (λ p. is_lt (report_cmp p.0 x)) (listed m)) ((x, v) ∷ filter (λ p. is_lt (report_cmp x p.0)) (listed m))
              (inl (λ i. (report_cmp-same p.0 x e i, some-injective p.1 v (sym value ∙ f p.0 ∙ ap (λ (b : Bool). if b then Some v else m p.0) (eq-eqb p.0 x (report_cmp-same p.0 x e))) i)))
          by Greater e = let back : report_cmp x p.0 ≡ Less = report_total.antisymm x p.0 ∙ ap ordering_reverse e in
              Listed-append_right p (filter (λ p. is_lt (report_cmp p.0 x)) (listed m)) ((x, v) ∷ filter (λ p. is_lt (report_cmp x p.0)) (listed m))
              (inr (Listed-filter (λ p. is_lt (report_cmp x p.0)) p (listed m) (apart (λ i. less_not_same x p.0 back (sym i))) (ap is_lt back)))

      back : (p : ℕ × V) → Listed p (inserted (listed m) x v) → Listed p (listed n)
      back p h = by (Listed-append_cases p (filter (λ p. is_lt (report_cmp p.0 x)) (listed m)) ((x, v) ∷ filter (λ p. is_lt (report_cmp x p.0)) (listed m)) h)
        where
          old : Listed p (listed m) → (p.0 ≡ x → ⊥) → Listed p (listed n)
          old g ne = listed_has n p.0 p.1 (listed_below m p g) (f p.0 ∙ ap (λ (b : Bool). if b then Some v else m p.0) (ne_eqb p.0 x ne) ∙ listed_only m p g)

          by : Listed p (filter (λ p. is_lt (report_cmp p.0 x)) (listed m)) ⊎ Listed p ((x, v) ∷ filter (λ p. is_lt (report_cmp x p.0)) (listed m)) → Listed p (listed n)
          by (inl g) = let w = Listed-filter_parts (λ p. is_lt (report_cmp p.0 x)) p (listed m) g in old w.0 (λ i. less_not_same p.0 x (less_from (report_cmp p.0 x) w.1) i)
          by (inr (inl e)) = subst (λ (q : ℕ × V). Listed q (listed n)) (sym e) (listed_has n x v (narrow x v here) here)
          by (inr (inr g)) = let w = Listed-filter_parts (λ p. is_lt (report_cmp x p.0)) p (listed m) g in old w.0 (λ i. less_not_same x p.0 (less_from (report_cmp x p.0) w.1) (sym i))

  pub is_some_value : (ps : List (ℕ × V)) (x : ℕ) → is_some (value_at ps x) ≡ is_key ps x
  is_some_value [] x = refl
  is_some_value (p ∷ ps) x = by (p.0 == x) (is_some_value ps x)
    where
      by : (b : Bool) → is_some (value_at ps x) ≡ is_key ps x → is_some (option_map (λ p. p.1) (cond b (Some p) (find (λ p. p.0 == x) ps))) ≡ (b || list_any (λ p. p.0 == x) ps)
      by true e = refl
      by false e = e

  -- all of them lie inside the set of all columns
  pub listed_whole : (m : ℕ → Option V) → ((y : ℕ) (w : V) → m y ≡ Some w → y < 2 ^ MOST_COLUMNS) → inside (listed m) (all MOST_COLUMNS) ≡ listed m
  listed_whole m narrow = listed_filter (λ p. subset p.0 (all MOST_COLUMNS)) m m (λ x. by x (m x) refl)
    where
      by : (x : ℕ) (o : Option V) → m x ≡ o → filter (λ p. subset p.0 (all MOST_COLUMNS)) (entry x o) ≡ entry x (m x)
      by x None e = ap (entry x) (sym e)
      by x (Some w) e =
          ap (λ (b : Bool). cond b ((x, w) ∷ []) []) (true-subset (record { each = λ k h. has-all MOST_COLUMNS k ∙ lt-ltb k MOST_COLUMNS (has_within x MOST_COLUMNS k (narrow x w e) h) }))
          ∙ ap (entry x) (sym e)

-- ---- keys that are taken out one after another
module _ {V : Type 0} where
  -- whether a key is among these
  abbrev pub is_among : List (ℕ × V) → ℕ × V → Bool
  is_among qs p = list_any (λ q. p.0 == q.0) qs

  pub none_out : (ps : List (ℕ × V)) → ps ≡ filter (λ p. not (is_among [] p)) ps
  none_out [] = refl
  none_out (p ∷ ps) = ap (λ xs. p ∷ xs) (none_out ps)

  any-append : (f : ℕ × V → Bool) (us : List (ℕ × V)) (q : ℕ × V) → list_any f (us ++ q ∷ []) ≡ (list_any f us || f q)
  any-append f [] q = both (f q)
    where
      both : (b : Bool) → (b || false) ≡ b
      both true = refl
      both false = refl
  any-append f (u ∷ us) q = ap (λ (b : Bool). f u || b) (any-append f us q) ∙ both (f u) (list_any f us) (f q)
    where
      both : (a b c : Bool) → (a || (b || c)) ≡ ((a || b) || c)
      both true b c = refl
      both false b c = refl

  pub one_out : (ps us : List (ℕ × V)) (q : ℕ × V) → without_key (filter (λ p. not (is_among us p)) ps) q.0 ≡ filter (λ p. not (is_among (us ++ q ∷ []) p)) ps
  one_out [] us q = refl
  one_out (p ∷ ps) us q = by (is_among us p) refl (p.0 == q.0) refl (any-append (λ q. p.0 == q.0) us q) (one_out ps us q)
    where
      F : List (ℕ × V)
      F = filter (λ p. not (is_among us p)) ps

      G : List (ℕ × V)
      G = filter (λ p. not (is_among (us ++ q ∷ []) p)) ps

      by : (a : Bool) → is_among us p ≡ a → (b : Bool) → (p.0 == q.0) ≡ b → is_among (us ++ q ∷ []) p ≡ (is_among us p || (p.0 == q.0)) → without_key F q.0 ≡ G
          → without_key (cond (not (is_among us p)) (p ∷ F) F) q.0 ≡ cond (not (is_among (us ++ q ∷ []) p)) (p ∷ G) G
      by true i b j e rest = ap (λ (a : Bool). without_key (cond (not a) (p ∷ F) F) q.0) i ∙ rest ∙ sym (ap (λ (c : Bool). cond (not c) (p ∷ G) G) (e ∙ ap (λ (a : Bool). a || (p.0 == q.0)) i))
      by false i true j e rest = ap (λ (a : Bool). without_key (cond (not a) (p ∷ F) F) q.0) i ∙ ap (λ (b : Bool). cond (not b) (p ∷ without_key F q.0) (without_key F q.0)) j ∙ rest
          ∙ sym (ap (λ (c : Bool). cond (not c) (p ∷ G) G) (e ∙ ap₂ (λ (a b : Bool). a || b) i j))
      by false i false j e rest = ap (λ (a : Bool). without_key (cond (not a) (p ∷ F) F) q.0) i ∙ ap (λ (b : Bool). cond (not b) (p ∷ without_key F q.0) (without_key F q.0)) j ∙ ap (λ xs. p ∷ xs) rest
          ∙ sym (ap (λ (c : Bool). cond (not c) (p ∷ G) G) (e ∙ ap₂ (λ (a b : Bool). a || b) i j))

  pub all_out : (ps : List (ℕ × V)) (z : ℕ) → filter (λ p. not (is_among (inside ps z) p)) ps ≡ not_inside ps z
  all_out ps z = filter_same (λ p. not (is_among (inside ps z) p)) (λ p. not (subset p.0 z)) ps (λ p h. ap not (same_test (is_among (inside ps z) p) (subset p.0 z) (there p) (back p h)))
    where
      there : (p : ℕ × V) → is_among (inside ps z) p ≡ true → subset p.0 z ≡ true
      there p e = let w = list_any_which (λ q. p.0 == q.0) (inside ps z) e in
          ap (λ x. subset x z) (eqb-true p.0 w.0.0 w.2) ∙ (Listed-filter_parts (λ p. subset p.0 z) w.0 ps w.1).1

      back : (p : ℕ × V) → Listed p ps → subset p.0 z ≡ true → is_among (inside ps z) p ≡ true
      back p h e = list_any_at (λ q. p.0 == q.0) p (inside ps z) (Listed-filter (λ p. subset p.0 z) p ps h e) (eq-eqb p.0 p.0 refl)
