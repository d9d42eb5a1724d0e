-- The whole tree, as it is seen.
use Rattle.std.proofs.Common.{inl, inr, ◌≡◌, ◌≢◌, ℕ, zero, suc, ◌+◌, ◌<◌, ◌≤◌, ◌^◌, ◌==◌, ◌&&◌, ◌||◌, Bool, true, false, refl, sym, ap, ap₂, ◌∙◌, subst, arith, List, [], ◌++◌, length, Option, Some, None, if◌then◌else◌}
use Rattle.std.specs.List.{list_any}
use Rattle.std.specs.Option.{is_some}
use Rattle.std.proofs.lemmas.Bool.{eqb-true, eq-eqb, ne_eqb, true≢false, or_left, or_right, or_cases, and_parts}
use Rattle.col_set.specs.ColSet.{has, with, empty, subset}
use Rattle.col_set.specs.declared.col_set.TheConstants.{MOST_COLUMNS}
use Rattle.col_set.specs.Subsets.{same_test, below_from}
use Rattle.col_set.specs.Members.{has-empty}
use Rattle.col_set.specs.Lists.{Listed, Listed-append_left, Listed-append_right, Listed-append_cases, Listed-filter, Listed-filter_parts, list_any_at, list_any_which}
use Rattle.set_tree.specs.declared.node.Node.{Node}
use Rattle.set_tree.specs.Tree.{Shape, tip, fork, look, root, Keep, Ascends, uses, spare, IsTree, IsLocal, Becomes, but}
use Rattle.set_tree.specs.Walks.{entry, walk, any_inside, values, listed, read, Reads}
use Rattle.set_tree.proofs.Spots.{tree_reads}
use Rattle.set_tree.proofs.Growing.{keep_same, tip_root, tip_kept, tip_ascends, tip_is_tree}
use Rattle.set_tree.proofs.Apart.{met, met_only, met_every, look_narrow}

module _ {V : Type 0} where
  pub read_is : (n : ℕ) (ns : List (Node V)) (link : Option ℕ) (from : ℕ) (t : Shape V) → MOST_COLUMNS ≤ n + from → Reads ns link from t → read n ns link ≡ t
  unfolding read Keep root Ascends
  read_is zero ns link from tip l r = refl
  read_is zero ns link from (fork at c v s u) l r = absurd (omega (arith, l, r.ascends.0, r.ascends.1))
  read_is (suc n) ns link from tip l r = subst (λ (o : Option ℕ). read (suc n) ns o ≡ tip) (sym r.starts) refl
  read_is (suc n) ns link from (fork at c v s u) l r =
      subst (λ (o : Option ℕ). read (suc n) ns o ≡ fork at c v s u) (sym r.starts)
      (ap (λ (o : Option (Node V)). elim o [ None ↦ tip | Some d ↦ fork at d.column d.value (read n ns d.child) (read n ns d.next) ]) r.kept.0
      ∙ ap₂ (λ (a b : Shape V). fork at c v a b)
      (read_is n ns (root s) (suc c) s (omega (arith, l, r.ascends.0)) (record { starts = refl; kept = r.kept.1; ascends = r.ascends.2 }))
      (read_is n ns (root u) (suc c) u (omega (arith, l, r.ascends.0)) (record { starts = refl; kept = r.kept.2; ascends = r.ascends.3 })))

  module _ (ns new : List (Node V)) (us waiting : List ℕ) (link to : Option ℕ) (t : Shape V) (seen : ℕ → Option V) (tree : IsTree ns us link 0 t) (b : Becomes ns us 0 t new waiting to seen) where
    read_shape : read MOST_COLUMNS new to ≡ b.shape
    read_shape = read_is MOST_COLUMNS new to 0 b.shape (omega arith) (record { starts = b.starts; kept = b.kept; ascends = b.ascends })

    pub becomes_tree : IsTree new waiting to 0 (read MOST_COLUMNS new to)
    becomes_tree = subst (IsTree new waiting to 0) (sym read_shape) (record {
      starts = b.starts;
      kept = b.kept;
      ascends = b.ascends;
      once = λ k. let f = b.local.fewer k in let o = tree.once k in omega (arith, f, o);
    })

    pub becomes_seen : (y : ℕ) → look (read MOST_COLUMNS new to) y ≡ seen y
    becomes_seen y = ap (λ (s : Shape V). look s y) read_shape ∙ b.same y

  -- another value for a path, the value of the empty set beside
  pub values_but : (top : Option V) (t u : Shape V) (x : ℕ) (w : Option V) → x ≢ empty → ((y : ℕ) → look u y ≡ but t x w y) → (y : ℕ) → values top u y ≡ (if y == x then w else values top t y)
  values_but top t u x w some f y = by (y == empty) refl (y == x) refl
    where
      by : (a : Bool) → (y == empty) ≡ a → (b : Bool) → (y == x) ≡ b → (if a then top else look u y) ≡ (if b then w else (if a then top else look t y))
      by true e true i = absurd (some (sym (eqb-true y x i) ∙ eqb-true y empty e))
      by true e false i = refl
      by false e b i = f y ∙ ap (λ (b : Bool). if b then w else look t y) i

  pub values_top : (top new : Option V) (t : Shape V) (y : ℕ) → values new t y ≡ (if y == empty then new else values top t y)
  values_top top new t y = by (y == empty)
    where
      by : (a : Bool) → (if a then new else look t y) ≡ (if a then new else (if a then top else look t y))
      by true = refl
      by false = refl

  pub values_here : (top : Option V) (t : Shape V) (x : ℕ) → x ≡ empty → values top t x ≡ top
  values_here top t x e = ap (λ (b : Bool). if b then top else look t x) (eq-eqb x empty e)

  pub values_path : (top : Option V) (t : Shape V) (x : ℕ) → x ≢ empty → values top t x ≡ look t x
  values_path top t x e = ap (λ (b : Bool). if b then top else look t x) (ne_eqb x empty e)

  -- a tree that nothing touched is still one
  pub still_tree : (ns new : List (Node V)) (us waiting : List ℕ) (link : Option ℕ) (t : Shape V) → IsTree ns us link 0 t → IsLocal ns us tip new waiting tip → IsTree new waiting link 0 t
  unfolding uses
  still_tree ns new us waiting link t tree a = record {
    starts = tree.starts;
    kept = keep_same ns new t tree.kept (λ k h. a.same k (let o = tree.once k in omega (arith, o, h)));
    ascends = tree.ascends;
    once = λ k. let f = a.fewer k in let o = tree.once k in omega (arith, f, o);
  }

  pub read_tree : (ns : List (Node V)) (us : List ℕ) (link : Option ℕ) (t : Shape V) → IsTree ns us link 0 t → read MOST_COLUMNS ns link ≡ t
  read_tree ns us link t tree = read_is MOST_COLUMNS ns link 0 t (omega arith) (tree_reads ns us link 0 t tree)

  -- ---- whether a walk meets anything
  pub any_met : (p : ℕ) (t : Shape V) (x : ℕ) → any_inside t x ≡ true → (q : ℕ × V) × Listed q (walk p t x)
  unfolding any_inside walk
  any_met p tip x e = absurd (true≢false (sym e))
  any_met p (fork at c v l r) x e = elim (or_cases (has x c && (is_some v || any_inside l x)) (any_inside r x) e) as (λ _. (q : ℕ × V) × Listed q (walk p (fork at c v l r) x)) [
    | inr h ↦ let w = any_met p r x h in (w.0, Listed-append_right w.0 (if has x c then entry (with p c) v ++ walk (with p c) l x else []) (walk p r x) w.1)
    | inl h ↦ let both = and_parts (has x c) (is_some v || any_inside l x) h in
        let w = here v both.1 (λ g. any_met (with p c) l x g) in (
          w.0,
          Listed-append_left w.0 (if has x c then entry (with p c) v ++ walk (with p c) l x else []) (walk p r x)
              (subst (λ (b : Bool). Listed w.0 (if b then entry (with p c) v ++ walk (with p c) l x else [])) (sym both.0) w.1),
        )
  ]
    where
      here : (o : Option V) → (is_some o || any_inside l x) ≡ true → (any_inside l x ≡ true → (q : ℕ × V) × Listed q (walk (with p c) l x)) → (q : ℕ × V) × Listed q (entry (with p c) o ++ walk (with p c) l x)
      here None h f = f h
      here (Some w) h f = ((with p c, w), inl refl)

  pub met_any : (p : ℕ) (t : Shape V) (x : ℕ) (q : ℕ × V) → Listed q (walk p t x) → any_inside t x ≡ true
  unfolding any_inside walk
  met_any p tip x q h = absurd h
  met_any p (fork at c v l r) x q h = elim (Listed-append_cases q (if has x c then entry (with p c) v ++ walk (with p c) l x else []) (walk p r x) h) as (λ _. any_inside (fork at c v l r) x ≡ true) [
    | inr g ↦ or_right (has x c && (is_some v || any_inside l x)) (any_inside r x) (met_any p r x q g)
    | inl g ↦ or_left (has x c && (is_some v || any_inside l x)) (any_inside r x) (by (has x c) g (λ k. met_any (with p c) l x q k))
  ]
    where
      own : (o : Option V) → Listed q (entry (with p c) o ++ walk (with p c) l x) → (Listed q (walk (with p c) l x) → any_inside l x ≡ true) → (is_some o || any_inside l x) ≡ true
      own None g f = f g
      own (Some w) g f = refl

      by : (b : Bool) → Listed q (if b then entry (with p c) v ++ walk (with p c) l x else []) → (Listed q (walk (with p c) l x) → any_inside l x ≡ true) → (b && (is_some v || any_inside l x)) ≡ true
      by true g f = own v g f
      by false g f = absurd g

  pub any_is : (top : Option V) (t : Shape V) (x : ℕ) → Ascends 0 t → (is_some top || any_inside t x) ≡ list_any (λ p. subset p.0 x) (listed (values top t))
  any_is top t x a = same_test (is_some top || any_inside t x) (list_any (λ p. subset p.0 x) (listed (values top t))) (λ e. there top refl e) back
    where
      found : (q : ℕ × V) → Listed q (met top t x a) → list_any (λ p. subset p.0 x) (listed (values top t)) ≡ true
      found q h = let w = Listed-filter_parts (λ p. subset p.0 x) q (listed (values top t)) (met_only top t x a q h) in list_any_at (λ p. subset p.0 x) q (listed (values top t)) w.0 w.1

      there : (o : Option V) → top ≡ o → (is_some o || any_inside t x) ≡ true → list_any (λ p. subset p.0 x) (listed (values top t)) ≡ true
      there (Some v) i e = found (empty, v) (Listed-append_left (empty, v) (entry empty top) (walk empty t x) (subst (λ (o : Option V). Listed (empty, v) (entry empty o)) (sym i) (inl refl)))
      there None i e = let w = any_met empty t x e in found w.0 (Listed-append_right w.0 (entry empty top) (walk empty t x) w.1)

      some : (o : Option V) (q : ℕ × V) → Listed q (entry empty o) → is_some o ≡ true
      some None q h = absurd h
      some (Some v) q h = refl

      back : list_any (λ p. subset p.0 x) (listed (values top t)) ≡ true → (is_some top || any_inside t x) ≡ true
      back e =
          let w = list_any_which (λ p. subset p.0 x) (listed (values top t)) e in
          elim (Listed-append_cases w.0 (entry empty top) (walk empty t x) (met_every top t x a w.0 (Listed-filter (λ p. subset p.0 x) w.0 (listed (values top t)) w.1 w.2))) as (λ _. (is_some top || any_inside t x) ≡ true) [
            | inl g ↦ or_left (is_some top) (any_inside t x) (some top w.0 g)
            | inr g ↦ or_right (is_some top) (any_inside t x) (met_any empty t x w.0 g)
          ]

  -- a column set with a value has columns of the widest relation alone
  pub values_narrow : (top : Option V) (t : Shape V) → Ascends 0 t → (y : ℕ) (w : V) → values top t y ≡ Some w → y < 2 ^ MOST_COLUMNS
  values_narrow top t a y w e = by (y == empty) refl e
    where
      by : (b : Bool) → (y == empty) ≡ b → (if b then top else look t y) ≡ Some w → y < 2 ^ MOST_COLUMNS
      by true i e = below_from y MOST_COLUMNS (λ k h. absurd (true≢false (sym h ∙ ap (λ z. has z k) (eqb-true y empty i) ∙ has-empty k)))
      by false i e = below_from y MOST_COLUMNS (look_narrow 0 t y w a e)

  -- ---- no column sets
  pub empty_shape : (ns : List (Node V)) → read MOST_COLUMNS ns None ≡ tip
  empty_shape ns = read_is MOST_COLUMNS ns None 0 tip (omega arith) (record { starts = tip_root V; kept = tip_kept ns; ascends = tip_ascends V 0 })

  pub empty_tree : (ns : List (Node V)) (us : List ℕ) → ((k : ℕ) → spare (length ns) us k ≤ 1) → IsTree ns us None 0 (read MOST_COLUMNS ns None)
  empty_tree ns us once = subst (IsTree ns us None 0) (sym (empty_shape ns)) (tip_is_tree ns us 0 once)

pub none_in_tip : (V : Type 0) (y : ℕ) → values {V = V} None tip y ≡ None
unfolding look
none_in_tip V y = by (y == empty)
  where
    by : (b : Bool) → ◌≡◌ {A = Option V} (if b then None else None) None
    by true = refl
    by false = refl
