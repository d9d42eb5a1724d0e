-- Pairs of which no two have the same key.
use Rattle.std.proofs.Common.{inl, inr, ◌≡◌, ◌≢◌, ℕ, zero, suc, ◌+◌, ◌<◌, ◌≤◌, ◌==◌, ◌&&◌, ◌||◌, not, Bool, true, false, eqb, refl, sym, ap, ap₂, ◌∙◌, subst, arith, List, [], ◌∷◌, ◌++◌, Option, Some, None, Less, Equal, Greater, Ordering, IsPermutation, if◌then◌else◌}
use Rattle.std.specs.List.{AllByRecursion, IsDistinct, AllPairs}
use Rattle.std.specs.List.Sorted.{IsSortedByKey}
use Rattle.std.specs.Ordering.{is_lt, ordering_reverse}
use Rattle.std.proofs.lemmas.Option.{none-some}
use Rattle.std.proofs.lemmas.Bool.{eqb-true, eqb-false, eq-eqb, ne_eqb, true≢false, or_left, or_right, cases_lt}
use Rattle.std.proofs.lemmas.List.Sorted.{Contains-permutation, IsPermutation-sym}
use Rattle.std.proofs.lemmas.Map.Keys.{IsDistinct-IsPermutation}
use Rattle.col_set.specs.ColSet.{has, with, without, union, empty, subset, report_cmp}
use Rattle.col_set.specs.Columns.{report_total}
use Rattle.col_set.specs.AllSets.{report_cmp-same}
use Rattle.col_set.specs.Members.{has-empty, has-with, has-union, same_set}
use Rattle.col_set.specs.Subsets.{subset-true, true-subset, below_from}
use Rattle.col_set.specs.declared.col_set.TheConstants.{MOST_COLUMNS}
use Rattle.std.proofs.Common.{get_or}
use Rattle.set_tree.proofs.Spots.{Goes, ends, on, past, goes, look_on, look_past}
use Rattle.col_set.specs.Members.{has-without}
use Rattle.col_set.specs.Lists.{Listed, Listed-append_left, Listed-append_right, Listed-append_cases, Listed-filter, Listed-filter_parts}
use Rattle.col_set.proofs.Places.{Contains-listed, Listed-contained, Listed-get_or}
use Rattle.set_tree.specs.Tree.{Shape, tip, fork, look, Ascends}
use Rattle.set_tree.specs.Pairs.{IsInOrder, inside, AreThose}
use Rattle.set_tree.specs.Walks.{entry, walk, values, listed}
use Rattle.set_tree.proofs.Values.{look_low}
use Rattle.set_tree.proofs.Walking.{IsMet, walk_has, walk_only, entry_has, entry_only, look_empty}
use Rattle.set_tree.proofs.Listing.{listed_has, listed_only, same_pairs}

add_one : (k : ℕ) → suc k + 1 ≡ suc (k + 1)
add_one k = omega arith

no_more : (a c : Bool) → a ≡ false → c ≡ false → (a || c) ≡ false
no_more false false e f = refl
no_more true c e f = absurd (true≢false e)
no_more false true e f = absurd (true≢false f)

module _ {V : Type 0} where
  pub Apart : List (ℕ × V) → Type 0
  Apart [] = zero ≡ zero
  Apart (q ∷ qs) = ((r : ℕ × V) → Listed r qs → q.0 ≡ r.0 → ⊥) × Apart qs

  apart-append : (us vs : List (ℕ × V)) → Apart us → Apart vs → ((q r : ℕ × V) → Listed q us → Listed r vs → q.0 ≡ r.0 → ⊥) → Apart (us ++ vs)
  unfolding Apart
  apart-append [] vs a b f = b
  apart-append (q ∷ us) vs a b f = (
    (λ r h e. elim (Listed-append_cases r us vs h) as (λ _. ⊥) [ inl g ↦ a.0 r g e | inr g ↦ f q r (inl refl) g e ]),
    apart-append us vs a.1 b (λ p r h g. f p r (inr h) g),
  )

  entry_apart : (x : ℕ) (o : Option V) → Apart (entry x o)
  unfolding Apart
  entry_apart x None = refl
  entry_apart x (Some v) = ((λ r h e. h), refl)

  pub walk_apart : (p from : ℕ) (t : Shape V) (x : ℕ) → Ascends from t → ((k : ℕ) → from ≤ k → has p k ≡ false) → Apart (walk p t x)
  unfolding walk Ascends Apart
  walk_apart p from tip x a low = refl
  walk_apart p from (fork at c v l r) x a low =
      by (has x c) (walk_apart (with p c) (suc c) l x a.2 low_with) (walk_apart p (suc c) r x a.3 (λ k g. low k (omega (arith, g, a.0))))
    where
      low_with : (k : ℕ) → suc c ≤ k → has (with p c) k ≡ false
      low_with k g = has-with p c k ∙ no_more (has p k) (eqb k c) (low k (omega (arith, g, a.0))) (ne_eqb k c (λ e. omega (arith, e, g)))

      has_c : has (with p c) c ≡ true
      has_c = has-with p c c ∙ or_right (has p c) (eqb c c) (eq-eqb c c refl)

      -- what lies beside lacks the column
      beside : (q : ℕ × V) → Listed q (walk p r x) → has q.0 c ≡ false
      beside q h =
          let m = walk_only p (suc c) r x q a.3 h in
          ap (λ z. has z c) m.is ∙ has-union p m.path c ∙ no_more (has p c) (has m.path c) (low c a.0) (lacks m (has m.path c) refl)
        where
          lacks : (m : IsMet p r x q) → (b : Bool) → has m.path c ≡ b → has m.path c ≡ false
          lacks m true i = absurd (none-some q.1 (sym (look_low r (suc c) m.path c a.3 i (omega arith)) ∙ m.value))
          lacks m false i = i

      end : (q : ℕ × V) → Listed q (entry (with p c) v) → q.0 ≡ with p c
      end q h = (entry_only (with p c) v q h).0

      below : (q : ℕ × V) → Listed q (walk (with p c) l x) → (has q.0 c ≡ true) × (q.0 ≡ with p c → ⊥)
      below q h =
          let m = walk_only (with p c) (suc c) l x q a.2 h in (
            ap (λ z. has z c) m.is ∙ has-union (with p c) m.path c ∙ or_left _ _ has_c,
            λ e. none-some q.1 (sym (look_empty l) ∙ ap (look l) (sym (same_set m.path empty (λ k. nothing m e k (has m.path k) refl ∙ sym (has-empty k)))) ∙ m.value),
          )
        where
          nothing : (m : IsMet (with p c) l x q) → q.0 ≡ with p c → (k : ℕ) (b : Bool) → has m.path k ≡ b → has m.path k ≡ false
          nothing m e k false i = i
          nothing m e k true i = absurd (elim (cases_lt k (suc c)) as (λ _. ⊥) [
            | inl g ↦ none-some q.1 (sym (look_low l (suc c) m.path k a.2 i g) ∙ m.value)
            | inr g ↦ true≢false (sym (ap (λ z. has z k) (sym e ∙ m.is) ∙ has-union (with p c) m.path k ∙ or_right (has (with p c) k) (has m.path k) i) ∙ low_with k g)
          ])

      by : (b : Bool) → Apart (walk (with p c) l x) → Apart (walk p r x) → Apart ((if b then entry (with p c) v ++ walk (with p c) l x else []) ++ walk p r x)
      by false f g = g
      by true f g = apart-append (entry (with p c) v ++ walk (with p c) l x) (walk p r x)
          (apart-append (entry (with p c) v) (walk (with p c) l x) (entry_apart (with p c) v) f (λ q s h k e. (below s k).1 (sym e ∙ end q h)))
          g
          (λ q s h k e. true≢false (sym (elim (Listed-append_cases q (entry (with p c) v) (walk (with p c) l x) h) as (λ _. has q.0 c ≡ true) [
            | inl m ↦ ap (λ z. has z c) (end q m) ∙ has_c
            | inr m ↦ (below q m).0
          ]) ∙ ap (λ z. has z c) e ∙ beside s k))

  -- ---- sorted by their keys they rise
  apart_distinct : (ps : List (ℕ × V)) → Apart ps → IsDistinct (λ p q. eqb p.0 q.0) ps
  unfolding Apart IsDistinct
  apart_distinct [] a = tt
  apart_distinct (p ∷ ps) a = (each ps (λ q h. ne_eqb p.0 q.0 (a.0 q h)), apart_distinct ps a.1)
    where
      each : (qs : List (ℕ × V)) → ((q : ℕ × V) → Listed q qs → eqb p.0 q.0 ≡ false) → AllByRecursion (λ q. eqb p.0 q.0 ≡ false) qs
      each [] f = tt
      each (q ∷ qs) f = (f q (inl refl), each qs (λ r h. f r (inr h)))

  flips : (p q : ℕ × V) → eqb p.0 q.0 ≡ eqb q.0 p.0
  flips p q = by (eqb p.0 q.0) refl
    where
      by : (b : Bool) → eqb p.0 q.0 ≡ b → b ≡ eqb q.0 p.0
      by true e = sym (eq-eqb q.0 p.0 (sym (eqb-true p.0 q.0 e)))
      by false e = sym (ne_eqb q.0 p.0 (λ i. eqb-false p.0 q.0 e (sym i)))

  sorted_rise : (ps : List (ℕ × V)) → IsSortedByKey (λ p. p.0) report_cmp ps → IsDistinct (λ p q. eqb p.0 q.0) ps → IsInOrder ps
  unfolding IsDistinct
  sorted_rise [] s d = tt
  sorted_rise (p ∷ []) s d = ((λ q h. absurd h), tt)
  sorted_rise (p ∷ q ∷ ps) s d =
      let rest = sorted_rise (q ∷ ps) (λ k e a b. subst (λ (j : ℕ). is_lt (report_cmp (get_or (p ∷ q ∷ ps) j e).0 (get_or (q ∷ ps) k e).0) ≡ false) (add_one k) (s (suc k) e (omega arith) (omega (arith, b)))) d.1 in
      let first : report_cmp p.0 q.0 ≡ Less = less (report_cmp p.0 q.0) refl in
      ((λ r h. by r first rest h), rest)
    where
      less : (o : Ordering) → report_cmp p.0 q.0 ≡ o → report_cmp p.0 q.0 ≡ Less
      less Less e = e
      less Equal e = absurd (eqb-false p.0 q.0 d.0.0 (report_cmp-same p.0 q.0 e))
      less Greater e = absurd (true≢false (sym (ap is_lt (report_total.antisymm q.0 p.0 ∙ ap ordering_reverse e)) ∙ s 0 p (omega arith) (omega arith)))

      by : (r : ℕ × V) → report_cmp p.0 q.0 ≡ Less → IsInOrder (q ∷ ps) → Listed r (q ∷ ps) → report_cmp p.0 r.0 ≡ Less
      by r l o (inl e) = ap (λ (z : ℕ × V). report_cmp p.0 z.0) e ∙ l
      by r l o (inr h) = report_total.trans p.0 q.0 r.0 l (o.0 r h)

  pub sorted_is : (found sorted wanted : List (ℕ × V)) → Apart found → IsPermutation found sorted → IsSortedByKey (λ p. p.0) report_cmp sorted → IsInOrder wanted
      → ((q : ℕ × V) → Listed q found → Listed q wanted) → ((q : ℕ × V) → Listed q wanted → Listed q found) → sorted ≡ wanted
  sorted_is found sorted wanted a perm s o f g =
      same_pairs sorted wanted (sorted_rise sorted s (IsDistinct-IsPermutation (λ p q. eqb p.0 q.0) flips found sorted perm (apart_distinct found a))) o
      (λ q h. f q (Listed-contained q found (Contains-permutation sorted found q (IsPermutation-sym found sorted perm) (Contains-listed q sorted h))))
      (λ q h. Listed-contained q sorted (Contains-permutation found sorted q perm (Contains-listed q found (g q h))))

  -- ---- the whole tree
  -- a path with a value has columns of the tree alone
  pub look_narrow : (from : ℕ) (t : Shape V) (z : ℕ) (w : V) → Ascends from t → look t z ≡ Some w → (k : ℕ) → has z k ≡ true → k < MOST_COLUMNS
  unfolding look Ascends
  look_narrow from tip z w a e k h = absurd (none-some w e)
  look_narrow from (fork at c v l r) z w a e k h = by (goes c z) (λ f g. look_narrow (suc c) l (without z c) w a.2 f k g) (λ f. look_narrow (suc c) r z w a.3 f k h)
    where
      also : (b : Bool) → eqb k c ≡ b → (has (without z c) k ≡ true → k < MOST_COLUMNS) → k < MOST_COLUMNS
      also true i f = subst (λ (j : ℕ). j < MOST_COLUMNS) (sym (eqb-true k c i)) a.1
      also false i f = f (has-without z c k ∙ ap₂ (λ (p b : Bool). p && not b) h i)

      by : Goes c z → (look l (without z c) ≡ Some w → has (without z c) k ≡ true → k < MOST_COLUMNS) → (look r z ≡ Some w → k < MOST_COLUMNS) → k < MOST_COLUMNS
      by (ends g i) f n = also (eqb k c) refl (λ j. absurd (true≢false (sym j ∙ ap (λ (y : ℕ). has y k) i ∙ has-empty k)))
      by (on g i) f n = also (eqb k c) refl (λ j. f (sym (look_on at c v l r z g i) ∙ e) j)
      by (past g) f n = n (sym (look_past at c v l r z g) ∙ e)

  module _ (top : Option V) (t : Shape V) (x : ℕ) (a : Ascends 0 t) where
    -- all that a walk meets, the empty set first
    abbrev pub met : List (ℕ × V)
    met = entry empty top ++ walk empty t x

    union_empty : (z : ℕ) → union empty z ≡ z
    union_empty z = same_set (union empty z) z (λ k. has-union empty z k ∙ ap (λ (b : Bool). b || has z k) (has-empty k))

    pub met_apart : Apart met
    met_apart = apart-append (entry empty top) (walk empty t x) (entry_apart empty top) (walk_apart empty 0 t x a (λ k l. has-empty k))
        (λ q r h k e. let m = walk_only empty 0 t x r a k in
        none-some r.1 (sym (look_empty t) ∙ ap (look t) (sym (entry_only empty top q h).0 ∙ e ∙ m.is ∙ union_empty m.path) ∙ m.value))

    pub met_only : (q : ℕ × V) → Listed q met → Listed q (inside (listed (values top t)) x)
    met_only q h = elim (Listed-append_cases q (entry empty top) (walk empty t x) h) as (λ _. Listed q (inside (listed (values top t)) x)) [
      | inl g ↦ let e = entry_only empty top q g in
          Listed-filter (λ p. subset p.0 x) q (listed (values top t))
          (listed_has (values top t) q.0 q.1 (below_from q.0 MOST_COLUMNS (λ k i. absurd (true≢false (sym i ∙ ap (λ z. has z k) e.0 ∙ has-empty k)))) (ap (λ (b : Bool). if b then top else look t q.0) (eq-eqb q.0 empty e.0) ∙ e.1))
          (true-subset (record { each = λ k i. absurd (true≢false (sym i ∙ ap (λ z. has z k) e.0 ∙ has-empty k)) }))
      | inr g ↦ let m = walk_only empty 0 t x q a g in
          let e : q.0 ≡ m.path = m.is ∙ union_empty m.path in
          let v : look t q.0 ≡ Some q.1 = ap (look t) e ∙ m.value in
          Listed-filter (λ p. subset p.0 x) q (listed (values top t))
          (listed_has (values top t) q.0 q.1 (below_from q.0 MOST_COLUMNS (look_narrow 0 t q.0 q.1 a v))
          (ap (λ (b : Bool). if b then top else look t q.0) (ne_eqb q.0 empty (λ i. none-some q.1 (sym (look_empty t) ∙ ap (look t) (sym i) ∙ v))) ∙ v))
          (subst (λ (z : ℕ). subset z x ≡ true) (sym e) (true-subset m.inside))
    ]

    pub met_every : (q : ℕ × V) → Listed q (inside (listed (values top t)) x) → Listed q met
    met_every q h =
        let w = Listed-filter_parts (λ p. subset p.0 x) q (listed (values top t)) h in
        by (q.0 == empty) refl (listed_only (values top t) q w.0) w.1
      where
        by : (b : Bool) → (q.0 == empty) ≡ b → (if q.0 == empty then top else look t q.0) ≡ Some q.1 → subset q.0 x ≡ true → Listed q met
        by true i e s = Listed-append_left q (entry empty top) (walk empty t x)
            (subst (λ (y : ℕ). Listed (y, q.1) (entry empty top)) (sym (eqb-true q.0 empty i)) (entry_has empty top q.1 (sym (ap (λ (b : Bool). if b then top else look t q.0) i) ∙ e)))
        by false i e s = Listed-append_right q (entry empty top) (walk empty t x)
            (subst (λ (y : ℕ). Listed (y, q.1) (walk empty t x)) (union_empty q.0) (walk_has empty t x q.0 q.1 (sym (ap (λ (b : Bool). if b then top else look t q.0) i) ∙ e) (subset-true s)))

  apart_all : (ps : List (ℕ × V)) → Apart ps → AllPairs (λ p q. p.0 ≢ q.0) ps
  unfolding Apart
  apart_all [] a i j d l h = absurd (omega (arith, h))
  apart_all (p ∷ ps) a zero zero d l h = absurd (omega (arith, l))
  apart_all (p ∷ ps) a zero (suc j) d l h = a.0 (get_or ps j d) (Listed-get_or ps j d (omega (arith, h)))
  apart_all (p ∷ ps) a (suc i) zero d l h = absurd (omega (arith, l))
  apart_all (p ∷ ps) a (suc i) (suc j) d l h = apart_all ps a.1 i j d (omega (arith, l)) (omega (arith, h))

  pub apart_pairs : (top : Option V) (t : Shape V) (x : ℕ) (a : Ascends 0 t) → AreThose (inside (listed (values top t)) x) (met top t x a)
  apart_pairs top t x a = record {
    every = λ p h. Contains-listed p (met top t x a) (met_every top t x a p (Listed-contained p (inside (listed (values top t)) x) h));
    only = λ p h. Contains-listed p (inside (listed (values top t)) x) (met_only top t x a p (Listed-contained p (met top t x a) h));
    once = apart_all (met top t x a) (met_apart top t x a);
  }
