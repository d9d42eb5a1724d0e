-- What the look-ups of new rows say of a dependency that holds among the older rows.
use Rattle.std.proofs.Common.{inl, inr, ◌≡◌, ◌≢◌, ◌⊎◌, ℕ, zero, suc, ◌+◌, ◌<◌, ◌≤◌, true, false, leb, sym, ap, ◌∙◌, subst, arith, List, [], ◌∷◌, ◌++◌, length, get_or, take, append-nil, length-append, Option, Some, None}
use Rattle.std.specs.List.{filter, All}
use Rattle.std.specs.Option.{option_to_list}
use Rattle.std.proofs.lemmas.Bool.{cases_eq, cases_lt, true≢false, false≢true, eqb-true, eq-eqb, leb-true, le-leb}
use Rattle.std.proofs.lemmas.Cmp.{nat_cmp_total}
use Rattle.std.proofs.lemmas.List.{take_more, take_all}
use Rattle.std.proofs.lemmas.List.Elements.{All-push}
use Rattle.std.proofs.lemmas.List.Quantifiers.{all_pairs_push}
use Rattle.std.proofs.lemmas.List.Sums.{length-filter}
use Rattle.col_set.specs.declared.target.Target.{Target}
use Rattle.col_set.specs.declared.target.Target.TheVariants.{Col, RowId}
use Rattle.col_set.specs.ColSet.{IsSubset}
use Rattle.col_set.specs.Lists.{Listed, Listed-append_left, Listed-append_right, Listed-append_cases, Listed-filter, Listed-filter_parts}
use Rattle.col_set.specs.Target.{has_target, IsColumnTarget}
use Rattle.col_set.proofs.Places.{Climbs, Contains-listed, Listed-contained, Listed-get_or, same_rising}
use Rattle.rel_base.specs.CodeTable.{CodeTable}
use Rattle.rel_base.specs.Shows.{code_agree, live_numbers, holds_in, HoldsInBelow}
use Rattle.rel_base.proofs.Shown.{HoldsInBelow-tested}
use Rattle.rel_base.proofs.States.{Rises-Climbs, Climbs-append}
use Rattle.rel_base.proofs.Valid.{Climbs-filter}
use Rattle.stripped_partition.specs.Stripped.{agree_on}
use Rattle.stripped_partition.proofs.Agreeing.{agree_same, agree_on-subset, subset-agree_on}
use Rattle.stripped_partition.proofs.Dependencies.{held_from}
use Rattle.stripped_partition.proofs.Live.{Climbs-live, live_within}
use Rattle.validator.specs.declared.cache.Asked.{Asked}
use Rattle.validator.specs.Asking.{IsAsked}
use Rattle.validator.specs.Chains.{IsBridged, IsLastAlike, IsTold}
use Rattle.validator.specs.Verdicts.{AreApart, AreFound, IsViolation, new_rows}
use Rattle.validator.proofs.Targets.{target-column, target-row}

-- two rows that share the target with one between them share it
linked_target : (s : CodeTable) (t : Target) (i p j : ℕ) → IsColumnTarget (length s.codes) t → has_target (code_agree s i p) t ≡ true → has_target (code_agree s p j) t ≡ true → has_target (code_agree s i j) t ≡ true
linked_target s (Col a) i p j l e g =
    target-column s i j a l ∙ eq-eqb _ _ (eqb-true _ _ (sym (target-column s i p a l) ∙ e) ∙ eqb-true _ _ (sym (target-column s p j a l) ∙ g))
linked_target s RowId i p j l e g = absurd (false≢true (sym (target-row s i p) ∙ e))

unequal : (i j : ℕ) → i < j → i ≢ j
unequal i j l e = absurd (omega arith)

module _ (s : CodeTable) (x : ℕ) (t : Target) (from : ℕ) (wide : IsColumnTarget (length s.codes) t) (below : HoldsInBelow from s x t)
    (bridged : (j : ℕ) → Listed j (live_numbers s) → from ≤ j → IsBridged s x t j) where
  told : (n i j : ℕ) → j < n → i < j → Listed i (live_numbers s) → Listed j (live_numbers s) → agree_on s x i j ≡ true → has_target (code_agree s i j) t ≡ true
  told zero i j l m h g e = absurd (omega arith)
  told (suc n) i j l m h g e = elim (cases_lt j from) as (λ _. has_target (code_agree s i j) t ≡ true) [
    | inl o ↦ below.each i j (Contains-listed i (live_numbers s) h) (Contains-listed j (live_numbers s) g) (omega arith) o (unequal i j m) (agree_on-subset s x i j e)
    | inr o ↦
        let w = (bridged j g o).each i h m e in
        let a = w.from in
        let b = w.before in
        elim (cases_eq i w.row) as (λ _. has_target (code_agree s i j) t ≡ true) [
          | inl q ↦ subst (λ (r : ℕ). has_target (code_agree s r j) t ≡ true) (sym q) w.target
          | inr ne ↦ linked_target s t i w.row j wide
              (told n i w.row (omega arith) (omega arith) h w.live ((agree_same s x).trans i j w.row e ((agree_same s x).symm w.row j w.agrees))) w.target
        ]
  ]

  pub held_by_new : holds_in s x t ≡ true
  held_by_new = held_from s x t (λ i j h g l sub. told (j + 1) i j (omega arith) l h g (subset-agree_on s x i j sub))

-- ---- the new rows
pub record Gathering (s : CodeTable) (from number : ℕ) (rows : List ℕ) : Type 0 where
  pub up : Climbs rows
  pub each : (i : ℕ) → Listed i rows → Listed i (live_numbers s) × (from ≤ i) × (i < number)
  pub all : (i : ℕ) → Listed i (live_numbers s) → from ≤ i → i < number → Listed i rows

pub gathering_none : (s : CodeTable) (from : ℕ) (rows : List ℕ) → rows ≡ [] → Gathering s from from rows
gathering_none s from rows e = record {
  up = subst Climbs (sym e) tt;
  each = λ i h. absurd (subst (Listed i) e h);
  all = λ i h l m. absurd (omega arith);
}

module _ (s : CodeTable) (from number : ℕ) (rows : List ℕ) (p : Gathering s from number rows) where
  pub gathering_live : (after : List ℕ) → from ≤ number → Listed number (live_numbers s) → after ≡ rows ++ number ∷ [] → Gathering s from (number + 1) after
  gathering_live after l h e = subst (Gathering s from (number + 1)) (sym e) (record {
    up = Climbs-append rows number p.up (λ y g. (p.each y g).2);
    each = λ i g. by i (Listed-append_cases i rows (number ∷ []) g);
    all = λ i g m o. elim (cases_eq i number) as (λ _. Listed i (rows ++ number ∷ [])) [
      | inl q ↦ Listed-append_right i rows (number ∷ []) (inl q)
      | inr ne ↦ Listed-append_left i rows (number ∷ []) (p.all i g m (omega arith))
    ];
  })
    where
      by : (i : ℕ) → Listed i rows ⊎ Listed i (number ∷ []) → Listed i (live_numbers s) × (from ≤ i) × (i < number + 1)
      by i (inl g) = let w = p.each i g in let a = w.2 in (w.0, w.1, omega arith)
      by i (inr (inl q)) = (subst (λ (k : ℕ). Listed k (live_numbers s)) (sym q) h, omega arith, omega arith)
      by i (inr (inr g)) = absurd g

  pub gathering_dead : (Listed number (live_numbers s) → ⊥) → Gathering s from (number + 1) rows
  gathering_dead dead = record {
    up = p.up;
    each = λ i g. let w = p.each i g in let a = w.2 in (w.0, w.1, omega arith);
    all = λ i g m o. elim (cases_eq i number) as (λ _. Listed i rows) [
      | inl q ↦ absurd (dead (subst (λ (k : ℕ). Listed k (live_numbers s)) q g))
      | inr ne ↦ p.all i g m (omega arith)
    ];
  }

  pub gathering_end : s.to ≤ number → rows ≡ filter (leb from) (live_numbers s)
  gathering_end l =
      same_rising nat_cmp_total rows (filter (leb from) (live_numbers s)) (Rises-Climbs _ p.up) (Rises-Climbs _ (Climbs-filter (leb from) (live_numbers s) (Climbs-live s)))
      (λ i g. let w = p.each i g in Listed-filter (leb from) i (live_numbers s) w.0 (le-leb from i w.1))
      (λ i g. let w = Listed-filter_parts (leb from) i (live_numbers s) g in let m = live_within s i w.0 in let b = m.1 in p.all i w.0 (leb-true from i w.1) (omega arith))

-- ---- the walk over the new rows
pub record NewPairs (s : CodeTable) (x : ℕ) (t : Target) (rows : List ℕ) (n : ℕ) (pairs : List (ℕ × ℕ)) : Type 0 where
  pub each : All (λ p. IsViolation s x t p.0 p.1) pairs
  pub apart : AreApart s x pairs
  pub bridged : pairs ≡ [] → (j : ℕ) → Listed j (take n rows) → IsBridged s x t j

pub record NewSeen (s : CodeTable) (x : ℕ) (t : Target) (most : ℕ) (rows : List ℕ) (n : ℕ) (pairs : List (ℕ × ℕ)) (steps start : ℕ) : Type 0 where
  pub found : NewPairs s x t rows n pairs
  pub fewer : length pairs < most
  pub few : steps ≤ start + n

pub new_none : (s : CodeTable) (x : ℕ) (t : Target) (most : ℕ) (rows : List ℕ) (pairs : List (ℕ × ℕ)) (start : ℕ) → pairs ≡ [] → 0 < most → NewSeen s x t most rows 0 pairs start start
new_none s x t most rows pairs start e l =
    let n = ap length e in record {
      found = record { each = λ k d m. absurd (omega arith); apart = λ i j d m o. absurd (omega arith); bridged = λ z j h. absurd h };
      fewer = omega arith;
      few = omega arith;
    }

module _ (s : CodeTable) (x : ℕ) (t : Target) (rows : List ℕ) (n : ℕ) (row : ℕ) (l : n < length rows) (is : row ≡ get_or rows n 0) where
  pub new_more : (pairs : List (ℕ × ℕ)) (pair : Option (ℕ × ℕ)) → NewPairs s x t rows n pairs → IsTold s x t pairs row pair → NewPairs s x t rows (n + 1) (pairs ++ option_to_list pair)
  new_more pairs None p told_of = subst (NewPairs s x t rows (n + 1)) (sym (append-nil pairs)) (record {
    each = p.each;
    apart = p.apart;
    bridged = λ e j h. by e j (Listed-append_cases j (take n rows) (get_or rows n 0 ∷ []) (subst (Listed j) (take_more rows n 0 l) h));
  })
    where
      by : pairs ≡ [] → (j : ℕ) → Listed j (take n rows) ⊎ Listed j (get_or rows n 0 ∷ []) → IsBridged s x t j
      by e j (inl h) = p.bridged e j h
      by e j (inr (inl q)) = subst (IsBridged s x t) (is ∙ sym q) (told_of e)
      by e j (inr (inr h)) = absurd h
  new_more pairs (Some q) p told_of = record {
    each = All-push (λ p. IsViolation s x t p.0 p.1) pairs q p.each told_of.0;
    apart = all_pairs_push (λ p q. IsSubset x (code_agree s p.0 q.0) → ⊥) pairs q p.apart
        (λ k d m sub. true≢false (sym (subset-agree_on s x (get_or pairs k d).0 q.0 sub) ∙ told_of.1 k d m));
    bridged = λ e. absurd (let f = ap length e in let a = length-append pairs (q ∷ []) in omega arith);
  }

module _ (s : CodeTable) (asked : Asked) (is : IsAsked s asked) (rows : List ℕ) (all : rows ≡ filter (leb asked.from) (live_numbers s)) where
  pub row_live : (n row : ℕ) → n < length rows → row ≡ get_or rows n 0 → Listed row (live_numbers s)
  row_live n row l e = (Listed-filter_parts (leb asked.from) row (live_numbers s) (subst (Listed row) all (subst (λ (r : ℕ). Listed r rows) (sym e) (Listed-get_or rows n 0 l)))).0

  pub as_many : length rows ≡ new_rows s asked.from
  as_many = ap length all ∙ length-filter (leb asked.from) (live_numbers s)

  pub few_steps : (n steps start : ℕ) → n ≤ length rows → steps ≤ start + n → steps ≤ start + new_rows s asked.from
  few_steps n steps start l m = let e = as_many in omega arith

  pub found_new : (n : ℕ) (pairs : List (ℕ × ℕ)) → NewPairs s asked.left asked.target rows n pairs → (pairs ≡ [] → length rows ≤ n) → AreFound s asked.left asked.target pairs
  found_new n pairs p done = record {
    each = p.each;
    apart = p.apart;
    none = λ e. held_by_new s asked.left asked.target asked.from is.target (HoldsInBelow-tested s asked.from asked.left asked.target is.below)
        (λ j h l. p.bridged e j (subst (Listed j) (sym (take_all n rows (done e) ∙ all)) (Listed-filter (leb asked.from) j (live_numbers s) h (le-leb asked.from j l))));
  }

-- ---- one row
module _ (s : CodeTable) (x : ℕ) (t : Target) (pairs : List (ℕ × ℕ)) (row : ℕ) where
  pub bridged_alone : ((i : ℕ) → Listed i (live_numbers s) → i < row → agree_on s x i row ≡ true → ⊥) → IsBridged s x t row
  bridged_alone none = record { each = λ i h l e. absurd (none i h l e) }

  pub bridged_by : (p : ℕ) → IsLastAlike s x row p → has_target (code_agree s p row) t ≡ true → IsBridged s x t row
  bridged_by p w e = record { each = λ i h l f. record { row = p; live = w.live; from = w.last i h l f; before = w.before; agrees = w.agrees; target = e } }

  pub told_apart : (p : ℕ) → Listed row (live_numbers s) → IsLastAlike s x row p → has_target (code_agree s p row) t ≡ false → IsViolation s x t p row
  told_apart p h w e = record {
    first = Contains-listed p (live_numbers s) w.live;
    second = Contains-listed row (live_numbers s) h;
    rising = w.before;
    left = agree_on-subset s x p row w.agrees;
    target = e;
  }

  pub pairs_given : All (λ p. IsViolation s x t p.0 p.1) pairs → All (λ p. p.0 < s.to) pairs
  pairs_given h k d l = (live_within s (get_or pairs k d).0 (Listed-contained (get_or pairs k d).0 (live_numbers s) (h k d l).first)).1

-- a pair more, if there is one, where fewer than so many were there
pub one_more : (pairs after : List (ℕ × ℕ)) (pair : Option (ℕ × ℕ)) (most : ℕ) → after ≡ pairs ++ option_to_list pair → length pairs < most → length after ≤ most
one_more pairs after None most e l = let n = ap length e in let a = ap length (append-nil pairs) in omega arith
one_more pairs after (Some q) most e l = let n = ap length e in let a = length-append pairs (q ∷ []) in omega arith
