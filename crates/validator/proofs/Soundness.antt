-- What the comparisons in all groups say of a dependency that holds among the older rows.
use Rattle.std.proofs.Common.{inl, inr, ◌≡◌, ◌≢◌, ◌⊎◌, ℕ, zero, suc, ◌+◌, ◌<◌, ◌≤◌, true, eqb, leb, refl, sym, ap, ◌∙◌, subst, arith, List, [], ◌∷◌, ◌++◌, length, get_or, take, cond, append-nil, append_assoc, length-append, Option, Some, None}
use Rattle.std.specs.List.{filter, concat, All, AllPairs}
use Rattle.std.specs.List.Sorted.{IsStrictlyIncreasing}
use Rattle.std.specs.Option.{ForSome}
use Rattle.std.proofs.lemmas.Bool.{false≢true, eqb-true, eq-eqb, cases_eq, cases_lt}
use Rattle.std.proofs.lemmas.List.{take_more, take_all}
use Rattle.std.specs.Option.{option_to_list}
use Rattle.std.proofs.lemmas.List.Quantifiers.{all_pairs_push}
use Rattle.std.proofs.lemmas.List.Sums.{sum_by-append}
use Rattle.col_set.specs.declared.target.Target.{Target}
use Rattle.col_set.specs.declared.target.Target.TheVariants.{Col, RowId}
use Rattle.col_set.specs.Lists.{Listed, Listed-append_cases, Listed-filter, Listed-filter_parts}
use Rattle.col_set.specs.Target.{has_target, IsColumnTarget}
use Rattle.col_set.proofs.Places.{Listed-get_or, Contains-listed}
use Rattle.rel_base.specs.CodeTable.{CodeTable}
use Rattle.rel_base.specs.Shows.{code_agree, live_numbers, holds_in, holds_in_below, HoldsInBelow}
use Rattle.rel_base.proofs.Shown.{HoldsInBelow-tested}
use Rattle.rel_base.proofs.States.{All-from, increasing-Climbs}
use Rattle.rel_base.proofs.Valid.{Climbs-filter}
use Rattle.stripped_partition.specs.Stripped.{group_of, agree_on, stripped}
use Rattle.stripped_partition.specs.AnyOrder.{AreGroupsBy, AreGroupsOf}
use Rattle.stripped_partition.proofs.Agreeing.{agree_same, code_agree-parts, code_agree-from, agree_on-subset, subset-agree_on, agree_on-with_parts, agree_on-with}
use Rattle.stripped_partition.proofs.Dependencies.{held_from, in_group, stripped-parts, together, group_ascends, rows_once}
use Rattle.stripped_partition.proofs.Grouped.{first_least, group_apart}
use Rattle.stripped_partition.proofs.Ordering.{apart_at}
use Rattle.stripped_partition.proofs.Live.{live_within}
use Rattle.validator.specs.Verdicts.{IsViolation, AreFound, new_rows}
use Rattle.validator.specs.Walk.{key, plus, first_with, IsUniform, IsApart, IsCompared, IsClear}
use Rattle.validator.proofs.Leads.{newer}
use Rattle.validator.proofs.Targets.{target-column, target-row}

-- ---- agreement on the columns and the further one
module _ (s : CodeTable) (y : ℕ) where
  plus-parts : (by : Option ℕ) (i j : ℕ) → agree_on s (plus y by) i j ≡ true → (agree_on s y i j ≡ true) × (key s by i ≡ key s by j)
  plus-parts None i j e = (e, refl)
  plus-parts (Some b) i j e = let w = agree_on-with_parts s y b i j e in (w.0, (code_agree-parts s i j b w.1).1)

  agree-plus : (by : Option ℕ) (i j : ℕ) → ForSome by (λ b. b < length s.codes) → agree_on s y i j ≡ true → key s by i ≡ key s by j → agree_on s (plus y by) i j ≡ true
  agree-plus None i j l e k = e
  agree-plus (Some b) i j l e k = agree_on-with s y b i j e (code_agree-from s i j b (l b refl) k)

-- rows that share the target with a third one share it, unless it is the row's identity
shared : (s : CodeTable) (t : Target) (f i j : ℕ) → IsColumnTarget (length s.codes) t → has_target (code_agree s f i) t ≡ true → has_target (code_agree s f j) t ≡ true → has_target (code_agree s i j) t ≡ true
shared s (Col a) f i j l e g =
    target-column s i j a l ∙ eq-eqb _ _ (sym (eqb-true _ _ (sym (target-column s f i a l) ∙ e)) ∙ eqb-true _ _ (sym (target-column s f j a l) ∙ g))
shared s RowId f i j l e g = absurd (false≢true (sym (target-row s f i) ∙ e))

module _ (s : CodeTable) (y : ℕ) (by : Option ℕ) (t : Target) (from : ℕ) (wide : IsColumnTarget (length s.codes) t) (column : ForSome by (λ b. b < length s.codes)) where
  -- a pair that the comparisons find
  pub violation : (g : List ℕ) (i j : ℕ) → Listed g (stripped s y) → IsApart s by t g i j → IsViolation s (plus y by) t i j
  violation g i j h p = let w = together s y g i j h p.first p.second in record {
    first = Contains-listed i (live_numbers s) w.0;
    second = Contains-listed j (live_numbers s) w.1;
    rising = p.rising;
    left = agree_on-subset s (plus y by) i j (agree-plus s y by i j column w.2 p.same);
    target = p.differ;
  }

  module _ (below : HoldsInBelow from s (plus y by) t) (all : (g : List ℕ) → Listed g (stripped s y) → IsUniform s by t from g) where
    old_pair : (i j : ℕ) → Listed i (live_numbers s) → Listed j (live_numbers s) → i < from → j < from → i ≢ j → agree_on s (plus y by) i j ≡ true → has_target (code_agree s i j) t ≡ true
    old_pair i j h g l m ne e = below.each i j (Contains-listed i (live_numbers s) h) (Contains-listed j (live_numbers s) g) l m ne (agree_on-subset s (plus y by) i j e)

    apart : (i j : ℕ) → i < j → i ≡ j → ⊥
    apart i j l e = omega arith

    -- two rows of a group that agree, of which the second is not old
    module _ (g : List ℕ) (in_all : Listed g (stripped s y)) (i j : ℕ) (first : Listed i g) (second : Listed j g) (less : i < j) (same : key s by i ≡ key s by j) (new : from ≤ j) where
      abbrev lead : ℕ
      lead = first_with s by g (key s by j)

      abbrev alike : List ℕ
      alike = filter (λ r. eqb (key s by r) (key s by j)) g

      i_alike : Listed i alike
      i_alike = Listed-filter (λ r. eqb (key s by r) (key s by j)) i g first (eq-eqb _ _ same)

      lead_listed : Listed lead alike
      lead_listed = Listed-get_or alike 0 0 (some alike i i_alike)
        where
          some : (xs : List ℕ) (x : ℕ) → Listed x xs → 0 < length xs
          some [] x h = absurd h
          some (z ∷ xs) x h = omega arith

      lead_least : lead ≤ i
      lead_least = first_least alike i (Climbs-filter (λ r. eqb (key s by r) (key s by j)) g (group_ascends s y g in_all)) i_alike

      in_g : Listed lead g
      in_g = (Listed-filter_parts (λ r. eqb (key s by r) (key s by j)) lead g lead_listed).0

      lead_same : key s by lead ≡ key s by j
      lead_same = eqb-true _ _ (Listed-filter_parts (λ r. eqb (key s by r) (key s by j)) lead g lead_listed).1

      lead_j : has_target (code_agree s lead j) t ≡ true
      lead_j = (all g in_all).each j second new (λ e. let l = lead_least in let d : lead ≡ j = e in absurd (omega arith))

      lead_i : lead ≢ i → has_target (code_agree s lead i) t ≡ true
      lead_i ne = elim (cases_lt i from) as (λ _. has_target (code_agree s lead i) t ≡ true) [
        | inl l ↦
            let w = together s y g lead i in_all in_g first in
            old_pair lead i w.0 w.1 (let m = lead_least in omega arith) l ne (agree-plus s y by lead i column w.2 (lead_same ∙ sym same))
        | inr l ↦
            let e : first_with s by g (key s by i) ≡ lead = ap (first_with s by g) same in
            subst (λ (f : ℕ). has_target (code_agree s f i) t ≡ true) e ((all g in_all).each i first l (λ d. ne (sym e ∙ d)))
      ]

      told : has_target (code_agree s i j) t ≡ true
      told = elim (cases_eq lead i) as (λ _. has_target (code_agree s i j) t ≡ true) [
        | inl e ↦ subst (λ (f : ℕ). has_target (code_agree s f j) t ≡ true) e lead_j
        | inr ne ↦ shared s t lead i j wide (lead_i ne) lead_j
      ]

    pub held_in : holds_in s (plus y by) t ≡ true
    held_in = held_from s (plus y by) t (λ i j h g l sub.
        let e = subset-agree_on s (plus y by) i j sub in
        let p = plus-parts s y by i j e in
        elim (cases_lt j from) as (λ _. has_target (code_agree s i j) t ≡ true) [
          | inl m ↦ old_pair i j h g (omega arith) m (apart i j l) e
          | inr m ↦
              let w = in_group s y i j h g (apart i j l) p.0 in
              told (group_of (agree_on s y) (live_numbers s) i) w.0 i j w.1 w.2 l p.1 m
        ])

-- ---- the walk over the groups
newer-append : (from : ℕ) (xs ys : List ℕ) → newer from (xs ++ ys) ≡ newer from xs + newer from ys
newer-append from xs ys = sum_by-append (λ i. cond (leb from i) 1 0) xs ys

concat-append : (gs hs : List (List ℕ)) → concat (gs ++ hs) ≡ concat gs ++ concat hs
concat-append [] hs = refl
concat-append (g ∷ gs) hs = ap (λ (xs : List ℕ). g ++ xs) (concat-append gs hs) ∙ sym (append_assoc g (concat gs) (concat hs))

concat-more : (groups : List (List ℕ)) (k : ℕ) → k < length groups → concat (take (k + 1) groups) ≡ concat (take k groups) ++ get_or groups k []
concat-more groups k l = ap concat (take_more groups k [] l) ∙ concat-append (take k groups) (get_or groups k [] ∷ []) ∙ ap (λ (xs : List ℕ). concat (take k groups) ++ xs) (append-nil (get_or groups k []))

newer_groups : (from : ℕ) (groups : List (List ℕ)) (k : ℕ) → newer from (concat (take k groups)) ≤ newer from (concat groups)
newer_groups from groups zero = omega arith
newer_groups from [] (suc k) = omega arith
newer_groups from (g ∷ groups) (suc k) = let r = newer_groups from groups k in
    let a = newer-append from g (concat (take k groups)) in let b = newer-append from g (concat groups) in omega arith

-- a pair that stands in one of the first groups
pub record InGroup (s : CodeTable) (by : Option ℕ) (t : Target) (groups : List (List ℕ)) (k : ℕ) (i j : ℕ) : Type 0 where
  pub place : ℕ
  pub early : place < k
  pub in_all : Listed (get_or groups place []) groups
  pub apart : IsApart s by t (get_or groups place []) i j

-- two rows that stand in two groups, one after the other
pub record Separate (groups : List (List ℕ)) (i j : ℕ) : Type 0 where
  pub place : ℕ
  pub later : ℕ
  pub less : place < later
  pub within : later < length groups
  pub first : Listed i (get_or groups place [])
  pub second : Listed j (get_or groups later [])

-- the pairs that the first groups give
pub record Gathered (s : CodeTable) (by : Option ℕ) (t : Target) (from : ℕ) (groups : List (List ℕ)) (k : ℕ) (pairs : List (ℕ × ℕ)) : Type 0 where
  pub each : (p : ℕ × ℕ) → Listed p pairs → InGroup s by t groups k p.0 p.1
  pub apart : AllPairs (λ p q. Separate groups p.0 q.0) pairs
  pub uniform : pairs ≡ [] → (g : List ℕ) → Listed g (take k groups) → IsUniform s by t from g

pub record Seen (s : CodeTable) (by : Option ℕ) (t : Target) (from most : ℕ) (groups : List (List ℕ)) (k : ℕ) (pairs : List (ℕ × ℕ)) (slots : List ℕ) (steps start : ℕ) : Type 0 where
  pub gathered : Gathered s by t from groups k pairs
  pub fewer : length pairs < most
  pub few : steps ≤ start + newer from (concat (take k groups))
  pub clear : IsClear slots

pub seen_none : (s : CodeTable) (by : Option ℕ) (t : Target) (from most : ℕ) (groups : List (List ℕ)) (pairs : List (ℕ × ℕ)) (slots : List ℕ) (start : ℕ) → 0 < most → pairs ≡ [] → IsClear slots → Seen s by t from most groups 0 pairs slots start start
seen_none s by t from most groups pairs slots start l e z = record {
  gathered = record { each = λ p h. absurd (subst (Listed p) e h); apart = λ i j d l m. absurd (let f = ap length e in omega arith); uniform = λ e g h. absurd h };
  fewer = (let f = ap length e in omega arith);
  few = omega arith;
  clear = z;
}

-- ---- one more group
-- the pairs with those of a group
module _ (s : CodeTable) (by : Option ℕ) (t : Target) (from : ℕ) (groups : List (List ℕ)) (k : ℕ) (g : List ℕ) (l : k < length groups) (is : g ≡ get_or groups k []) where
  uniform_more : ((h : List ℕ) → Listed h (take k groups) → IsUniform s by t from h) → IsUniform s by t from g → (h : List ℕ) → Listed h (take (k + 1) groups) → IsUniform s by t from h
  uniform_more u v h m = here (Listed-append_cases h (take k groups) (get_or groups k [] ∷ []) (subst (Listed h) (take_more groups k [] l) m))
    where
      here : Listed h (take k groups) ⊎ Listed h (get_or groups k [] ∷ []) → IsUniform s by t from h
      here (inl m) = u h m
      here (inr (inl e)) = subst (IsUniform s by t from) (is ∙ sym e) v
      here (inr (inr m)) = absurd m

  later : (i j : ℕ) → InGroup s by t groups k i j → InGroup s by t groups (k + 1) i j
  later i j w = record { place = w.place; early = (let l = w.early in omega arith); in_all = w.in_all; apart = w.apart }

  pub gathered_more : (pairs : List (ℕ × ℕ)) (pair : Option (ℕ × ℕ)) → Gathered s by t from groups k pairs → IsCompared s by t from g pair → Gathered s by t from groups (k + 1) (pairs ++ option_to_list pair)
  gathered_more pairs None p u = subst (Gathered s by t from groups (k + 1)) (sym (append-nil pairs)) (record {
    each = λ r h. later r.0 r.1 (p.each r h);
    apart = p.apart;
    uniform = λ e. uniform_more (p.uniform e) u;
  })
  gathered_more pairs (Some q) p a = record {
    each = λ r h. here r (Listed-append_cases r pairs (q ∷ []) h);
    apart = all_pairs_push (λ p q. Separate groups p.0 q.0) pairs q p.apart (λ n d m. behind (get_or pairs n d) (p.each (get_or pairs n d) (Listed-get_or pairs n d m)));
    uniform = λ e. absurd (let f = ap length e in let n = length-append pairs (q ∷ []) in omega arith);
  }
    where
      mine : IsApart s by t (get_or groups k []) q.0 q.1
      mine = subst (λ (h : List ℕ). IsApart s by t h q.0 q.1) is a

      behind : (r : ℕ × ℕ) → InGroup s by t groups k r.0 r.1 → Separate groups r.0 q.0
      behind r w = record { place = w.place; later = k; less = w.early; within = l; first = w.apart.first; second = mine.first }

      here : (r : ℕ × ℕ) → Listed r pairs ⊎ Listed r (q ∷ []) → InGroup s by t groups (k + 1) r.0 r.1
      here r (inl h) = later r.0 r.1 (p.each r h)
      here r (inr (inl e)) = subst (λ (z : ℕ × ℕ). InGroup s by t groups (k + 1) z.0 z.1) (sym e) (record { place = k; early = omega arith; in_all = Listed-get_or groups k [] l; apart = mine })
      here r (inr (inr h)) = absurd h

module _ (s : CodeTable) (by : Option ℕ) (t : Target) (from : ℕ) (groups : List (List ℕ)) (of : AreGroupsOf s groups) where
  live_few : newer from (concat groups) ≤ new_rows s from
  live_few = rows_once s of.columns groups of.are (λ i. leb from i)

  pub seen_few : (most k : ℕ) (pairs : List (ℕ × ℕ)) (slots : List ℕ) (steps start : ℕ) → Seen s by t from most groups k pairs slots steps start → steps ≤ start + new_rows s from
  seen_few most k pairs slots steps start p = let a = p.few in let b = newer_groups from groups k in let c = live_few in omega arith

  module _ (k : ℕ) (g : List ℕ) (l : k < length groups) (is : g ≡ get_or groups k []) where
    -- what is known of a group
    pub group_listed : Listed g groups
    group_listed = subst (λ (x : List ℕ). Listed x groups) (sym is) (Listed-get_or groups k [] l)

    in_stripped : Listed g (stripped s of.columns)
    in_stripped = of.are.only g group_listed

    live : (i : ℕ) → Listed i g → (0 < i) × (i < s.to)
    live i h = live_within s i (together s of.columns g i i in_stripped h h).0

    pub group_some : 0 < length g
    group_some = let two = (stripped-parts s of.columns g in_stripped).two in omega arith

    pub group_positive : All (λ (row : ℕ). 0 < row) g
    group_positive = All-from (λ (row : ℕ). 0 < row) g (λ i h. (live i h).0)

    pub group_rising : IsStrictlyIncreasing g
    group_rising = increasing-Climbs g (group_ascends s of.columns g in_stripped)

    steps_more : (steps after start : ℕ) → steps ≤ start + newer from (concat (take k groups)) → after ≤ steps + newer from g → after ≤ start + newer from (concat (take (k + 1) groups))
    steps_more steps after start a n =
        let e = ap (newer from) (concat-more groups k l) in let b = newer-append from (concat (take k groups)) (get_or groups k []) in
        let d = ap (newer from) is in omega arith

    pub seen_more : (most : ℕ) (pairs pairs_after : List (ℕ × ℕ)) (pair : Option (ℕ × ℕ)) (slots slots_after : List ℕ) (steps after start : ℕ) → Seen s by t from most groups k pairs slots steps start
        → IsCompared s by t from g pair → pairs_after ≡ pairs ++ option_to_list pair → length pairs_after < most → after ≤ steps + newer from g → IsClear slots_after → Seen s by t from most groups (k + 1) pairs_after slots_after after start
    seen_more most pairs pairs_after pair slots slots_after steps after start p u e m n z = record {
      gathered = subst (Gathered s by t from groups (k + 1)) (sym e) (gathered_more s by t from groups k g l is pairs pair p.gathered u);
      fewer = m;
      few = steps_more steps after start p.few n;
      clear = z;
    }

    pub found_few : (most : ℕ) (pairs : List (ℕ × ℕ)) (slots : List ℕ) (steps after start : ℕ) → Seen s by t from most groups k pairs slots steps start → after ≤ steps + newer from g → after ≤ start + new_rows s from
    found_few most pairs slots steps after start p n = let a = steps_more steps after start p.few n in let b = newer_groups from groups (k + 1) in let c = live_few in omega arith

-- ---- what all groups answer
module _ (s : CodeTable) (by : Option ℕ) (t : Target) (from : ℕ) (groups : List (List ℕ)) (wide : IsColumnTarget (length s.codes) t) (column : ForSome by (λ b. b < length s.codes)) where
  -- rows of two groups do not agree on the columns
  separated : (x : ℕ) → AreGroupsBy s x groups → (i j : ℕ) → Separate groups i j → agree_on s x i j ≡ true → ⊥
  separated x e i j w a =
      let m : w.place < length groups = (let l = w.less in let n = w.within in omega arith) in
      let in_first = e.only (get_or groups w.place []) (Listed-get_or groups w.place [] m) in
      let in_later = e.only (get_or groups w.later []) (Listed-get_or groups w.later [] w.within) in
      let near = together s x (get_or groups w.place []) i i in_first w.first w.first in
      let of = stripped-parts s x (get_or groups w.later []) in_later in
      let its = Listed-filter_parts (agree_on s x of.row) j (live_numbers s) (subst (Listed j) of.is w.second) in
      let same = agree_same s x in
      let far : agree_on s x of.row i ≡ true = same.trans of.row j i its.1 (same.symm i j a) in
      let moved : Listed i (get_or groups w.later []) = subst (Listed i) (sym of.is) (Listed-filter (agree_on s x of.row) i (live_numbers s) near.0 far) in
      let one = group_apart (agree_on s x) same (live_numbers s) (get_or groups w.place []) (get_or groups w.later []) i (stripped-parts s x (get_or groups w.place []) in_first) of w.first moved in
      apart_at groups e.apart w.place w.later m w.within (let l = w.less in λ (d : w.place ≡ w.later). omega arith) (ap (λ (g : List ℕ). get_or g 0 0) one)

  pub found : (k : ℕ) (pairs : List (ℕ × ℕ)) → Gathered s by t from groups k pairs → (pairs ≡ [] → length groups ≤ k)
      → (x : ℕ) → AreGroupsBy s x groups → holds_in_below from s (plus x by) t ≡ true → AreFound s (plus x by) t pairs
  found k pairs p done x e below = record {
    each = All-from (λ (r : ℕ × ℕ). IsViolation s (plus x by) t r.0 r.1) pairs (λ r h.
        let w = p.each r h in violation s x by t from wide column (get_or groups w.place []) r.0 r.1 (e.only (get_or groups w.place []) w.in_all) w.apart);
    apart = λ i j d l m sub. separated x e (get_or pairs i d).0 (get_or pairs j d).0 (p.apart i j d l m)
        (plus-parts s x by (get_or pairs i d).0 (get_or pairs j d).0 (subset-agree_on s (plus x by) (get_or pairs i d).0 (get_or pairs j d).0 sub)).0;
    none = λ z. held_in s x by t from wide column (HoldsInBelow-tested s from (plus x by) t below)
        (λ g h. p.uniform z g (subst (Listed g) (sym (take_all k groups (done z))) (e.kept g h)));
  }
