-- The rows that are not marked agree with no earlier row, and their parts are the projection.
use Rattle.std.proofs.Common.{inl, inr, ◌≡◌, ℕ, zero, suc, ◌<◌, ◌+◌, ◌-◌, Bool, true, false, cond, not, ◌&&◌, ltb, refl, sym, ap, ap₂, ◌∙◌, subst, arith, List, [], ◌∷◌, length, get_or}
use Rattle.std.specs.List.{filter, range_with_len}
use Rattle.std.proofs.lemmas.Bool.{true≢false, and_parts, and_from, ltb-true, lt-ltb}
use Rattle.col_set.specs.Lists.{Listed, list_any_at, list_any_which}
use Rattle.col_set.proofs.Places.{Climbs, Listed-get_or}
use Rattle.rel_base.specs.CodeTable.{CodeTable, live_at}
use Rattle.rel_base.specs.Shows.{live_numbers}
use Rattle.stripped_partition.specs.Stripped.{agree_on, stripped, group_of}
use Rattle.stripped_partition.specs.AnyOrder.{AreGroupsBy}
use Rattle.stripped_partition.proofs.Dependencies.{in_group, together, group_ascends}
use Rattle.stripped_partition.proofs.Grouped.{first_least}
use Rattle.stripped_partition.proofs.Live.{live_within}
use Rattle.first_rows.specs.First.{follows, first_rows}
use Rattle.first_rows.specs.Marked.{IsBehind, StandsBehind, MarkedBy, is_unmarked, unmarked_rows}

-- ---- places of an ascending list
place_of : (xs : List ℕ) (x : ℕ) → Listed x xs → (k : ℕ) × (k < length xs) × (get_or xs k 0 ≡ x)
place_of [] x h = absurd h
place_of (y ∷ xs) x (inl e) = (zero, (let z : zero < length (y ∷ xs) = omega arith in z), sym e)
place_of (y ∷ xs) x (inr h) = let p = place_of xs x h in (suc p.0, (let l = p.1 in omega arith), p.2)

place_of_group : (gs : List (List ℕ)) (g : List ℕ) → Listed g gs → (k : ℕ) × (k < length gs) × (get_or gs k [] ≡ g)
place_of_group [] g l = absurd l
place_of_group (h ∷ gs) g (inl e) = (zero, (let z : zero < length (h ∷ gs) = omega arith in z), sym e)
place_of_group (h ∷ gs) g (inr l) = let p = place_of_group gs g l in (suc p.0, (let m = p.1 in omega arith), p.2)

first_below : (xs : List ℕ) (k : ℕ) → Climbs xs → 0 < k → k < length xs → get_or xs 0 0 < get_or xs k 0
first_below [] k c p l = absurd (omega arith)
first_below (x ∷ xs) zero c p l = absurd (omega arith)
first_below (x ∷ xs) (suc k) c p l = c.0 (get_or xs k 0) (Listed-get_or xs k 0 (omega arith))

module _ (s : CodeTable) (x : ℕ) (groups : List (List ℕ)) (are : AreGroupsBy s x groups) where
  group_listed : (k : ℕ) → k < length groups → Listed (get_or groups k []) groups
  group_listed k l = Listed-get_or groups k [] l

  -- a row behind the first of a group follows that one
  behind-follows : (place : ℕ) → StandsBehind groups (length groups) place → follows (agree_on s x) (live_numbers s) (place + 1) ≡ true
  behind-follows place b =
      let g : List ℕ = get_or groups b.group [] in
      let h : Listed g (stripped s x) = are.only g (group_listed b.group b.below) in
      let l = b.is.below in let p = b.is.some in
      let first : Listed (get_or g 0 0) g = Listed-get_or g 0 0 (omega arith) in
      let later : Listed (place + 1) g = subst (λ n. Listed n g) b.is.is (Listed-get_or g b.is.at 0 l) in
      let t = together s x g (get_or g 0 0) (place + 1) h first later in
      let below : get_or g 0 0 < place + 1 = subst (λ n. get_or g 0 0 < n) b.is.is (first_below g b.is.at (group_ascends s x g h) p l) in
      list_any_at (λ i. ltb i (place + 1) && agree_on s x i (place + 1)) (get_or g 0 0) (live_numbers s) t.0 (and_from _ _ (lt-ltb (get_or g 0 0) (place + 1) below) t.2)

  -- a live row that follows another stands behind the first of a group
  follows-behind : (j : ℕ) → 0 < j → Listed j (live_numbers s) → follows (agree_on s x) (live_numbers s) j ≡ true → StandsBehind groups (length groups) (j - 1)
  follows-behind j positive h e =
      let w = list_any_which (λ i. ltb i j && agree_on s x i j) (live_numbers s) e in
      let v = and_parts (ltb w.0 j) (agree_on s x w.0 j) w.2 in
      let below = ltb-true w.0 j v.0 in
      let g : List ℕ = group_of (agree_on s x) (live_numbers s) w.0 in
      let both = in_group s x w.0 j w.1 h (λ i. omega arith) v.1 in
      let at = place_of_group groups g (are.kept g both.0) in
      let least = first_least g w.0 (group_ascends s x g both.0) both.1 in
      let p = place_of g j both.2 in
      record {
        group = at.0;
        below = at.1;
        is = subst (λ (k : List ℕ). IsBehind k (length k) (j - 1)) (sym at.2) (record {
          at = p.0;
          some = after p.0 (λ i. let f : get_or g 0 0 ≡ j = ap (λ n. get_or g n 0) (sym i) ∙ p.2 in omega arith);
          below = p.1;
          is = p.2 ∙ (omega arith);
        });
      }
    where
      after : (k : ℕ) → (k ≡ 0 → ⊥) → 0 < k
      after zero f = absurd (f refl)
      after (suc k) f = omega arith

  pub unmarked-first : (later : List Bool) → MarkedBy groups (s.to - 1) (length groups) later → unmarked_rows s later ≡ first_rows s x
  unfolding unmarked_rows first_rows live_numbers
  unmarked-first later m = split (range_with_len 1 (s.to - 1)) (λ i l. same i l)
    where
      mark : ℕ → Bool
      mark i = get_or later (i - 1) false

      follow : ℕ → Bool
      follow i = follows (agree_on s x) (filter (live_at s) (range_with_len 1 (s.to - 1))) i

      same : (i : ℕ) → Listed i (filter (live_at s) (range_with_len 1 (s.to - 1))) → mark i ≡ follow i
      same i l = by (mark i) (follow i) refl refl
        where
          within : (0 < i) × (i < s.to)
          within = live_within s i l

          by : (a b : Bool) → mark i ≡ a → follow i ≡ b → mark i ≡ follow i
          by true true e f = e ∙ sym f
          by false false e f = e ∙ sym f
          by true false e f = let p = within.0 in let j : i - 1 + 1 ≡ i = omega arith in
              absurd (true≢false (sym (subst (λ n. follow n ≡ true) j (behind-follows (i - 1) (m.only (i - 1) e))) ∙ f))
          by false true e f = let p = within.0 in let q = within.1 in
              absurd (true≢false (sym (m.each (i - 1) (omega arith) (follows-behind i p l f)) ∙ e))

      split : (xs : List ℕ) → ((i : ℕ) → Listed i (filter (live_at s) xs) → mark i ≡ follow i) → filter (is_unmarked s later) xs ≡ filter (λ j. not (follow j)) (filter (live_at s) xs)
      split [] f = refl
      split (i ∷ xs) f = by (live_at s i) f (λ g. split xs g)
        where
          by : (a : Bool) → ((j : ℕ) → Listed j (cond a (i ∷ filter (live_at s) xs) (filter (live_at s) xs)) → mark j ≡ follow j)
              → (((j : ℕ) → Listed j (filter (live_at s) xs) → mark j ≡ follow j) → filter (is_unmarked s later) xs ≡ filter (λ j. not (follow j)) (filter (live_at s) xs))
              → cond (a && not (mark i)) (i ∷ filter (is_unmarked s later) xs) (filter (is_unmarked s later) xs) ≡ filter (λ j. not (follow j)) (cond a (i ∷ filter (live_at s) xs) (filter (live_at s) xs))
          by false keep rest = rest keep
          by true keep rest = ap₂ (λ (a : Bool) (ys : List ℕ). cond (not a) (i ∷ ys) ys) (keep i (inl refl)) (rest (λ j l. keep j (inr l)))
