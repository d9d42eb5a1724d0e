-- The pairs of a window and their places in the groups of a column.
use Rattle.std.proofs.Common.{◌≡◌, ℕ, ◌+◌, ◌<◌, Bool, true, ◌&&◌, eqb, ltb, refl, sym, ap, ◌∙◌, subst, arith, List, length, get_or}
use Rattle.std.specs.List.{filter, Contains}
use Rattle.std.proofs.lemmas.Bool.{eqb-true, eq-eqb}
use Rattle.std.proofs.lemmas.List.{get_or_default}
use Rattle.std.proofs.lemmas.List.Elements.{filter_agree}
use Rattle.col_set.specs.ColSet.{empty, with}
use Rattle.col_set.specs.Lists.{Listed, Listed-filter, Listed-filter_parts}
use Rattle.col_set.specs.Subsets.{has-with_itself, same_test}
use Rattle.col_set.proofs.Places.{Climbs, Contains-listed, Listed-contained, Listed-get_or}
use Rattle.rel_base.specs.CodeTable.{CodeTable, code_at}
use Rattle.rel_base.specs.Shows.{live_numbers}
use Rattle.rel_base.proofs.Valid.{Climbs-filter}
use Rattle.stripped_partition.specs.Stripped.{stripped, agree_on, group_of}
use Rattle.stripped_partition.proofs.Agreeing.{agree_same, agree_on-subset, agree_on-with, agree_on-empty, code_agree-parts, code_agree-from}
use Rattle.stripped_partition.proofs.Grouped.{Listed-grouped_parts, Listed-grouped, group_is, two_of}
use Rattle.stripped_partition.proofs.Live.{Climbs-live}
use Rattle.sampler.specs.Partners.{IsAhead}
use Rattle.sampler.specs.Window.{IsPair, between}
use Rattle.sampler.proofs.Between.{filter_filter, between_places, climbs_to, place_below, same_place}

module _ (s : CodeTable) (c : ℕ) (within : c < length s.codes) where
  -- whether two rows have the same code in the column
  abbrev pub same : ℕ → ℕ → Bool
  same = agree_on s (with empty c)

  same-codes : (i j : ℕ) → same i j ≡ true → code_at s i c ≡ code_at s j c
  same-codes i j e = (code_agree-parts s i j c ((agree_on-subset s (with empty c) i j e).each c (has-with_itself empty c))).1

  codes-same : (i j : ℕ) → code_at s i c ≡ code_at s j c → same i j ≡ true
  codes-same i j e = agree_on-with s empty c i j (agree_on-empty s i j) (code_agree-from s i j c within e)

  -- the rows of the code of i
  abbrev pub group : ℕ → List ℕ
  group i = group_of same (live_numbers s) i

  Climbs-group : (i : ℕ) → Climbs (group i)
  Climbs-group i = Climbs-filter (same i) (live_numbers s) (Climbs-live s)

  between-group : (i j : ℕ) → between s c i j ≡ filter (λ k. ltb i k && ltb k j) (group i)
  unfolding between
  between-group i j =
      sym (filter_filter (λ k. ltb i k && ltb k j) (same i) (live_numbers s)
      ∙ filter_agree (λ k. (ltb i k && ltb k j) && same i k) (λ k. (ltb i k && ltb k j) && eqb (code_at s i c) (code_at s k c))
      (λ k. ap (λ b. (ltb i k && ltb k j) && b) (same_test _ _ (λ h. eq-eqb _ _ (same-codes i k h)) (λ h. codes-same i k (eqb-true _ _ h)))) (live_numbers s))

  -- a row and one behind it in its group are a pair
  pub ahead-pair : (distance i j : ℕ) → Listed i (live_numbers s) → 0 < distance → IsAhead distance (group i) i j → IsPair s c distance i j
  ahead-pair distance i j h positive a =
      let a0 = a.place in let l = a.within in
      let b : ℕ = a.place + distance in
      let second = Listed-filter_parts (same i) j (live_numbers s) (subst (λ k. Listed k (group i)) a.second (Listed-get_or (group i) b 0 l)) in
      let climbs = Climbs-group i in
      let up = climbs_to (group i) a0 b climbs (omega arith) l in
      let count = between_places (group i) a0 b climbs (omega arith) l in
      let e : between s c i j ≡ filter (λ k. ltb (get_or (group i) a0 0) k && ltb k (get_or (group i) b 0)) (group i) =
      between-group i j ∙ ap (λ n. filter (λ k. ltb n k && ltb k j) (group i)) (sym a.first) ∙ ap (λ n. filter (λ k. ltb (get_or (group i) a0 0) k && ltb k n) (group i)) (sym a.second) in
      let n = ap length e in
      record {
        first = Contains-listed i (live_numbers s) h;
        second = Contains-listed j (live_numbers s) second.0;
        before = (let f = a.first in let g = a.second in omega arith);
        same = same-codes i j second.1;
        apart = omega arith;
      }

  -- and a pair stands so in its group
  pub pair-ahead : (distance i j : ℕ) → IsPair s c distance i j → IsAhead distance (group i) i j
  pair-ahead distance i j p =
      let h = Listed-contained i (live_numbers s) p.first in
      let g = Listed-contained j (live_numbers s) p.second in
      let own = Contains-listed i (group i) (Listed-filter (same i) i (live_numbers s) h (codes-same i i refl)) in
      let other = Contains-listed j (group i) (Listed-filter (same i) j (live_numbers s) g (codes-same i j p.same)) in
      at distance i j p own other
    where
      at : (distance i j : ℕ) → IsPair s c distance i j → Contains (group i) i → Contains (group i) j → IsAhead distance (group i) i j
      at distance i j p own other =
          let a = own.0 in let b = other.0 in let l = own.1 in let m = other.1 in
          let e : get_or (group i) a 0 ≡ i = get_or_default (group i) a 0 i l ∙ own.2 in
          let f : get_or (group i) b 0 ≡ j = get_or_default (group i) b 0 j m ∙ other.2 in
          let up = p.before in
          let order = place_below (group i) a b (Climbs-group i) l (omega arith) m in
          let count = between_places (group i) a b (Climbs-group i) order m in
          let is : between s c i j ≡ filter (λ k. ltb (get_or (group i) a 0) k && ltb k (get_or (group i) b 0)) (group i) =
          between-group i j ∙ ap (λ n. filter (λ k. ltb n k && ltb k j) (group i)) (sym e) ∙ ap (λ n. filter (λ k. ltb (get_or (group i) a 0) k && ltb k n) (group i)) (sym f) in
          let n = ap length is in let d = p.apart in
          let to : a + distance ≡ b = omega arith in
          record { place = a; within = omega arith; first = e; second = ap (λ n. get_or (group i) n 0) to ∙ f }

  -- a row has one partner
  pub one_partner : (distance i j k : ℕ) → IsPair s c distance i j → IsPair s c distance i k → j ≡ k
  one_partner distance i j k p q =
      let a = pair-ahead distance i j p in let b = pair-ahead distance i k q in
      let l = a.within in let m = b.within in
      let e = same_place (group i) a.place b.place (Climbs-group i) (omega arith) (omega arith) (a.first ∙ sym b.first) in
      sym a.second ∙ ap (λ n. get_or (group i) (n + distance) 0) e ∙ b.second

  -- ---- the groups of the partition
  -- a row of a group of the partition is live, and the group is its own
  pub record InGroup (g : List ℕ) (i : ℕ) : Type 0 where
    pub live : Listed i (live_numbers s)
    pub own : g ≡ group i

  pub of-groups : (g : List ℕ) (i : ℕ) → Listed g (stripped s (with empty c)) → Listed i g → InGroup g i
  unfolding stripped
  of-groups g i h l =
      let of = Listed-grouped_parts same (agree_same s (with empty c)) (live_numbers s) g h in
      let e = group_is same (agree_same s (with empty c)) (live_numbers s) g i of l in
      record { live = (Listed-filter_parts (same i) i (live_numbers s) (subst (Listed i) e l)).0; own = e }

  -- the group of a pair is one of the partition
  pub pair-group : (distance i j : ℕ) → IsPair s c distance i j → Listed (group i) (stripped s (with empty c))
  unfolding stripped
  pair-group distance i j p =
      let h = Listed-contained i (live_numbers s) p.first in
      let g = Listed-contained j (live_numbers s) p.second in
      let up = p.before in
      Listed-grouped same (agree_same s (with empty c)) (live_numbers s) i h
      (two_of (group i) i j (Listed-filter (same i) i (live_numbers s) h (codes-same i i refl)) (Listed-filter (same i) j (live_numbers s) g (codes-same i j p.same)) (λ e. absurd (omega arith)))
