-- The last live row of each code, row after row, and the pairs that it makes.
use Rattle.std.proofs.Common.{inl, inr, ◌≡◌, ◌≢◌, ℕ, zero, suc, ◌+◌, ◌-◌, ◌<◌, ◌≤◌, true, false, ◌&&◌, eqb, ltb, sym, ap, ◌∙◌, subst, arith, List, [], length, get_or}
use Rattle.std.specs.List.{range_with_len}
use Rattle.std.proofs.lemmas.Bool.{cases_eq, true≢false, false_from_ne_true, and_parts, ltb-true, eqb-true}
use Rattle.col_set.specs.Lists.{Listed, Listed-filter, Listed-filter_parts}
use Rattle.col_set.proofs.Places.{Contains-listed}
use Rattle.rel_base.specs.CodeTable.{CodeTable, code_at, live_at}
use Rattle.rel_base.specs.Shows.{live_numbers}
use Rattle.sampler.specs.Spread.{IsNoted}
use Rattle.sampler.specs.Window.{IsPair, between}
use Rattle.sampler.proofs.Between.{none_passes}

-- ---- live rows
Listed-range : (n a k : ℕ) → a ≤ k → k < a + n → Listed k (range_with_len a n)
Listed-range zero a k l h = absurd (omega arith)
Listed-range (suc n) a k l h = elim (cases_eq k a) as (λ _. Listed k (range_with_len a (suc n))) [ inl e ↦ inl e | inr ne ↦ inr (Listed-range n (a + 1) k (omega arith) (omega arith)) ]

live-listed : (s : CodeTable) (k : ℕ) → 0 < k → k < s.to → live_at s k ≡ true → Listed k (live_numbers s)
unfolding live_numbers
live-listed s k p l e = Listed-filter (live_at s) k (range_with_len 1 (s.to - 1)) (Listed-range (s.to - 1) 1 k p (omega arith)) e

listed-live : (s : CodeTable) (k : ℕ) → Listed k (live_numbers s) → live_at s k ≡ true
unfolding live_numbers
listed-live s k h = (Listed-filter_parts (live_at s) k (range_with_len 1 (s.to - 1)) h).1

-- ---- the last live row of a code
-- r is the number of the last live row below n that has the code, or 0 where none has it
pub record IsLastLive (s : CodeTable) (c n code r : ℕ) : Type 0 where
  pub below : r < n
  pub live : 0 < r → live_at s r ≡ true
  pub has : 0 < r → code_at s r c ≡ code
  pub none : (k : ℕ) → r < k → k < n → live_at s k ≡ true → code_at s k c ≢ code

-- the number of that row stands at each code
pub record AreLast (s : CodeTable) (c n : ℕ) (last : List ℕ) : Type 0 where
  pub each : (code : ℕ) → IsLastLive s c n code (get_or last code 0)

module _ (s : CodeTable) (c n : ℕ) where
  kept : (code r : ℕ) → IsLastLive s c n code r → (live_at s n ≡ true → code_at s n c ≢ code) → IsLastLive s c (n + 1) code r
  kept code r w not_it =
      let b = w.below in record {
        below = omega arith;
        live = w.live;
        has = w.has;
        none = λ k l m v. elim (cases_eq k n) as (λ _. code_at s k c ≢ code) [
          | inl e ↦ λ q. not_it (ap (live_at s) (sym e) ∙ v) (ap (λ (i : ℕ). code_at s i c) (sym e) ∙ q)
          | inr ne ↦ w.none k l (omega arith) v
        ];
      }

  pub last_dead : (last : List ℕ) → AreLast s c n last → live_at s n ≡ false → AreLast s c (n + 1) last
  last_dead last h dead = record { each = λ code. kept code (get_or last code 0) (h.each code) (λ v. absurd (true≢false (sym v ∙ dead))) }

  pub last_live : (old new : List ℕ) (code : ℕ) → AreLast s c n old → 0 < n → live_at s n ≡ true → code_at s n c ≡ code → IsNoted old new code n → AreLast s c (n + 1) new
  last_live old new code h positive live is noted = record { each = λ other. at other }
    where
      itself : IsLastLive s c (n + 1) code n
      itself = record { below = omega arith; live = λ p. live; has = λ p. is; none = λ k l m. absurd (omega arith) }

      at : (other : ℕ) → IsLastLive s c (n + 1) other (get_or new other 0)
      at other = elim (cases_eq other code) as (λ _. IsLastLive s c (n + 1) other (get_or new other 0)) [
        | inl e ↦ subst (λ (d : ℕ). IsLastLive s c (n + 1) d (get_or new d 0)) (sym e) (subst (IsLastLive s c (n + 1) code) (sym noted.here) itself)
        | inr ne ↦ subst (IsLastLive s c (n + 1) other) (sym (noted.other other ne)) (kept other (get_or old other 0) (h.each other) (λ v q. ne (sym q ∙ is)))
      ]

  -- ---- pairs
  -- the last live row of the code of a live row, and this row
  last_pair : (r : ℕ) → n < s.to → live_at s n ≡ true → IsLastLive s c n (code_at s n c) r → 0 < r → IsPair s c 1 r n
  unfolding between
  last_pair r l live w p =
      let b = w.below in record {
        first = Contains-listed r (live_numbers s) (live-listed s r p (omega arith) (w.live p));
        second = Contains-listed n (live_numbers s) (live-listed s n (omega arith) l live);
        before = b;
        same = w.has p;
        apart = ap (λ (xs : List ℕ). length xs + 1) nothing;
      }
    where
      nothing : between s c r n ≡ []
      nothing = none_passes (λ k. (ltb r k && ltb k n) && eqb (code_at s r c) (code_at s k c)) (live_numbers s) (λ k h. at k (listed-live s k h))
        where
          at : (k : ℕ) → live_at s k ≡ true → ((ltb r k && ltb k n) && eqb (code_at s r c) (code_at s k c)) ≡ false
          at k v = false_from_ne_true _ (λ h.
              let both = and_parts (ltb r k && ltb k n) (eqb (code_at s r c) (code_at s k c)) h in
              let order = and_parts (ltb r k) (ltb k n) both.0 in
              w.none k (ltb-true r k order.0) (ltb-true k n order.1) v (sym (eqb-true (code_at s r c) (code_at s k c) both.1) ∙ w.has p))

  pub pair_of_last : (last : List ℕ) (code before i j : ℕ) → AreLast s c n last → n < s.to → live_at s n ≡ true → code_at s n c ≡ code → before ≡ get_or last code 0 → 0 < before → i ≡ before → j ≡ n → IsPair s c 1 i j
  pair_of_last last code before i j h l live is e p f g =
      let w = subst (IsLastLive s c n code) (sym e) (h.each code) in
      let pair = last_pair before l live (subst (λ (d : ℕ). IsLastLive s c n d before) (sym is) w) p in
      subst (λ (x : ℕ). IsPair s c 1 x j) (sym f) (subst (IsPair s c 1 before) (sym g) pair)
