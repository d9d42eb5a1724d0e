-- How many rows of a snapshot are live.
use Rattle.std.proofs.Common.{◌≡◌, ℕ, suc, ◌+◌, ◌-◌, ◌<◌, Bool, true, false, cond, refl, sym, ap, ◌∙◌, arith, List, [], ◌∷◌, length, get_or}
use Rattle.std.specs.List.{filter, range_with_len, count_by}
use Rattle.std.proofs.lemmas.List.Sums.{length-filter}
use Rattle.rel_base.specs.CodeTable.{CodeTable, IsCodeTable, live_at}
use Rattle.rel_base.specs.Shows.{live_numbers}

-- as many numbers pass a test as flags are set, where the test reads the flags
as_many : (p : ℕ → Bool) (a : ℕ) (flags : List Bool) → ((k : ℕ) → k < length flags → p (a + k) ≡ get_or flags k false) → length (filter p (range_with_len a (length flags))) ≡ length (filter (λ flag. flag) flags)
as_many p a [] f = refl
as_many p a (x ∷ xs) f = by (p a) x (ap p (let e : a ≡ a + 0 = omega arith in e) ∙ f 0 (omega arith)) (as_many p (a + 1) xs (λ k l. ap p (let e : a + 1 + k ≡ a + suc k = omega arith in e) ∙ f (suc k) (omega arith)))
  where
    by : (b c : Bool) → b ≡ c → length (filter p (range_with_len (a + 1) (length xs))) ≡ length (filter (λ flag. flag) xs)
        → length (cond b (a ∷ filter p (range_with_len (a + 1) (length xs))) (filter p (range_with_len (a + 1) (length xs)))) ≡ length (cond c (c ∷ filter (λ flag. flag) xs) (filter (λ flag. flag) xs))
    by true true e h = ap suc h
    by true false e h = cc
    by false true e h = cc
    by false false e h = h

pub live_count-is : (s : CodeTable) → IsCodeTable s → count_by (λ flag. flag) s.live ≡ length (live_numbers s)
unfolding live_numbers
live_count-is s is =
    sym (length-filter (λ flag. flag) s.live)
    ∙ sym (as_many (live_at s) 1 s.live (λ k l. ap (λ (place : ℕ). get_or s.live place false) (let e : 1 + k - 1 ≡ k = omega arith in e)))
    ∙ ap (λ (n : ℕ). length (filter (live_at s) (range_with_len 1 n))) (let h = is.flagged in let e : length s.live ≡ s.to - 1 = omega arith in e)
