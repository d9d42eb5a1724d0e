-- The live numbers of a snapshot: ascending, from 1 to below its next number.
use Rattle.std.proofs.Common.{◌≡◌, ℕ, zero, suc, ◌+◌, ◌-◌, ◌<◌, ◌≤◌, refl, arith, List, [], ◌∷◌, length}
use Rattle.std.specs.List.{range_with_len}
use Rattle.std.proofs.lemmas.List.Sums.{length-filter, count_by-le-length}
use Rattle.col_set.specs.Lists.{Listed, Listed-filter_parts}
use Rattle.col_set.specs.AllSets.{Ascends, Ascends-range, Ascends_within}
use Rattle.col_set.proofs.Places.{Climbs}
use Rattle.rel_base.specs.CodeTable.{CodeTable, live_at}
use Rattle.rel_base.specs.Shows.{live_numbers}
use Rattle.rel_base.proofs.Valid.{Climbs-filter}

Ascends-Climbs : (a b : ℕ) (xs : List ℕ) → Ascends a b xs → Climbs xs
Ascends-Climbs a b [] r = tt
Ascends-Climbs a b (x ∷ xs) r = ((λ y h. let w = (Ascends_within (x + 1) b y xs r.2 h).0 in omega arith), Ascends-Climbs (x + 1) b xs r.2)

pub Climbs-live : (s : CodeTable) → Climbs (live_numbers s)
unfolding live_numbers
Climbs-live s = Climbs-filter (live_at s) (range_with_len 1 (s.to - 1)) (Ascends-Climbs 1 (1 + (s.to - 1)) _ (Ascends-range (s.to - 1) 1 (1 + (s.to - 1)) refl))

pub live_within : (s : CodeTable) (i : ℕ) → Listed i (live_numbers s) → (0 < i) × (i < s.to)
unfolding live_numbers
live_within s i h =
    let w = Listed-filter_parts (live_at s) i (range_with_len 1 (s.to - 1)) h in
    let v = Ascends_within 1 (1 + (s.to - 1)) i (range_with_len 1 (s.to - 1)) (Ascends-range (s.to - 1) 1 (1 + (s.to - 1)) refl) w.0 in
    let a = v.0 in let b = v.1 in (omega arith, omega arith)

length-range : (n a : ℕ) → length (range_with_len a n) ≡ n
length-range zero a = refl
length-range (suc n) a = let e = length-range n (a + 1) in omega arith

pub length-live : (s : CodeTable) → length (live_numbers s) ≤ s.to - 1
unfolding live_numbers
length-live s =
    let e = length-filter (live_at s) (range_with_len 1 (s.to - 1)) in
    let l = count_by-le-length (live_at s) (range_with_len 1 (s.to - 1)) in
    let m = length-range (s.to - 1) 1 in omega arith
