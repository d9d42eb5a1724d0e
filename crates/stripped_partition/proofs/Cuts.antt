-- Groups as one list of rows and the places where they end.
use Rattle.std.proofs.Common.{◌≡◌, ℕ, zero, suc, ◌+◌, ◌-◌, ◌<◌, ◌≤◌, refl, ap, ◌∙◌, subst, arith, List, [], ◌∷◌, length, get_or, drop, slice_range}
use Rattle.std.specs.List.{sum_by}
use Rattle.std.proofs.lemmas.List.{length-take, length-drop, get_or-take, get_or-drop}
use Rattle.std.proofs.lemmas.List.Sums.{sum_by-cons}
use Rattle.stripped_partition.specs.Groups.{cut, start_at, EndsRise, IsCut}
use Rattle.stripped_partition.specs.Stripped.{error_of}

pub length-cut : {X : Type 0} (start : ℕ) (rows : List X) (ends : List ℕ) → length (cut start rows ends) ≡ length ends
unfolding cut
length-cut start rows [] = refl
length-cut start rows (end ∷ ends) = ap suc (length-cut end rows ends)

-- where the group at a place begins, if the first begins at `start`
begin_at : ℕ → List ℕ → ℕ → ℕ
begin_at start ends zero = start
begin_at start ends (suc k) = get_or ends k 0

begin_at-zero : (ends : List ℕ) (k : ℕ) → begin_at 0 ends k ≡ start_at ends k
unfolding begin_at
begin_at-zero ends zero = refl
begin_at-zero ends (suc k) = refl

cut_from : {X : Type 0} (start : ℕ) (rows : List X) (ends : List ℕ) (k : ℕ) → k < length ends → get_or (cut start rows ends) k [] ≡ slice_range rows (begin_at start ends k) (get_or ends k 0)
unfolding cut begin_at
cut_from start rows [] k l = absurd (omega arith)
cut_from start rows (end ∷ ends) zero l = refl
cut_from start rows (end ∷ ends) (suc zero) l = cut_from end rows ends zero (omega arith)
cut_from start rows (end ∷ ends) (suc (suc k)) l = cut_from end rows ends (suc k) (omega arith)

pub get_or-cut : {X : Type 0} (rows : List X) (ends : List ℕ) (k : ℕ) → k < length ends → get_or (cut 0 rows ends) k [] ≡ slice_range rows (start_at ends k) (get_or ends k 0)
get_or-cut rows ends k l = cut_from 0 rows ends k l ∙ ap (λ (b : ℕ). slice_range rows b (get_or ends k 0)) (begin_at-zero ends k)

rise_least : (start n : ℕ) (ends : List ℕ) → EndsRise start n ends → start + length ends ≤ n
rise_least start n [] r = omega arith
rise_least start n (end ∷ ends) r = let l = rise_least end n ends r.1 in let m = r.0 in omega arith

ends_from : (start n : ℕ) (ends : List ℕ) (k : ℕ) → EndsRise start n ends → k < length ends → (begin_at start ends k < get_or ends k 0) × (get_or ends k 0 ≤ n)
unfolding begin_at
ends_from start n [] k r l = absurd (omega arith)
ends_from start n (end ∷ ends) zero r l = (r.0, (let m = rise_least end n ends r.1 in omega arith))
ends_from start n (end ∷ ends) (suc zero) r l = ends_from end n ends zero r.1 (omega arith)
ends_from start n (end ∷ ends) (suc (suc k)) r l = ends_from end n ends (suc k) r.1 (omega arith)

-- a group has rows, and ends within them
pub record Ends (n : ℕ) (ends : List ℕ) (k : ℕ) : Type 0 where
  pub rising : start_at ends k < get_or ends k 0
  pub within : get_or ends k 0 ≤ n

pub ends_at : (n : ℕ) (ends : List ℕ) (k : ℕ) → EndsRise 0 n ends → k < length ends → Ends n ends k
ends_at n ends k r l = let w = ends_from 0 n ends k r l in record { rising = subst (λ (b : ℕ). b < get_or ends k 0) (begin_at-zero ends k) w.0; within = w.1 }

pub few_ends : (rows ends : List ℕ) → IsCut rows ends → length ends ≤ length rows
few_ends rows ends is = let l = rise_least 0 (length rows) ends is.rise in omega arith

pub length-slice : {X : Type 0} (rows : List X) (start end : ℕ) → start ≤ end → end ≤ length rows → length (slice_range rows start end) ≡ end - start
length-slice rows start end l m = let e = length-take (end - start) (drop start rows) in let d = length-drop start rows in omega arith

pub sum-cut : {X : Type 0} (start : ℕ) (rows : List X) (ends : List ℕ) → EndsRise start (length rows) ends → start + sum_by length (cut start rows ends) ≡ length rows
unfolding cut
sum-cut start rows [] r = omega arith
sum-cut start rows (end ∷ ends) r =
    let e = sum-cut end rows ends r.1 in
    let s = sum_by-cons length (slice_range rows start end) (cut end rows ends) in
    let m = rise_least end (length rows) ends r.1 in
    let g = r.0 in
    let l = length-slice rows start end (omega arith) (omega arith) in
    omega arith

pub error_of-cut : (rows ends : List ℕ) → IsCut rows ends → error_of (cut 0 rows ends) ≡ length rows - length ends
unfolding error_of
error_of-cut rows ends is = let s = sum-cut 0 rows ends is.rise in let l = length-cut 0 rows ends in omega arith

-- the first row of a group
pub first-cut : (rows ends : List ℕ) (k : ℕ) → IsCut rows ends → k < length ends → get_or (get_or (cut 0 rows ends) k []) 0 0 ≡ get_or rows (start_at ends k) 0
first-cut rows ends k is l =
    let w = ends_at (length rows) ends k is.rise l in let a = w.rising in
    ap (λ (g : List ℕ). get_or g 0 0) (get_or-cut rows ends k l)
    ∙ get_or-take (get_or ends k 0 - start_at ends k) (drop (start_at ends k) rows) 0 0 (omega arith)
    ∙ get_or-drop (start_at ends k) rows 0 0
    ∙ ap (λ (i : ℕ). get_or rows i 0) (let e : start_at ends k + 0 ≡ start_at ends k = omega arith in e)
