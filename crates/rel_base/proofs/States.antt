-- Lists of row numbers that ascend, and what a row state has of them.
use Rattle.std.proofs.Common.{inl, inr, ◌≡◌, ◌⊎◌, ℕ, zero, suc, ◌+◌, ◌<◌, refl, sym, subst, arith, List, [], ◌∷◌, ◌++◌, get_or}
use Rattle.std.specs.List.{All}
use Rattle.std.specs.List.Sorted.{IsStrictlyIncreasing}
use Rattle.std.specs.Ordering.{nat_cmp}
use Rattle.col_set.specs.Lists.{Listed, Rises, Listed-append_cases}
use Rattle.col_set.specs.Columns.{nat_cmp-lt}
use Rattle.col_set.proofs.Places.{Climbs, Climbs-increasing, Contains-listed, Listed-get_or}
use Rattle.rel_base.specs.RowState.{RowState, IsRowState, next}

module _ {X : Type 0} where
  pub All-listed : (P : X → Type 0) (x : X) (xs : List X) → All P xs → Listed x xs → P x
  All-listed P x xs a h = let w = Contains-listed x xs h in subst P w.2 (a w.0 x w.1)

  pub All-from : (P : X → Type 0) (xs : List X) → ((x : X) → Listed x xs → P x) → All P xs
  All-from P xs f k d l = f (get_or xs k d) (Listed-get_or xs k d l)

pub increasing-Climbs : (xs : List ℕ) → Climbs xs → IsStrictlyIncreasing xs
increasing-Climbs [] c k l = absurd (omega arith)
increasing-Climbs (x ∷ []) c k l = absurd (omega arith)
increasing-Climbs (x ∷ y ∷ xs) c zero l = c.0 y (inl refl)
increasing-Climbs (x ∷ y ∷ xs) c (suc k) l =
    let e : suc k + 1 ≡ suc (k + 1) = omega arith in
    subst (λ (j : ℕ). get_or (y ∷ xs) k 0 < get_or (x ∷ y ∷ xs) j 0) (sym e) (increasing-Climbs (y ∷ xs) c.1 k (omega arith))

pub Climbs-append : (xs : List ℕ) (n : ℕ) → Climbs xs → ((y : ℕ) → Listed y xs → y < n) → Climbs (xs ++ n ∷ [])
Climbs-append [] n c f = ((λ y h. absurd h), tt)
Climbs-append (x ∷ xs) n c f = ((λ y h. by y (Listed-append_cases y xs (n ∷ []) h)), Climbs-append xs n c.1 (λ y h. f y (inr h)))
  where
    single : (y : ℕ) → Listed y (n ∷ []) → x < y
    single y (inl e) = let l = f x (inl refl) in omega arith
    single y (inr h) = absurd h

    by : (y : ℕ) → Listed y xs ⊎ Listed y (n ∷ []) → x < y
    by y (inl h) = c.0 y h
    by y (inr h) = single y h

pub Rises-Climbs : (xs : List ℕ) → Climbs xs → Rises nat_cmp xs
Rises-Climbs [] c = tt
Rises-Climbs (x ∷ xs) c = ((λ y h. nat_cmp-lt x y (c.0 y h)), Rises-Climbs xs c.1)

-- ---- the live rows of a row state
pub live_climbs : (r : RowState) → IsRowState r → Climbs r.live
live_climbs r is = Climbs-increasing r.live is.ascending

pub live_positive : (r : RowState) (i : ℕ) → IsRowState r → Listed i r.live → 0 < i
live_positive r i is h = All-listed (λ (number : ℕ). 0 < number) i r.live is.positive h

pub live_numbered : (r : RowState) (i : ℕ) → IsRowState r → Listed i r.live → i < next r
live_numbered r i is h = All-listed (λ (number : ℕ). number < next r) i r.live is.numbered h
