-- Pairs that are among others.
use Rattle.std.proofs.Common.{◌≡◌, ℕ, ◌<◌, ◌∙◌, arith, refl, subst, List, [], ◌∷◌, ◌++◌, length, get_or}
use Rattle.std.specs.List.{Contains}
use Rattle.std.proofs.lemmas.List.{get_or_append_left, get_or_default, get_or_push, length_push}
use Rattle.std.proofs.lemmas.List.Elements.{All-push}
use Rattle.sampler.specs.Spread.{AreAmong}
use Rattle.sampler.specs.Window.{IsPair, AreNeighbours}
use Rattle.rel_base.specs.CodeTable.{CodeTable}

with_one : (pairs : List (ℕ × ℕ)) (p q : ℕ × ℕ) → Contains pairs q → Contains (pairs ++ p ∷ []) q
with_one pairs p q h = let l = h.1 in let n = length_push pairs p in (h.0, omega arith, get_or_append_left pairs (p ∷ []) q h.0 l ∙ h.2)

last_one : (pairs : List (ℕ × ℕ)) (p : ℕ × ℕ) → Contains (pairs ++ p ∷ []) p
last_one pairs p = let n = length_push pairs p in (length pairs, omega arith, get_or_push pairs p p (length pairs) refl)

pub among_itself : (pairs : List (ℕ × ℕ)) → AreAmong pairs pairs
among_itself pairs = λ k d l. (k, l, get_or_default pairs k (get_or pairs k d) d l)

pub among_more : (old kept : List (ℕ × ℕ)) (p : ℕ × ℕ) → AreAmong old kept → AreAmong (old ++ p ∷ []) kept
among_more old kept p among = λ k d l. with_one old p (get_or kept k d) (among k d l)

pub among_pushed : (old kept : List (ℕ × ℕ)) (p : ℕ × ℕ) → AreAmong old kept → AreAmong (old ++ p ∷ []) (kept ++ p ∷ [])
among_pushed old kept p among = All-push (Contains (old ++ p ∷ [])) kept p (among_more old kept p among) (last_one old p)

-- a pair that stands at a place is one more of them
pub among_at : (pairs kept : List (ℕ × ℕ)) (k : ℕ) (p : ℕ × ℕ) → AreAmong pairs kept → k < length pairs → get_or pairs k p ≡ p → AreAmong pairs (kept ++ p ∷ [])
among_at pairs kept k p among l e = All-push (Contains pairs) kept p among (k, l, e)

-- neighbours that are among some and a further pair of neighbours
pub neighbours_more : (s : CodeTable) (c : ℕ) (old new : List (ℕ × ℕ)) (i j : ℕ) → AreNeighbours s c old → IsPair s c 1 i j → AreAmong (old ++ (i, j) ∷ []) new → AreNeighbours s c new
neighbours_more s c old new i j h p among = λ k d l.
    let all = All-push (λ (q : ℕ × ℕ). IsPair s c 1 q.0 q.1) old (i, j) h p in
    let w = among k d l in
    let x = get_or new k d in
    subst (λ (q : ℕ × ℕ). IsPair s c 1 q.0 q.1) w.2 (all w.0 x w.1)
