-- Agree sets that were seen, and pairs that are added.
use Rattle.std.proofs.Common.{inl, inr, ◌≡◌, ℕ, ◌<◌, eqb, true, refl, sym, ◌∙◌, subst, List, [], ◌∷◌, ◌++◌, length, get_or, set, take, replicate, IsPermutation}
use Rattle.std.specs.List.{All, list_any}
use Rattle.std.proofs.lemmas.Bool.{eqb-true}
use Rattle.std.proofs.lemmas.List.Elements.{All-append, All-replicate, All-set, All-take}
use Rattle.std.proofs.lemmas.List.Sorted.{Contains-permutation, IsPermutation-sym}
use Rattle.col_set.specs.Lists.{Listed, Listed-append_left, Listed-append_right, Listed-map, Listed-map_which, list_any_which}
use Rattle.col_set.proofs.Places.{Contains-listed, Listed-contained}
use Rattle.negative_cover.specs.declared.negative_cover.Witness.{Witness}
use Rattle.negative_cover.specs.Witnesses.{sets_of}
use Rattle.negative_cover.specs.FoundPairs.{AreSetsSeen, HasAdded}

-- ---- more pairs have the agree sets of those before, and that of the new one
pub sets_kept : (old : List Witness) (pair : Witness) (z : ℕ) → Listed z (sets_of old) → Listed z (sets_of (old ++ pair ∷ []))
sets_kept old pair z h =
    let w = Listed-map_which (λ (e : Witness). e.agree) z old h in
    subst (λ (x : ℕ). Listed x (sets_of (old ++ pair ∷ []))) (sym w.2) (Listed-map (λ (e : Witness). e.agree) w.0 (old ++ pair ∷ []) (Listed-append_left w.0 old (pair ∷ []) w.1))

sets_last : (old : List Witness) (pair : Witness) → Listed pair.agree (sets_of (old ++ pair ∷ []))
sets_last old pair = Listed-map (λ (e : Witness). e.agree) pair (old ++ pair ∷ []) (Listed-append_right pair old (pair ∷ []) (inl refl))

pub added_known : (pair : Witness) (found : List Witness) → Listed pair.agree (sets_of found) → HasAdded pair found found
added_known pair found h = record { grown = inl refl; told = h }

pub added_new : (pair : Witness) (old new : List Witness) → new ≡ old ++ pair ∷ [] → HasAdded pair old new
added_new pair old new e = record { grown = inr e; told = subst (λ (ws : List Witness). Listed pair.agree (sets_of ws)) (sym e) (sets_last old pair) }

pub added_kept : (pair : Witness) (old new : List Witness) → HasAdded pair old new → (z : ℕ) → Listed z (sets_of old) → Listed z (sets_of new)
added_kept pair old new a z h = elim a.grown as (λ _. Listed z (sets_of new)) [
  | inl e ↦ subst (λ (ws : List Witness). Listed z (sets_of ws)) (sym e) h
  | inr e ↦ subst (λ (ws : List Witness). Listed z (sets_of ws)) (sym e) (sets_kept old pair z h)
]

-- ---- the set of agree sets
pub seen_more : (sets new : List ℕ) (old found : List Witness) (pair : Witness) → IsPermutation (pair.agree ∷ sets) new → found ≡ old ++ pair ∷ [] → AreSetsSeen sets old → AreSetsSeen new found
seen_more sets new old found pair p is a = subst (AreSetsSeen new) (sym is) (record { each = λ y h. at y (Listed-contained y (pair.agree ∷ sets) (Contains-permutation new (pair.agree ∷ sets) y (IsPermutation-sym (pair.agree ∷ sets) new p) (Contains-listed y new h))) })
  where
    at : (y : ℕ) → Listed y (pair.agree ∷ sets) → Listed y (sets_of (old ++ pair ∷ []))
    at y (inl f) = subst (λ (x : ℕ). Listed x (sets_of (old ++ pair ∷ []))) (sym f) (sets_last old pair)
    at y (inr h) = sets_kept old pair y (a.each y h)

-- a set that is among those that were seen
pub seen_at : (sets : List ℕ) (found : List Witness) (z : ℕ) → list_any (eqb z) sets ≡ true → AreSetsSeen sets found → Listed z (sets_of found)
seen_at sets found z e a = let w = list_any_which (eqb z) sets e in subst (λ (x : ℕ). Listed x (sets_of found)) (sym (eqb-true z w.0 w.2)) (a.each w.0 w.1)

-- ---- the table of those that were seen lately
-- a slot that holds an agree set
pub recent_at : (recent : List ℕ) (found : List Witness) (slot agree held : ℕ) → slot < length recent → held ≡ get_or recent slot held → eqb held agree ≡ true → All (λ z. Listed z (sets_of found)) recent → Listed agree (sets_of found)
recent_at recent found slot agree held l is same a = subst (λ (z : ℕ). Listed z (sets_of found)) (sym is ∙ eqb-true held agree same) (a slot held l)

pub recent_put : (recent new : List ℕ) (old found : List Witness) (slots count slot : ℕ) (pair : Witness) → HasAdded pair old found → All (λ z. Listed z (sets_of old)) recent
    → new ≡ take slots recent ++ replicate count pair.agree → All (λ z. Listed z (sets_of found)) (set new slot pair.agree)
recent_put recent new old found slots count slot pair added a e =
    All-set P new slot pair.agree added.told (subst (All P) (sym e) (All-append P (take slots recent) (replicate count pair.agree) (All-take P slots recent kept) (All-replicate P count pair.agree added.told)))
  where
    P : ℕ → Type 0
    P z = Listed z (sets_of found)

    kept : All P recent
    kept k d l = added_kept pair old found added _ (a k d l)
