-- Lists that are made of one draft, by one thread or several.
use Rattle.std.proofs.Common.{inl, inr, ◌≡◌, ◌∙◌, ◌+◌, ◌<◌, ℕ, zero, suc, arith, refl, sym, ap, subst, List, [], ◌∷◌, ◌++◌, length, map, take, get_or, Option, None, Result, Ok, Err, IfOk}
use Rattle.std.specs.declared.alloc.AllocError.{AllocError}
use Rattle.std.specs.List.{All, AllZip, range_with_len, remove}
use Rattle.std.proofs.lemmas.List.{map-append, length-map, take_more}
use Rattle.std.proofs.lemmas.List.FromFn.{length-range_with_len}
use Rattle.col_set.specs.ColSet.{upto}
use Rattle.col_set.specs.AllSets.{Listed-upto_within}
use Rattle.col_set.specs.Lists.{Listed, Listed-map_which}
use Rattle.col_set.specs.Target.{IsColumnTarget}
use Rattle.col_set.specs.declared.target.Target.{Target}
use Rattle.col_set.specs.declared.target.Target.TheVariants.{Col, RowId}
use Rattle.rel_base.proofs.States.{All-from}
use Rattle.least_sets.proofs.Growing.{upto_more}
use Rattle.candidate_cover.specs.declared.cand.Cand.{Cand}
use Rattle.candidate_cover.specs.Lists.{CandLists}
use Rattle.cover_steps.specs.Core.{targets}
use Rattle.cover_steps.specs.NewLists.{IsNewList, AreNewLists}

pub targets_more : (n : ℕ) → targets (n + 1) ≡ targets n ++ Col n ∷ []
targets_more n =
    let e : 0 + n ≡ n = omega arith in
    ap (λ (cs : List ℕ). RowId ∷ map (λ a. Col a) cs) (upto_more n 0 ∙ ap (λ (i : ℕ). upto n ++ i ∷ []) e) ∙ ap (λ (ts : List Target). RowId ∷ ts) (map-append (λ a. Col a) (upto n) (n ∷ []))

pub targets_fit : (n : ℕ) → All (IsColumnTarget n) (targets n)
targets_fit n = All-from (IsColumnTarget n) (targets n) (λ t h. at t h)
  where
    at : (t : Target) → Listed t (targets n) → IsColumnTarget n t
    at t (inl e) = subst (IsColumnTarget n) (sym e) tt
    at t (inr h) = let w = Listed-map_which (λ a. Col a) t (upto n) h in subst (IsColumnTarget n) (sym w.2) (Listed-upto_within n w.0 w.1)

-- ---- two lists beside each other
module _ {X Y : Type 0} (P : X → Y → Type 0) where
  pub AllZip-append : (xs ys : List X) (us vs : List Y) → AllZip P xs us → AllZip P ys vs → AllZip P (xs ++ ys) (us ++ vs)
  AllZip-append [] ys [] vs h g = g
  AllZip-append [] ys (u ∷ us) vs h g = absurd h
  AllZip-append (x ∷ xs) ys [] vs h g = absurd h
  AllZip-append (x ∷ xs) ys (u ∷ us) vs h g = (h.0, AllZip-append xs ys us vs h.1 g)

  -- one more at the end of both
  pub AllZip-more : (xs : List X) (i : ℕ) (d : X) (us : List Y) (u : Y) → i < length xs → AllZip P (take i xs) us → P (get_or xs i d) u → AllZip P (take (i + 1) xs) (us ++ u ∷ [])
  AllZip-more xs i d us u l h p = subst (λ (zs : List X). AllZip P zs (us ++ u ∷ [])) (sym (take_more xs i d l)) (AllZip-append (take i xs) (get_or xs i d ∷ []) us (u ∷ []) h (p, tt))

-- an answer of which more is known
pub IfOk-with : {X : Type 0} {P Q : X → Type 0} (r : Result X AllocError) → IfOk r P → ((x : X) → P x → Q x) → IfOk r Q
IfOk-with (Ok x) h f = f x h
IfOk-with (Err e) h f = tt

-- ---- the new lists in order of the targets
module _ (n : ℕ) (ws : List ℕ) (c : CandLists) where
  long : (ts : List Target) (new_lists : List (Option (List Cand))) → AllZip (IsNewList n ws c) ts new_lists → length new_lists ≡ length ts
  long [] [] h = refl
  long [] (p ∷ ps) h = absurd h
  long (t ∷ ts) [] h = absurd h
  long (t ∷ ts) (p ∷ ps) h = ap suc (long ts ps h.1)

  at_columns : (m k : ℕ) (new_lists : List (Option (List Cand))) → AllZip (IsNewList n ws c) (map (λ a. Col a) (range_with_len k m)) new_lists → (a : ℕ) → a < m → IsNewList n ws c (Col (k + a)) (get_or new_lists a None)
  at_columns zero k new_lists h a l = absurd (omega arith)
  at_columns (suc m) k [] h a l = absurd h
  at_columns (suc m) k (p ∷ ps) h zero l = let e : k + 0 ≡ k = omega arith in subst (λ (i : ℕ). IsNewList n ws c (Col i) p) (sym e) h.0
  at_columns (suc m) k (p ∷ ps) h (suc a) l =
      let e : k + 1 + a ≡ k + suc a = omega arith in
      let less : a < m = omega arith in
      subst (λ (i : ℕ). IsNewList n ws c (Col i) (get_or ps a None)) e (at_columns m (k + 1) ps h.1 a less)

  pub are_parts : (new_lists : List (Option (List Cand))) (first : Option (List Cand)) (others : List (Option (List Cand))) → AllZip (IsNewList n ws c) (targets n) new_lists → new_lists ≡ first ∷ others → AreNewLists n ws c first others
  are_parts new_lists first others h e =
      let all : AllZip (IsNewList n ws c) (targets n) (first ∷ others) = subst (AllZip (IsNewList n ws c) (targets n)) e h in
      record {
        row_id = all.0;
        count = long (map (λ a. Col a) (upto n)) others all.1 ∙ length-map (upto n) (λ a. Col a) ∙ length-range_with_len 0 n;
        columns = λ a l. let z : 0 + a ≡ a = omega arith in subst (λ (i : ℕ). IsNewList n ws c (Col i) (get_or others a None)) z (at_columns n 0 others all.1 a l);
      }

  pub some_parts : (new_lists : List (Option (List Cand))) → AllZip (IsNewList n ws c) (targets n) new_lists → 0 < length new_lists
  some_parts new_lists h = let l = long (targets n) new_lists h in omega arith

  -- the first new list taken off the others
  pub parts_are : (new_lists : List (Option (List Cand))) (first : Option (List Cand)) (others : List (Option (List Cand))) → AllZip (IsNewList n ws c) (targets n) new_lists → first ≡ get_or new_lists 0 first → others ≡ remove new_lists 0 → AreNewLists n ws c first others
  parts_are [] first others h e f = absurd h
  parts_are (p ∷ ps) first others h e f = are_parts (p ∷ ps) first others h (ap (λ (x : Option (List Cand)). x ∷ ps) (sym e) ∙ ap (λ (xs : List (Option (List Cand))). first ∷ xs) (sym f))
