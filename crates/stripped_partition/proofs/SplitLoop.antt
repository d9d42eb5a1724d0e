-- One group after another is split.
use Rattle.std.proofs.Common.{◌≡◌, ℕ, zero, suc, ◌+◌, ◌-◌, ◌<◌, ◌≤◌, refl, sym, ap, ap₂, ◌∙◌, subst, arith, List, [], ◌∷◌, ◌++◌, length, get_or, replicate, map, take, drop, zip, slice_range, append_assoc, append-nil}
use Rattle.std.specs.List.{flat_map, concat}
use Rattle.std.proofs.lemmas.List.{length-append, length-take, length-drop, take_more, take_all}
use Rattle.std.proofs.lemmas.List.Concat.{flat_map-append}
use Rattle.stripped_partition.specs.Groups.{cut, start_at, EndsRise, ends_of, IsFlat}
use Rattle.stripped_partition.specs.Splits.{rows_with, parts}
use Rattle.stripped_partition.proofs.Cuts.{length-cut, get_or-cut, ends_at}
use Rattle.stripped_partition.proofs.PlacingStep.{opened, Once-opened, few_rows, parts_is}

-- ---- parts of lists side by side
zip-nil : (xs : List ℕ) → (let none : List ℕ = [] in zip xs none ≡ [])
zip-nil [] = refl
zip-nil (x ∷ xs) = refl

zip-drop : (m : ℕ) (xs ys : List ℕ) → zip (drop m xs) (drop m ys) ≡ drop m (zip xs ys)
zip-drop zero xs ys = refl
zip-drop (suc m) [] ys = refl
zip-drop (suc m) (x ∷ xs) [] = zip-nil (drop m xs)
zip-drop (suc m) (x ∷ xs) (y ∷ ys) = zip-drop m xs ys

zip-take : (m : ℕ) (xs ys : List ℕ) → zip (take m xs) (take m ys) ≡ take m (zip xs ys)
zip-take zero xs ys = refl
zip-take (suc m) [] ys = refl
zip-take (suc m) (x ∷ xs) [] = refl
zip-take (suc m) (x ∷ xs) (y ∷ ys) = ap (λ es. (x, y) ∷ es) (zip-take m xs ys)

pub zip-slice : (xs ys : List ℕ) (start end : ℕ) → zip (slice_range xs start end) (slice_range ys start end) ≡ slice_range (zip xs ys) start end
zip-slice xs ys start end = zip-take (end - start) (drop start xs) (drop start ys) ∙ ap (take (end - start)) (zip-drop start xs ys)

-- ---- lists of groups one after another
concat-append : (gs hs : List (List ℕ)) → concat (gs ++ hs) ≡ concat gs ++ concat hs
concat-append [] hs = refl
concat-append (g ∷ gs) hs = ap (λ (xs : List ℕ). g ++ xs) (concat-append gs hs) ∙ sym (append_assoc g (concat gs) (concat hs))

ends_of-append_all : (start : ℕ) (gs hs : List (List ℕ)) → ends_of start (gs ++ hs) ≡ ends_of start gs ++ ends_of (start + length (concat gs)) hs
unfolding ends_of
ends_of-append_all start [] hs = ap (λ (n : ℕ). ends_of n hs) (let e : start ≡ start + 0 = omega arith in e)
ends_of-append_all start (g ∷ gs) hs =
    ap (λ ns. (start + length g) ∷ ns) (ends_of-append_all (start + length g) gs hs
    ∙ ap (λ (n : ℕ). ends_of (start + length g) gs ++ ends_of n hs) (let e = length-append g (concat gs) in let d : start + length g + length (concat gs) ≡ start + length (g ++ concat gs) = omega arith in d))

pub few_parts : (bound : ℕ) (es : List (ℕ × ℕ)) → length (concat (parts bound es)) ≤ length es
few_parts bound es = let e = ap (λ (gs : List (List ℕ)). length (concat gs)) (sym (parts_is es bound)) in
    let f = flat_length (opened es bound es) in
    let l = few_rows es (opened es bound es) (Once-opened es bound es) in omega arith
  where
    flat_length : (cs : List ℕ) → length (concat (map (rows_with es) cs)) ≡ length (flat_map (rows_with es) cs)
    flat_length [] = refl
    flat_length (c ∷ cs) = let a = length-append (rows_with es c) (concat (map (rows_with es) cs)) in let b = length-append (rows_with es c) (flat_map (rows_with es) cs) in let r = flat_length cs in omega arith

-- ---- the state after some groups
pub record Splitted (bound : ℕ) (all : List (ℕ × ℕ)) (ends rows_made ends_made slots : List ℕ) (i start : ℕ) : Type 0 where
  pub at : start ≡ start_at ends i
  pub flat : IsFlat rows_made ends_made (flat_map (parts bound) (take i (cut 0 all ends)))
  pub long : length slots ≡ bound
  pub clear : slots ≡ replicate (length slots) 0
  pub few : length rows_made ≤ start

pub splitted_none : (bound : ℕ) (all : List (ℕ × ℕ)) (ends slots : List ℕ) → slots ≡ replicate bound 0 → length slots ≡ bound → Splitted bound all ends [] [] slots 0 0
unfolding ends_of
splitted_none bound all ends slots is long = record {
  at = refl;
  flat = record { laid = refl; cuts = refl };
  long = long;
  clear = is ∙ ap (λ (n : ℕ). replicate n 0) (sym long);
  few = omega arith;
}

module _ (bound : ℕ) (all : List (ℕ × ℕ)) (ends rows_made ends_made slots : List ℕ) (i start : ℕ) (p : Splitted bound all ends rows_made ends_made slots i start) (rise : EndsRise 0 (length all) ends) (l : i < length ends) where
  pub bounds : (end : ℕ) → end ≡ get_or ends i 0 → (start < end) × (end ≤ length all)
  bounds end e = let w = ends_at (length all) ends i rise l in let a = w.rising in let b = w.within in let s = p.at in (omega arith, omega arith)

  pub splitted_more : (end : ℕ) (rows_after ends_after slots_after : List ℕ) → end ≡ get_or ends i 0
      → rows_after ≡ rows_made ++ concat (parts bound (slice_range all start end)) → ends_after ≡ ends_made ++ ends_of (length rows_made) (parts bound (slice_range all start end))
      → length slots_after ≡ bound → slots_after ≡ replicate (length slots_after) 0 → Splitted bound all ends rows_after ends_after slots_after (i + 1) end
  splitted_more end rows_after ends_after slots_after e er ee long clear = record {
    at = e ∙ sym (ap (start_at ends) (let d : i + 1 ≡ suc i = omega arith in d));
    flat = record {
      laid = er ∙ ap (λ (xs : List ℕ). xs ++ concat new) p.flat.laid ∙ sym (concat-append old new) ∙ ap concat (sym more);
      cuts = ee ∙ ap₂ (λ (xs ys : List ℕ). xs ++ ys) p.flat.cuts (ap (λ (n : ℕ). ends_of n new) (ap length p.flat.laid ∙ (let d : length (concat old) ≡ 0 + length (concat old) = omega arith in d))) ∙ sym (ends_of-append_all 0 old new) ∙ ap (ends_of 0) (sym more);
    };
    long = long;
    clear = clear;
    few = (let w = bounds end e in let a = w.0 in let b = w.1 in let r = ap length er in let q = length-append rows_made (concat new) in let f = few_parts bound (slice_range all start end) in
        let s = length_of (omega arith) b in let h = p.few in omega arith);
  }
    where
      old : List (List ℕ)
      old = flat_map (parts bound) (take i (cut 0 all ends))

      new : List (List ℕ)
      new = parts bound (slice_range all start end)

      length_of : start ≤ end → end ≤ length all → length (slice_range all start end) ≡ end - start
      length_of a b = let x = length-take (end - start) (drop start all) in let y = length-drop start all in omega arith

      group : get_or (cut 0 all ends) i [] ≡ slice_range all start end
      group = get_or-cut all ends i l ∙ ap₂ (λ (a b : ℕ). slice_range all a b) (sym p.at) (sym e)

      more : flat_map (parts bound) (take (i + 1) (cut 0 all ends)) ≡ flat_map (parts bound) (take i (cut 0 all ends)) ++ parts bound (slice_range all start end)
      more =
          ap (flat_map (parts bound)) (take_more (cut 0 all ends) i [] (let n = length-cut 0 all ends in omega arith) ∙ ap (λ (g : List (ℕ × ℕ)). take i (cut 0 all ends) ++ g ∷ []) group)
          ∙ flat_map-append (parts bound) (take i (cut 0 all ends)) (slice_range all start end ∷ [])
          ∙ ap (λ (gs : List (List ℕ)). flat_map (parts bound) (take i (cut 0 all ends)) ++ gs) (append-nil (parts bound (slice_range all start end)))

pub splitted_all : (bound : ℕ) (all : List (ℕ × ℕ)) (ends rows_made ends_made slots : List ℕ) (i start : ℕ) → length ends ≤ i → Splitted bound all ends rows_made ends_made slots i start → IsFlat rows_made ends_made (flat_map (parts bound) (cut 0 all ends))
splitted_all bound all ends rows_made ends_made slots i start l p =
    subst (λ (gs : List (List (ℕ × ℕ))). IsFlat rows_made ends_made (flat_map (parts bound) gs)) (take_all i (cut 0 all ends) (let n = length-cut 0 all ends in omega arith)) p.flat
