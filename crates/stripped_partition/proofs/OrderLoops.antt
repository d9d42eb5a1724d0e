-- Loops over groups that test their order and copy them in order.
use Rattle.std.proofs.Common.{inl, inr, ◌≡◌, ◌⊎◌, ℕ, zero, suc, ◌+◌, ◌<◌, ◌≤◌, refl, sym, ap, ap₂, ◌∙◌, subst, arith, List, [], ◌∷◌, ◌++◌, length, get_or, map, take, sum_by, append_assoc, append-nil}
use Rattle.std.specs.List.{range_with_len, concat}
use Rattle.std.proofs.lemmas.List.{length-append, take_more, take_all, map-append}
use Rattle.std.proofs.lemmas.List.Sums.{sum_by-cons, sum_by_more_le}
use Rattle.col_set.specs.ColSet.{upto}
use Rattle.col_set.specs.Lists.{Listed, Listed-append_cases}
use Rattle.stripped_partition.specs.Groups.{ends_of, IsFlat}
use Rattle.stripped_partition.specs.Order.{Ahead, key_of, group_at}
use Rattle.stripped_partition.proofs.PlacingStep.{ends_of-append}
use Rattle.stripped_partition.proofs.Ordering.{sum_by-map}
use Rattle.rel_base.specs.declared.limits.TheConstants.{MOST_ROWS}

-- ---- each group's first row is above the last one
Ahead-push : (gs : List (List ℕ)) (g : List ℕ) → Ahead gs → ((h : List ℕ) → Listed h gs → get_or h 0 0 < get_or g 0 0) → Ahead (gs ++ g ∷ [])
Ahead-push [] g a f = ((λ h l. absurd l), tt)
Ahead-push (h ∷ gs) g a f = ((λ x l. by x (Listed-append_cases x gs (g ∷ []) l)), Ahead-push gs g a.1 (λ x l. f x (inr l)))
  where
    by : (x : List ℕ) → Listed x gs ⊎ Listed x (g ∷ []) → get_or h 0 0 < get_or x 0 0
    by x (inl l) = a.0 x l
    by x (inr (inl e)) = subst (λ (y : List ℕ). get_or h 0 0 < get_or y 0 0) (sym e) (f h (inl refl))
    by x (inr (inr l)) = absurd l

pub record Rising (groups : List (List ℕ)) (k last : ℕ) : Type 0 where
  pub ahead : Ahead (take k groups)
  pub least : (g : List ℕ) → Listed g (take k groups) → get_or g 0 0 ≤ last

pub rising_none : (groups : List (List ℕ)) → Rising groups 0 0
rising_none groups = record { ahead = tt; least = λ g l. absurd l }

pub rising_more : (groups : List (List ℕ)) (k last first : ℕ) → k < length groups → Rising groups k last → first ≡ get_or (get_or groups k []) 0 0 → last < first → Rising groups (k + 1) first
rising_more groups k last first l p e above =
    let more = take_more groups k [] l in
    record {
      ahead = subst Ahead (sym more) (Ahead-push (take k groups) (get_or groups k []) p.ahead (λ h m. let b = p.least h m in omega arith));
      least = λ g m. by g (Listed-append_cases g (take k groups) (get_or groups k [] ∷ []) (subst (Listed g) more m));
    }
  where
    by : (g : List ℕ) → Listed g (take k groups) ⊎ Listed g (get_or groups k [] ∷ []) → get_or g 0 0 ≤ first
    by g (inl m) = let b = p.least g m in omega arith
    by g (inr (inl i)) = let f : get_or g 0 0 ≡ get_or (get_or groups k []) 0 0 = ap (λ (x : List ℕ). get_or x 0 0) i in omega arith
    by g (inr (inr m)) = absurd m

pub rising_all : (groups : List (List ℕ)) (k last : ℕ) → length groups ≤ k → Rising groups k last → Ahead groups
rising_all groups k last l p = subst Ahead (take_all k groups l) p.ahead

-- ---- keys
pub upto_more : (n : ℕ) → upto (n + 1) ≡ upto n ++ n ∷ []
upto_more n = by n 0 ∙ ap (λ (i : ℕ). upto n ++ i ∷ []) (let e : 0 + n ≡ n = omega arith in e)
  where
    by : (n a : ℕ) → range_with_len a (n + 1) ≡ range_with_len a n ++ (a + n) ∷ []
    by zero a = ap (λ (i : ℕ). i ∷ []) (let e : a ≡ a + 0 = omega arith in e)
    by (suc n) a = ap (range_with_len a) (let e : suc n + 1 ≡ suc (n + 1) = omega arith in e) ∙ ap (λ is. a ∷ is) (by n (a + 1)) ∙ ap (λ (i : ℕ). (a ∷ range_with_len (a + 1) n) ++ i ∷ []) (let e : a + 1 + n ≡ a + suc n = omega arith in e)

pub keys_more : (groups : List (List ℕ)) (keys : List ℕ) (k key : ℕ) → keys ≡ map (key_of groups) (upto k) → key ≡ key_of groups k → keys ++ key ∷ [] ≡ map (key_of groups) (upto (k + 1))
keys_more groups keys k key e f =
    ap₂ (λ (xs : List ℕ) (x : ℕ). xs ++ x ∷ []) e f ∙ sym (map-append (key_of groups) (upto k) (k ∷ [])) ∙ ap (map (key_of groups)) (sym (upto_more k))

-- ---- copies
pub length-concat : (gs : List (List ℕ)) → length (concat gs) ≡ sum_by length gs
length-concat [] = refl
length-concat (g ∷ gs) = let a = length-append g (concat gs) in let s = sum_by-cons length g gs in let r = length-concat gs in omega arith

concat-push : (gs : List (List ℕ)) (g : List ℕ) → concat (gs ++ g ∷ []) ≡ concat gs ++ g
concat-push [] g = append-nil g
concat-push (h ∷ gs) g = ap (λ (xs : List ℕ). h ++ xs) (concat-push gs g) ∙ sym (append_assoc h (concat gs) g)

pub flat_none : (groups : List (List ℕ)) (keys rows ends : List ℕ) → rows ≡ [] → ends ≡ [] → IsFlat rows ends (map (group_at groups) (take 0 keys))
unfolding ends_of
flat_none groups keys rows ends e f = record { laid = e; cuts = f }

module _ (groups : List (List ℕ)) (keys rows ends : List ℕ) (i : ℕ) (l : i < length keys) (p : IsFlat rows ends (map (group_at groups) (take i keys))) where
  so_far : length rows ≡ sum_by (λ key. length (group_at groups key)) (take i keys)
  so_far = ap length p.laid ∙ length-concat (map (group_at groups) (take i keys)) ∙ sum_by-map length (group_at groups) (take i keys)

  pub copied_short : sum_by (λ key. length (group_at groups key)) keys ≤ MOST_ROWS → length rows + length (group_at groups (get_or keys i 0)) ≤ MOST_ROWS
  copied_short short = let e = so_far in let m = sum_by_more_le (λ key. length (group_at groups key)) keys i 0 l in omega arith

  pub flat_more : (rows_after ends_after : List ℕ) (made : ℕ) → made ≡ length rows → rows_after ≡ rows ++ group_at groups (get_or keys i 0) → ends_after ≡ ends ++ (made + length (group_at groups (get_or keys i 0))) ∷ []
      → IsFlat rows_after ends_after (map (group_at groups) (take (i + 1) keys))
  flat_more rows_after ends_after made m er ee =
      let g : List ℕ = group_at groups (get_or keys i 0) in
      let more : map (group_at groups) (take (i + 1) keys) ≡ map (group_at groups) (take i keys) ++ g ∷ [] = ap (map (group_at groups)) (take_more keys i 0 l) ∙ map-append (group_at groups) (take i keys) (get_or keys i 0 ∷ []) in
      record {
        laid = er ∙ ap (λ (xs : List ℕ). xs ++ g) p.laid ∙ sym (concat-push (map (group_at groups) (take i keys)) g) ∙ ap concat (sym more);
        cuts = ee ∙ ap₂ (λ (xs : List ℕ) (n : ℕ). xs ++ (n + length g) ∷ []) p.cuts (m ∙ ap length p.laid ∙ (let e : length (concat (map (group_at groups) (take i keys))) ≡ 0 + length (concat (map (group_at groups) (take i keys))) = omega arith in e))
            ∙ sym (ends_of-append 0 (map (group_at groups) (take i keys)) g) ∙ ap (ends_of 0) (sym more);
      }

pub flat_all : (groups : List (List ℕ)) (keys rows ends : List ℕ) (i : ℕ) → length keys ≤ i → IsFlat rows ends (map (group_at groups) (take i keys)) → IsFlat rows ends (map (group_at groups) keys)
flat_all groups keys rows ends i l p = subst (λ (ks : List ℕ). IsFlat rows ends (map (group_at groups) ks)) (take_all i keys l) p
