-- The parts by codes of the groups of a partition, put in order, are a finer partition.
use Rattle.std.proofs.Common.{inl, inr, ◌≡◌, ◌≢◌, ℕ, zero, suc, ◌+◌, ◌-◌, ◌<◌, ◌≤◌, Bool, true, false, cond, ◌&&◌, eqb, ltb, leb, refl, sym, ap, ap₂, ◌∙◌, subst, arith, List, [], ◌∷◌, ◌++◌, length, get_or, map, take, drop, zip}
use Rattle.std.specs.List.{filter, flat_map, concat, All, Contains}
use Rattle.std.proofs.lemmas.Bool.{leb-true, and_parts, cases_lt, cases_eq}
use Rattle.std.proofs.lemmas.List.{take-map, drop-map, take-append-drop, get_or_default, get_or_past}
use Rattle.std.proofs.lemmas.List.Concat.{concat_is}
use Rattle.col_set.specs.ColSet.{with, union}
use Rattle.col_set.specs.Lists.{Listed, Listed-filter_parts, Listed-map, Listed-map_which, Listed-flat_map, Listed-flat_map_which}
use Rattle.col_set.proofs.Places.{Contains-listed, Listed-contained, Listed-get_or}
use Rattle.rel_base.specs.CodeTable.{CodeTable, code_at}
use Rattle.rel_base.specs.Shows.{live_numbers}
use Rattle.rel_base.proofs.States.{All-from, All-listed}
use Rattle.stripped_partition.specs.Groups.{cut, EndsRise, IsCut, IsFlat}
use Rattle.stripped_partition.specs.Stripped.{group_of, grouped, agree_on, stripped, IsPartitionOf}
use Rattle.stripped_partition.specs.Order.{Apart, IsInOrder}
use Rattle.stripped_partition.specs.AnyOrder.{IsReordered, AreGroupsBy, AreGroupsOf}
use Rattle.stripped_partition.specs.Splits.{firsts, rows_with, repeated_codes, parts}
use Rattle.stripped_partition.specs.Codes.{IsRecoded, IsTable}
use Rattle.stripped_partition.proofs.Grouped.{Ahead-Apart, group_apart, same_ahead}
use Rattle.stripped_partition.proofs.Firsts.{with_code, repeated, code_parts}
use Rattle.stripped_partition.proofs.Splitting.{Splits, split_are}
use Rattle.stripped_partition.proofs.Agreeing.{code_agree-parts, code_agree-from, agree_same, agree_on-with_parts, agree_on-with, agree_on-union_parts, agree_on-union}
use Rattle.stripped_partition.proofs.Live.{Climbs-live, live_within}
use Rattle.stripped_partition.proofs.Cuts.{length-cut, sum-cut}
use Rattle.stripped_partition.proofs.PlacingStep.{long_pairs}
use Rattle.stripped_partition.proofs.Dependencies.{in_group, stripped-parts, stripped_itself, Ahead-stripped, together}
use Rattle.stripped_partition.proofs.Flat.{flat-cut, flat-rise, all_parts-length}
use Rattle.stripped_partition.proofs.Ordering.{apart_at}

-- ---- rows with their codes
coded : (ℕ → ℕ) → List ℕ → List (ℕ × ℕ)
coded code rows = map (λ i. (i, code i)) rows

zip-coded : (code : ℕ → ℕ) (rows : List ℕ) → zip rows (map code rows) ≡ map (λ i. (i, code i)) rows
zip-coded code [] = refl
zip-coded code (i ∷ rows) = ap (λ (es : List (ℕ × ℕ)). (i, code i) ∷ es) (zip-coded code rows)

map-map : {X Y Z : Type 0} (f : Y → Z) (g : X → Y) (xs : List X) → map f (map g xs) ≡ map (λ x. f (g x)) xs
map-map f g [] = refl
map-map f g (x ∷ xs) = ap (λ ys. f (g x) ∷ ys) (map-map f g xs)

map-same : {X : Type 0} (f g : ℕ → X) (xs : List ℕ) → ((x : ℕ) → f x ≡ g x) → map f xs ≡ map g xs
map-same f g [] e = refl
map-same f g (x ∷ xs) e = ap₂ (λ y ys. y ∷ ys) (e x) (map-same f g xs e)

filter-same : (p q : ℕ → Bool) (xs : List ℕ) → ((x : ℕ) → p x ≡ q x) → filter p xs ≡ filter q xs
filter-same p q [] e = refl
filter-same p q (x ∷ xs) e = ap₂ (λ b ys. cond b (x ∷ ys) ys) (e x) (filter-same p q xs e)

rows_with-coded : (code : ℕ → ℕ) (rows : List ℕ) (c : ℕ) → rows_with (map (λ i. (i, code i)) rows) c ≡ with_code code rows c
unfolding rows_with
rows_with-coded code [] c = refl
rows_with-coded code (i ∷ rows) c = by (eqb (code i) c) (rows_with-coded code rows c)
  where
    by : (b : Bool) → map (λ (e : ℕ × ℕ). e.0) (filter (λ (e : ℕ × ℕ). eqb e.1 c) (map (λ i. (i, code i)) rows)) ≡ with_code code rows c
        → map (λ (e : ℕ × ℕ). e.0) (cond b ((i, code i) ∷ filter (λ (e : ℕ × ℕ). eqb e.1 c) (map (λ i. (i, code i)) rows)) (filter (λ (e : ℕ × ℕ). eqb e.1 c) (map (λ i. (i, code i)) rows))) ≡ cond b (i ∷ with_code code rows c) (with_code code rows c)
    by true e = ap (λ (xs : List ℕ). i ∷ xs) e
    by false e = e

repeated-coded : (code : ℕ → ℕ) (bound : ℕ) (rows : List ℕ) → repeated_codes bound (map (λ i. (i, code i)) rows) ≡ repeated code bound rows
unfolding repeated_codes repeated
repeated-coded code bound rows =
    ap (λ (cs : List ℕ). filter (λ c. ltb c bound && leb 2 (length (rows_with (map (λ i. (i, code i)) rows) c))) (firsts cs)) (map-map (λ (e : ℕ × ℕ). e.1) (λ i. (i, code i)) rows)
    ∙ filter-same _ _ (firsts (map code rows)) (λ c. ap (λ (xs : List ℕ). ltb c bound && leb 2 (length xs)) (rows_with-coded code rows c))

parts-coded : (code : ℕ → ℕ) (bound : ℕ) (rows : List ℕ) → parts bound (map (λ i. (i, code i)) rows) ≡ code_parts code bound rows
unfolding parts code_parts
parts-coded code bound rows = ap (map (rows_with (map (λ i. (i, code i)) rows))) (repeated-coded code bound rows) ∙ map-same _ _ (repeated code bound rows) (rows_with-coded code rows)

cut-map : {X Y : Type 0} (f : X → Y) (start : ℕ) (rows : List X) (ends : List ℕ) → cut start (map f rows) ends ≡ map (map f) (cut start rows ends)
unfolding cut
cut-map f start rows [] = refl
cut-map f start rows (end ∷ ends) = ap₂ (λ g gs. g ∷ gs) (ap (take (end - start)) (drop-map f start rows) ∙ take-map f (end - start) (drop start rows)) (cut-map f end rows ends)

flat-coded : (code : ℕ → ℕ) (bound : ℕ) (gs : List (List ℕ)) → flat_map (parts bound) (map (map (λ i. (i, code i))) gs) ≡ flat_map (code_parts code bound) gs
flat-coded code bound [] = refl
flat-coded code bound (g ∷ gs) = ap₂ (λ (xs ys : List (List ℕ)). xs ++ ys) (parts-coded code bound g) (flat-coded code bound gs)

pub parts_are : (code : ℕ → ℕ) (bound : ℕ) (rows codes ends : List ℕ) → codes ≡ map code rows → flat_map (parts bound) (cut 0 (zip rows codes) ends) ≡ flat_map (code_parts code bound) (cut 0 rows ends)
parts_are code bound rows codes ends is =
    ap (λ (cs : List ℕ). flat_map (parts bound) (cut 0 (zip rows cs) ends)) is
    ∙ ap (λ (es : List (ℕ × ℕ)). flat_map (parts bound) (cut 0 es ends)) (zip-coded code rows)
    ∙ ap (flat_map (parts bound)) (cut-map (λ i. (i, code i)) 0 rows ends)
    ∙ flat-coded code bound (cut 0 rows ends)

-- ---- what is split is cut
parts_two : (bound : ℕ) (es : List (ℕ × ℕ)) (g : List ℕ) → Listed g (parts bound es) → 2 ≤ length g
unfolding parts repeated_codes
parts_two bound es g h =
    let w = Listed-map_which (rows_with es) g (repeated_codes bound es) h in
    let v = Listed-filter_parts (λ c. ltb c bound && leb 2 (length (rows_with es c))) w.0 (firsts (map (λ (e : ℕ × ℕ). e.1) es)) w.1 in
    subst (λ (x : List ℕ). 2 ≤ length x) (sym w.2) (leb-true 2 _ (and_parts (ltb w.0 bound) (leb 2 (length (rows_with es w.0))) v.1).1)

pub split_cut : (bound : ℕ) (rows codes ends made_rows made_ends : List ℕ) → IsCut rows ends → length codes ≡ length rows → IsFlat made_rows made_ends (flat_map (parts bound) (cut 0 (zip rows codes) ends)) → IsCut made_rows made_ends
split_cut bound rows codes ends made_rows made_ends is same flat =
    let n = long_pairs rows codes same in
    let s = sum-cut 0 (zip rows codes) ends (subst (λ (m : ℕ). EndsRise 0 m ends) (sym n) is.rise) in
    let l = all_parts-length bound (cut 0 (zip rows codes) ends) in
    let e = ap length flat.laid in let m = is.short in
    flat-rise made_rows made_ends (flat_map (parts bound) (cut 0 (zip rows codes) ends)) flat
    (λ g h. let w = Listed-flat_map_which (parts bound) g (cut 0 (zip rows codes) ends) h in let t = parts_two bound w.0 g w.2 in omega arith) (omega arith)

-- ---- the rows of groups
concat_from : (start : ℕ) (rows ends : List ℕ) → EndsRise start (length rows) ends → start ≤ length rows → concat (cut start rows ends) ≡ drop start rows
unfolding cut
concat_from start rows [] r l = sym (drop_end start rows (let e : length rows ≤ start = omega arith in e))
  where
    drop_end : (n : ℕ) (xs : List ℕ) → length xs ≤ n → drop n xs ≡ []
    drop_end zero [] m = refl
    drop_end zero (x ∷ xs) m = absurd (omega arith)
    drop_end (suc n) [] m = refl
    drop_end (suc n) (x ∷ xs) m = drop_end n xs (omega arith)
concat_from start rows (end ∷ ends) r l =
    ap (λ (xs : List ℕ). take (end - start) (drop start rows) ++ xs) (concat_from end rows ends r.1 (within end ends r.1) ∙ shifted)
    ∙ take-append-drop (end - start) (drop start rows)
  where
    within : (from : ℕ) (es : List ℕ) → EndsRise from (length rows) es → from ≤ length rows
    within from [] q = omega arith
    within from (e ∷ es) q = let w = within e es q.1 in let a = q.0 in omega arith

    dropped : (m n : ℕ) (xs : List ℕ) → drop (m + n) xs ≡ drop n (drop m xs)
    dropped zero n xs = ap (λ (k : ℕ). drop k xs) (let e : 0 + n ≡ n = omega arith in e)
    dropped (suc m) n [] = ap (λ (k : ℕ). drop k []) (let e : suc m + n ≡ suc (m + n) = omega arith in e) ∙ sym (none n)
      where
        none : (n : ℕ) → (let xs : List ℕ = [] in drop n xs ≡ [])
        none zero = refl
        none (suc n) = refl
    dropped (suc m) n (x ∷ xs) = ap (λ (k : ℕ). drop k (x ∷ xs)) (let e : suc m + n ≡ suc (m + n) = omega arith in e) ∙ dropped m n xs

    shifted : drop end rows ≡ drop (end - start) (drop start rows)
    shifted = ap (λ (k : ℕ). drop k rows) (let a = r.0 in let e : end ≡ start + (end - start) = omega arith in e) ∙ dropped start (end - start) rows

pub concat_cut : (rows ends : List ℕ) → IsCut rows ends → concat (cut 0 rows ends) ≡ rows
concat_cut rows ends is = concat_from 0 rows ends is.rise (omega arith)

-- a row of a group that is cut is among the rows
pub cut_listed : (rows ends : List ℕ) → IsCut rows ends → (k : ℕ) → k < length ends → (i : ℕ) → Listed i (get_or (cut 0 rows ends) k []) → Listed i rows
cut_listed rows ends is k l i h = subst (Listed i) (concat_cut rows ends is) (subst (Listed i) (sym (concat_is (cut 0 rows ends)))
    (Listed-flat_map (λ (y : List ℕ). y) (get_or (cut 0 rows ends) k []) i (cut 0 rows ends) (Listed-get_or (cut 0 rows ends) k [] (let n = length-cut 0 rows ends in omega arith)) h))

-- the groups of a partition, in the order that the partition has
pub in_its_order : (s : CodeTable) (x : ℕ) (groups : List (List ℕ)) → groups ≡ stripped s x → AreGroupsBy s x groups
in_its_order s x groups e = subst (AreGroupsBy s x) (sym e) (stripped_itself s x)

pub partition_groups : (s : CodeTable) (groups : List (List ℕ)) → IsPartitionOf s groups → AreGroupsOf s groups
partition_groups s groups of = record { columns = of.columns; are = in_its_order s of.columns groups of.is }

-- groups that are put in order
pub put_in_order : (s : CodeTable) (x : ℕ) (groups new : List (List ℕ)) → AreGroupsBy s x groups → IsInOrder groups new → new ≡ stripped s x
put_in_order s x groups new are order =
    same_ahead new (stripped s x) (order.ahead are.apart) (Ahead-stripped s x) (λ g h. are.only g (order.only g h)) (λ g h. order.kept g (are.kept g h))

module _ (s : CodeTable) (x : ℕ) (rows ends : List ℕ) (is : IsCut rows ends) (of : AreGroupsBy s x (cut 0 rows ends)) where
  -- a row of a group is among the rows
  pub row_listed : (g : List ℕ) (i : ℕ) → Listed g (stripped s x) → Listed i g → Listed i rows
  row_listed g i h l = subst (Listed i) (concat_cut rows ends is) (subst (Listed i) (sym (concat_is (cut 0 rows ends))) (Listed-flat_map (λ (y : List ℕ). y) g i (cut 0 rows ends) (of.kept g h) l))

  -- each row is live
  pub rows_given : All (λ (row : ℕ). row < s.to) rows
  rows_given = All-from (λ (row : ℕ). row < s.to) rows (λ i h.
      let w = Listed-flat_map_which (λ (y : List ℕ). y) i (cut 0 rows ends) (subst (Listed i) (concat_is (cut 0 rows ends)) (subst (Listed i) (sym (concat_cut rows ends is)) h)) in
      let t = together s x w.0 i i (of.only w.0 w.1) w.2 w.2 in
      (live_within s i t.0).1)

  -- what is split by codes that tell the finer relation from this one
  pub finer_are : (z : ℕ) (code : ℕ → ℕ) (bound : ℕ) (codes made_rows made_ends : List ℕ) → Splits (agree_on s x) (agree_on s z) (live_numbers s) code bound
      → codes ≡ map code rows → IsFlat made_rows made_ends (flat_map (parts bound) (cut 0 (zip rows codes) ends)) → AreGroupsBy s z (cut 0 made_rows made_ends)
  unfolding stripped
  finer_are z code bound codes made_rows made_ends by coded flat =
      let e : cut 0 made_rows made_ends ≡ flat_map (code_parts code bound) (cut 0 rows ends) = flat-cut made_rows made_ends _ flat ∙ parts_are code bound rows codes ends coded in
      subst (λ (gs : List (List ℕ)). IsReordered (grouped (agree_on s z) (live_numbers s)) gs) (sym e)
      (split_are (agree_on s x) (agree_on s z) (live_numbers s) code bound (agree_same s x) (agree_same s z) (Climbs-live s) by (cut 0 rows ends) of)

  -- ---- one more column
  module _ (a : ℕ) (wide : a < length s.codes) (codes new_codes : List ℕ) (bound : ℕ) (gathered : codes ≡ map (λ row. code_at s row a) rows) (r : IsRecoded codes new_codes bound) where
    code_of : ℕ → ℕ
    code_of i = r.recode (code_at s i a)

    row_coded : (i : ℕ) → Listed i rows → Contains codes (code_at s i a)
    row_coded i h = Contains-listed (code_at s i a) codes (subst (Listed (code_at s i a)) (sym gathered) (Listed-map (λ row. code_at s row a) i rows h))

    both_listed : (i j : ℕ) → Listed i (live_numbers s) → Listed j (live_numbers s) → i ≢ j → agree_on s x i j ≡ true → Listed i rows × Listed j rows
    both_listed i j h g ne e = let w = in_group s x i j h g ne e in (row_listed _ i w.0 w.1, row_listed _ j w.0 w.2)

    column_splits : Splits (agree_on s x) (agree_on s (with x a)) (live_numbers s) (λ i. r.recode (code_at s i a)) bound
    column_splits = record {
      finer = λ i j e. (agree_on-with_parts s x a i j e).0;
      tells = λ i j h g ne e. let w = agree_on-with_parts s x a i j e in let l = both_listed i j h g ne w.0 in
          (ap r.recode (code_agree-parts s i j a w.1).1, All-listed (λ (c : ℕ). r.recode c < bound) (code_at s i a) codes r.below (Listed-contained (code_at s i a) codes (row_coded i l.0)));
      told = λ i j h g ne e same l. let m = both_listed i j h g ne e in
          agree_on-with s x a i j e (code_agree-from s i j a wide (r.apart (code_at s i a) (code_at s j a) (row_coded i m.0) (row_coded j m.1) same));
    }

    pub refined : (made_rows made_ends : List ℕ) → IsFlat made_rows made_ends (flat_map (parts bound) (cut 0 (zip rows new_codes) ends)) → AreGroupsBy s (with x a) (cut 0 made_rows made_ends)
    refined made_rows made_ends flat =
        finer_are (with x a) (λ i. r.recode (code_at s i a)) bound new_codes made_rows made_ends column_splits
        (r.is ∙ ap (map r.recode) gathered ∙ map-map r.recode (λ row. code_at s row a) rows) flat

  -- ---- the columns of another partition
  module _ (y : ℕ) (none : ℕ) (table : List ℕ) (groups : List (List ℕ)) (other : groups ≡ stripped s y) (few : length groups ≤ none) (t : IsTable groups table) where
    place : ℕ → ℕ
    place i = get_or table i none

    in_table : (i : ℕ) → get_or table i none < length groups → i < length table
    in_table i l = elim (cases_lt i (length table)) as (λ _. i < length table) [ inl m ↦ m | inr m ↦ absurd (let e = get_or_past table i none m in omega arith) ]

    -- a row stands in the group of its place
    at_place : (i : ℕ) → get_or table i none < length groups → Listed i (get_or groups (get_or table i none) [])
    at_place i l =
        let m = in_table i l in let e = get_or_default table i none 0 m in
        subst (λ (n : ℕ). Listed i (get_or groups n [])) (sym e) (t.only i m (omega arith))

    same_place : (p q : ℕ) → p < length groups → q < length groups → get_or groups p [] ≡ get_or groups q [] → p ≡ q
    same_place p q l m e = elim (cases_eq p q) as (λ _. p ≡ q) [
      | inl i ↦ i
      | inr ne ↦ absurd (apart_at groups (subst Apart (sym other) (Ahead-Apart (stripped s y) (Ahead-stripped s y))) p q l m ne (ap (λ (g : List ℕ). get_or g 0 0) e))
    ]

    -- a row of a group has its place
    group_place : (g : List ℕ) (i : ℕ) → Listed g groups → Listed i g → (get_or table i none < length groups) × (get_or groups (get_or table i none) [] ≡ g)
    group_place g i h l =
        let w = t.kept g i h l in
        let e = get_or_default table i none 0 w.0 in
        let m : get_or table i none < length groups = (let b = w.1 in omega arith) in
        let at = at_place i m in (
          m,
          group_apart (agree_on s y) (agree_same s y) (live_numbers s) (get_or groups (get_or table i none) []) g i
              (stripped-parts s y (get_or groups (get_or table i none) []) (subst (Listed (get_or groups (get_or table i none) [])) other (Listed-get_or groups (get_or table i none) [] m)))
              (stripped-parts s y g (subst (Listed g) other h)) at l,
        )

    table_splits : Splits (agree_on s x) (agree_on s (union x y)) (live_numbers s) (λ i. get_or table i none) (length groups)
    table_splits = record {
      finer = λ i j e. (agree_on-union_parts s x y i j e).0;
      tells = λ i j h g ne e.
          let w = in_group s y i j h g ne (agree_on-union_parts s x y i j e).1 in
          let b = subst (Listed (group_of (agree_on s y) (live_numbers s) i)) (sym other) w.0 in
          let p = group_place (group_of (agree_on s y) (live_numbers s) i) i b w.1 in
          let q = group_place (group_of (agree_on s y) (live_numbers s) i) j b w.2 in
          (same_place (get_or table i none) (get_or table j none) p.0 q.0 (p.1 ∙ sym q.1), p.0);
      told = λ i j h g ne e same l.
          let m : Listed j (get_or groups (get_or table i none) []) = subst (λ (n : ℕ). Listed j (get_or groups n [])) (sym same) (at_place j (subst (λ (n : ℕ). n < length groups) same l)) in
          agree_on-union s x y i j e (together s y (get_or groups (get_or table i none) []) i j (subst (Listed (get_or groups (get_or table i none) [])) other (Listed-get_or groups (get_or table i none) [] l)) (at_place i l) m).2;
    }

    pub multiplied : (places made_rows made_ends : List ℕ) → places ≡ map (λ row. get_or table row none) rows
        → IsFlat made_rows made_ends (flat_map (parts (length groups)) (cut 0 (zip rows places) ends)) → AreGroupsBy s (union x y) (cut 0 made_rows made_ends)
    multiplied places made_rows made_ends gathered flat =
        finer_are (union x y) (λ i. get_or table i none) (length groups) places made_rows made_ends table_splits gathered flat

-- what is split is the same where rows, ends and codes are
pub same_flat : (bound : ℕ) (rows rows_read ends ends_read codes codes_read made_rows made_ends : List ℕ) → rows_read ≡ rows → ends_read ≡ ends → codes_read ≡ codes
    → IsFlat made_rows made_ends (flat_map (parts bound) (cut 0 (zip rows_read codes_read) ends_read)) → IsFlat made_rows made_ends (flat_map (parts bound) (cut 0 (zip rows codes) ends))
same_flat bound rows rows_read ends ends_read codes codes_read made_rows made_ends r e c flat =
    subst (IsFlat made_rows made_ends)
    (ap₂ (λ (rs cs : List ℕ). flat_map (parts bound) (cut 0 (zip rs cs) ends_read)) r c ∙ ap (λ (es : List ℕ). flat_map (parts bound) (cut 0 (zip rows codes) es)) e) flat
