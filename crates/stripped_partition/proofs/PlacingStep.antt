-- One row after another is put into the part of its code.
use Rattle.std.proofs.Common.{inl, inr, ◌≡◌, ◌≢◌, ◌⊎◌, ℕ, zero, suc, ◌+◌, ◌-◌, ◌^◌, ◌<◌, ◌≤◌, Bool, false, cond, ◌&&◌, eqb, ltb, leb, refl, sym, ap, ap₂, ◌∙◌, subst, arith, List, [], ◌∷◌, ◌++◌, length, get_or, set, replicate, map, append_assoc, append-nil, count_by, take, drop, zip}
use Rattle.std.specs.List.{filter, flat_map, concat}
use Rattle.std.proofs.lemmas.Bool.{true≢false, ltb-true, lt-ltb, leb-true, le-leb, le-ltb, lt-leb, cases_eq, cases_lt, and_parts, and_from, and_left, and_right}
use Rattle.std.proofs.lemmas.Slice.Zip.{length-zip, get_or-zip}
use Rattle.std.proofs.lemmas.List.{take_more, drop_more, take-append-drop, length-append, length-replicate, length-set, map-append, get_or-set_same, get_or-set_other}
use Rattle.std.proofs.lemmas.List.Elements.{filter-append}
use Rattle.std.proofs.lemmas.List.Concat.{flat_map-append}
use Rattle.col_set.specs.Lists.{Listed, Listed-append_left, Listed-append_right, Listed-append_cases, Listed-filter, Listed-filter_parts}
use Rattle.stripped_partition.specs.Groups.{ends_of}
use Rattle.stripped_partition.specs.Splits.{firsts, rows_with, repeated_codes, parts, Places}
use Rattle.stripped_partition.proofs.Firsts.{Once, Once-filter, Once-firsts, Listed-firsts, firsts-listed}
use Rattle.stripped_partition.proofs.Errors.{Once-append}
use Rattle.stripped_partition.proofs.Counts.{length-with}
use Rattle.stripped_partition.proofs.Placing.{listed_or, firsts-old, firsts-new, rows_with-append, rows_with-one, rows_with-other, rows_with-nil, rows_with-push, rows_with-push_other, rows_with-none, offset, offset-append_old, offset-append_new, offset-within, set-flat}

-- ---- ends
pub ends_of-append : (start : ℕ) (gs : List (List ℕ)) (g : List ℕ) → ends_of start (gs ++ g ∷ []) ≡ ends_of start gs ++ (start + length (concat gs) + length g) ∷ []
unfolding ends_of
ends_of-append start [] g = ap (λ (n : ℕ). n ∷ []) (let e : start + length g ≡ start + 0 + length g = omega arith in e)
ends_of-append start (h ∷ gs) g =
    ap (λ ns. (start + length h) ∷ ns) (ends_of-append (start + length h) gs g
    ∙ ap (λ (n : ℕ). ends_of (start + length h) gs ++ n ∷ []) (let e = length-append h (concat gs) in let d : start + length h + length (concat gs) + length g ≡ start + length (h ++ concat gs) + length g = omega arith in d))

same_flat : (F G : ℕ → List ℕ) (ds : List ℕ) → ((d : ℕ) → Listed d ds → F d ≡ G d) → flat_map F ds ≡ flat_map G ds
same_flat F G [] f = refl
same_flat F G (d ∷ ds) f = ap₂ (λ (xs ys : List ℕ). xs ++ ys) (f d (inl refl)) (same_flat F G ds (λ b h. f b (inr h)))

same_total : (F G : ℕ → List ℕ) (ds : List ℕ) → ((d : ℕ) → Listed d ds → length (F d) ≡ length (G d)) → length (flat_map F ds) ≡ length (concat (map G ds))
same_total F G [] f = refl
same_total F G (d ∷ ds) f =
    let a = length-append (F d) (flat_map F ds) in let b = length-append (G d) (concat (map G ds)) in
    let e = f d (inl refl) in let r = same_total F G ds (λ b h. f b (inr h)) in omega arith

flat_concat : (F : ℕ → List ℕ) (ds : List ℕ) → flat_map F ds ≡ concat (map F ds)
flat_concat F [] = refl
flat_concat F (d ∷ ds) = ap (λ (xs : List ℕ). F d ++ xs) (flat_concat F ds)

-- ---- the state
-- how many rows have a code
abbrev pub size : List (ℕ × ℕ) → ℕ → ℕ
size all c = length (rows_with all c)

module _ (all : List (ℕ × ℕ)) (bound : ℕ) where
  -- whether a code makes a part
  abbrev pub opens : ℕ → Bool
  opens c = ltb c bound && leb 2 (size all c)

  -- the codes whose parts were begun
  pub opened : List (ℕ × ℕ) → List ℕ
  opened seen = filter opens (firsts (map (λ (e : ℕ × ℕ). e.1) seen))

  -- a part of which the rows so far were seen
  pub filled : List (ℕ × ℕ) → ℕ → List ℕ
  filled seen c = rows_with seen c ++ replicate (size all c - length (rows_with seen c)) (get_or (rows_with all c) 0 0)

pub record Placing (all : List (ℕ × ℕ)) (bound : ℕ) (before ends_before rows ends slots : List ℕ) (seen : List (ℕ × ℕ)) : Type 0 where
  pub laid : rows ≡ before ++ flat_map (filled all bound seen) (opened all bound seen)
  pub cuts : ends ≡ ends_before ++ ends_of (length before) (map (rows_with all) (opened all bound seen))
  pub long : length slots ≡ bound
  pub begun : (c : ℕ) → c < bound → Listed c (opened all bound seen) → get_or slots c 0 ≡ 2 ^ 31 + (length before + (offset (size all) (opened all bound seen) c + length (rows_with seen c)))
  pub counted : (c : ℕ) → c < bound → (Listed c (opened all bound seen) → ⊥) → get_or slots c 0 ≡ size all c

module _ (all : List (ℕ × ℕ)) (bound : ℕ) where
  codes : List (ℕ × ℕ) → List ℕ
  codes seen = map (λ (e : ℕ × ℕ). e.1) seen

  opened-parts : (seen : List (ℕ × ℕ)) (c : ℕ) → Listed c (opened all bound seen) → (c < bound) × (2 ≤ size all c) × Listed c (map (λ (e : ℕ × ℕ). e.1) seen)
  unfolding opened
  opened-parts seen c h =
      let w = Listed-filter_parts (opens all bound) c (firsts (map (λ (e : ℕ × ℕ). e.1) seen)) h in
      let v = and_parts (ltb c bound) (leb 2 (size all c)) w.1 in
      (ltb-true c bound v.0, leb-true 2 (size all c) v.1, firsts-listed c (map (λ (e : ℕ × ℕ). e.1) seen) w.0)

  Listed-opened : (seen : List (ℕ × ℕ)) (c : ℕ) → c < bound → 2 ≤ size all c → Listed c (map (λ (e : ℕ × ℕ). e.1) seen) → Listed c (opened all bound seen)
  unfolding opened
  Listed-opened seen c l two h =
      Listed-filter (opens all bound) c (firsts (map (λ (e : ℕ × ℕ). e.1) seen)) (Listed-firsts c (map (λ (e : ℕ × ℕ). e.1) seen) h) (and_from (ltb c bound) (leb 2 (size all c)) (lt-ltb c bound l) (le-leb 2 (size all c) two))

  pub Once-opened : (seen : List (ℕ × ℕ)) → Once (opened all bound seen)
  unfolding opened
  Once-opened seen = Once-filter (opens all bound) (firsts (map (λ (e : ℕ × ℕ). e.1) seen)) (Once-firsts (map (λ (e : ℕ × ℕ). e.1) seen))

  codes-push : (seen : List (ℕ × ℕ)) (e : ℕ × ℕ) → map (λ (e : ℕ × ℕ). e.1) (seen ++ e ∷ []) ≡ map (λ (e : ℕ × ℕ). e.1) seen ++ e.1 ∷ []
  codes-push seen e = map-append (λ (e : ℕ × ℕ). e.1) seen (e ∷ [])

  -- a code that was seen
  opened-old : (seen : List (ℕ × ℕ)) (e : ℕ × ℕ) → Listed e.1 (map (λ (e : ℕ × ℕ). e.1) seen) → opened all bound (seen ++ e ∷ []) ≡ opened all bound seen
  unfolding opened
  opened-old seen e h = ap (filter (opens all bound)) (ap firsts (codes-push seen e) ∙ firsts-old (map (λ (e : ℕ × ℕ). e.1) seen) e.1 h)

  opened-first : (seen : List (ℕ × ℕ)) (e : ℕ × ℕ) → (Listed e.1 (map (λ (e : ℕ × ℕ). e.1) seen) → ⊥) → opened all bound (seen ++ e ∷ []) ≡ opened all bound seen ++ cond (opens all bound e.1) (e.1 ∷ []) []
  unfolding opened
  opened-first seen e out =
      ap (filter (opens all bound)) (ap firsts (codes-push seen e) ∙ firsts-new (map (λ (e : ℕ × ℕ). e.1) seen) e.1 out)
      ∙ filter-append (opens all bound) (firsts (map (λ (e : ℕ × ℕ). e.1) seen)) (e.1 ∷ [])

  -- a code that makes no part
  opened-none : (seen : List (ℕ × ℕ)) (e : ℕ × ℕ) → opens all bound e.1 ≡ false → opened all bound (seen ++ e ∷ []) ≡ opened all bound seen
  opened-none seen e f = elim (listed_or e.1 (map (λ (e : ℕ × ℕ). e.1) seen)) as (λ _. opened all bound (seen ++ e ∷ []) ≡ opened all bound seen) [
    | inl h ↦ opened-old seen e h
    | inr out ↦ opened-first seen e out ∙ ap (λ b. opened all bound seen ++ cond b (e.1 ∷ []) []) f ∙ append-nil _
  ]

  -- ---- sizes
  size-split : (seen rest : List (ℕ × ℕ)) (c : ℕ) → all ≡ seen ++ rest → size all c ≡ length (rows_with seen c) + length (rows_with rest c)
  size-split seen rest c is = ap length (ap (λ (es : List (ℕ × ℕ)). rows_with es c) is ∙ rows_with-append seen rest c) ∙ length-append (rows_with seen c) (rows_with rest c)

  pub length-filled : (seen rest : List (ℕ × ℕ)) (c : ℕ) → all ≡ seen ++ rest → length (filled all bound seen c) ≡ size all c
  unfolding filled
  length-filled seen rest c is =
      let s = size-split seen rest c is in
      let a = length-append (rows_with seen c) (replicate (size all c - length (rows_with seen c)) (get_or (rows_with all c) 0 0)) in
      let r = length-replicate (size all c - length (rows_with seen c)) (get_or (rows_with all c) 0 0) in
      omega arith

  -- of the code of the next row, one row at least is still to come
  pub size-next : (seen rest : List (ℕ × ℕ)) (e : ℕ × ℕ) → all ≡ seen ++ e ∷ rest → suc (length (rows_with seen e.1)) ≤ size all e.1
  size-next seen rest e is =
      let eq : all ≡ (seen ++ e ∷ []) ++ rest = is ∙ sym (append_assoc seen (e ∷ []) rest) in
      let s = size-split (seen ++ e ∷ []) rest e.1 eq in
      let p = ap length (rows_with-push seen e) in
      let a = length-append (rows_with seen e.1) (e.0 ∷ []) in
      omega arith

  -- ---- one row more in its part
  set_next : (xs : List ℕ) (m f r : ℕ) → set (xs ++ replicate (suc m) f) (length xs) r ≡ (xs ++ r ∷ []) ++ replicate m f
  set_next [] m f r = refl
  set_next (x ∷ xs) m f r = ap (λ ys. x ∷ ys) (set_next xs m f r)

  filled-next : (seen rest : List (ℕ × ℕ)) (e : ℕ × ℕ) → all ≡ seen ++ e ∷ rest → filled all bound (seen ++ e ∷ []) e.1 ≡ set (filled all bound seen e.1) (length (rows_with seen e.1)) e.0
  unfolding filled
  filled-next seen rest e is =
      let l = size-next seen rest e is in
      let p = rows_with-push seen e in
      let lead : ℕ = get_or (rows_with all e.1) 0 0 in
      let m : ℕ = size all e.1 - length (rows_with (seen ++ e ∷ []) e.1) in
      let n = ap length p in
      let a = length-append (rows_with seen e.1) (e.0 ∷ []) in
      let eq : size all e.1 - length (rows_with seen e.1) ≡ suc m = omega arith in
      ap (λ (xs : List ℕ). xs ++ replicate m lead) p
      ∙ sym (ap (λ (n : ℕ). set (rows_with seen e.1 ++ replicate n lead) (length (rows_with seen e.1)) e.0) eq ∙ set_next (rows_with seen e.1) m lead e.0)

  filled-other : (seen : List (ℕ × ℕ)) (e : ℕ × ℕ) (c : ℕ) → (e.1 ≢ c) → filled all bound (seen ++ e ∷ []) c ≡ filled all bound seen c
  unfolding filled
  filled-other seen e c ne = ap (λ (xs : List ℕ). xs ++ replicate (size all c - length xs) (get_or (rows_with all c) 0 0)) (rows_with-push_other seen e c ne)

  -- the first row of a part
  filled-first : (seen rest : List (ℕ × ℕ)) (e : ℕ × ℕ) → all ≡ seen ++ e ∷ rest → (Listed e.1 (map (λ (e : ℕ × ℕ). e.1) seen) → ⊥) → filled all bound (seen ++ e ∷ []) e.1 ≡ replicate (size all e.1) e.0
  unfolding filled
  filled-first seen rest e is out =
      let none : rows_with seen e.1 ≡ [] = rows_with-none seen e.1 out in
      let one : rows_with (seen ++ e ∷ []) e.1 ≡ e.0 ∷ [] = rows_with-push seen e ∙ ap (λ (xs : List ℕ). xs ++ e.0 ∷ []) none in
      let eq : all ≡ (seen ++ e ∷ []) ++ rest = is ∙ sym (append_assoc seen (e ∷ []) rest) in
      let lead : get_or (rows_with all e.1) 0 0 ≡ e.0 = ap (λ (es : List (ℕ × ℕ)). get_or (rows_with es e.1) 0 0) eq ∙ ap (λ (xs : List ℕ). get_or xs 0 0) (rows_with-append (seen ++ e ∷ []) rest e.1 ∙ ap (λ (xs : List ℕ). xs ++ rows_with rest e.1) one) in
      let l = size-next seen rest e is in
      ap₂ (λ (xs : List ℕ) (f : ℕ). xs ++ replicate (size all e.1 - length xs) f) one lead
      ∙ from (size all e.1) (omega arith)
    where
      from : (n : ℕ) → 1 ≤ n → e.0 ∷ replicate (n - 1) e.0 ≡ replicate n e.0
      from zero l = absurd (omega arith)
      from (suc n) l = ap (λ (m : ℕ). e.0 ∷ replicate m e.0) (let d : suc n - 1 ≡ n = omega arith in d)

-- ---- the parts have no more rows than there are
one_more : (e : ℕ × ℕ) (es : List (ℕ × ℕ)) (cs : List ℕ) → Once cs → length (flat_map (rows_with (e ∷ es)) cs) ≤ suc (length (flat_map (rows_with es) cs))
one_more e es [] o = omega arith
one_more e es (c ∷ cs) o = by (cases_eq e.1 c) (one_more e es cs o.1)
  where
    by : (e.1 ≡ c) ⊎ (e.1 ≡ c → ⊥) → length (flat_map (rows_with (e ∷ es)) cs) ≤ suc (length (flat_map (rows_with es) cs)) → length (rows_with (e ∷ es) c ++ flat_map (rows_with (e ∷ es)) cs) ≤ suc (length (rows_with es c ++ flat_map (rows_with es) cs))
    by (inl i) r =
        let out : Listed e.1 cs → ⊥ = subst (λ (x : ℕ). Listed x cs → ⊥) (sym i) o.0 in
        let same = ap length (same_flat (rows_with (e ∷ es)) (rows_with es) cs (λ d h. rows_with-other e es d (λ j. out (subst (λ (x : ℕ). Listed x cs) (sym j) h)))) in
        let one : length (rows_with (e ∷ es) c) ≡ suc (length (rows_with es c)) = subst (λ (x : ℕ). length (rows_with (e ∷ es) x) ≡ suc (length (rows_with es x))) i (ap length (rows_with-one e es)) in
        let a = length-append (rows_with (e ∷ es) c) (flat_map (rows_with (e ∷ es)) cs) in
        let b = length-append (rows_with es c) (flat_map (rows_with es) cs) in
        omega arith
    by (inr ne) r =
        let one = ap length (rows_with-other e es c ne) in
        let a = length-append (rows_with (e ∷ es) c) (flat_map (rows_with (e ∷ es)) cs) in
        let b = length-append (rows_with es c) (flat_map (rows_with es) cs) in
        omega arith

pub few_rows : (es : List (ℕ × ℕ)) (cs : List ℕ) → Once cs → length (flat_map (rows_with es) cs) ≤ length es
few_rows [] cs o = none cs
  where
    none : (cs : List ℕ) → length (flat_map (rows_with []) cs) ≤ 0
    none [] = omega arith
    none (c ∷ cs) = let n = ap length (rows_with-nil c) in let a = length-append (rows_with [] c) (flat_map (rows_with []) cs) in let r = none cs in omega arith
few_rows (e ∷ es) cs o = let l = one_more e es cs o in let r = few_rows es cs o in omega arith

module _ (all : List (ℕ × ℕ)) (bound : ℕ) (before ends_before : List ℕ) where
  total : (seen rest : List (ℕ × ℕ)) → all ≡ seen ++ rest → length (flat_map (filled all bound seen) (opened all bound seen)) ≡ length (concat (map (rows_with all) (opened all bound seen)))
  total seen rest is = same_total (filled all bound seen) (rows_with all) (opened all bound seen) (λ d h. length-filled all bound seen rest d is)

  pub few : (seen rest : List (ℕ × ℕ)) → all ≡ seen ++ rest → length (flat_map (filled all bound seen) (opened all bound seen)) ≤ length all
  few seen rest is =
      let t = total seen rest is in
      let c = ap length (flat_concat (rows_with all) (opened all bound seen)) in
      let l = few_rows all (opened all bound seen) (Once-opened all bound seen) in omega arith

  module _ (rows ends slots : List ℕ) (seen rest : List (ℕ × ℕ)) (e : ℕ × ℕ) (is : all ≡ seen ++ e ∷ rest) (short : length all < 2 ^ 31) (p : Placing all bound before ends_before rows ends slots seen) where
    next : all ≡ (seen ++ e ∷ []) ++ rest
    next = is ∙ sym (append_assoc seen (e ∷ []) rest)

    size-short : (c : ℕ) → size all c ≤ length all
    size-short c = let l = few_rows all (c ∷ []) ((λ h. h), tt) in let a = length-append (rows_with all c) [] in omega arith

    -- whether the part of the next row was begun
    is_begun : e.1 < bound → 2 ^ 31 ≤ get_or slots e.1 0 → Listed e.1 (opened all bound seen)
    is_begun l g = elim (listed_or e.1 (opened all bound seen)) as (λ _. Listed e.1 (opened all bound seen)) [
      | inl h ↦ h
      | inr out ↦ absurd (let c = p.counted e.1 l out in let s = size-short e.1 in omega arith)
    ]

    not_begun : e.1 < bound → get_or slots e.1 0 < 2 ^ 31 → Listed e.1 (opened all bound seen) → ⊥
    not_begun l g h = let b = p.begun e.1 l h in omega arith

    long_rows : length rows ≡ length before + length (flat_map (filled all bound seen) (opened all bound seen))
    long_rows = ap length p.laid ∙ length-append before (flat_map (filled all bound seen) (opened all bound seen))

    -- a part that is begun now has room among all rows
    pub room : e.1 < length slots → get_or slots e.1 0 < 2 ^ 31 → length rows + get_or slots e.1 0 ≤ length before + length all
    room l g =
        let w = p.long in let b : e.1 < bound = omega arith in let out = not_begun b g in
        let c = p.counted e.1 b out in
        let t = total seen (e ∷ rest) is in
        let f = ap length (flat_concat (rows_with all) (opened all bound seen)) in
        let once = Once-append (opened all bound seen) (e.1 ∷ []) (Once-opened all bound seen) ((λ h. h), tt) (λ x h m. apart x h m out) in
        let m = few_rows all (opened all bound seen ++ e.1 ∷ []) once in
        let a = ap length (flat_map-append (rows_with all) (opened all bound seen) (e.1 ∷ [])) in
        let d = length-append (flat_map (rows_with all) (opened all bound seen)) (rows_with all e.1 ++ []) in
        let n = length-append (rows_with all e.1) [] in
        let r = long_rows in
        omega arith
      where
        apart : (x : ℕ) → Listed x (opened all bound seen) → Listed x (e.1 ∷ []) → (Listed e.1 (opened all bound seen) → ⊥) → ⊥
        apart x h (inl i) out = out (subst (λ (z : ℕ). Listed z (opened all bound seen)) i h)
        apart x h (inr m) out = m

    -- where the next row of a part goes
    place_is : e.1 < bound → 2 ^ 31 ≤ get_or slots e.1 0 → get_or slots e.1 0 - 2 ^ 31 ≡ length before + (offset (size all) (opened all bound seen) e.1 + length (rows_with seen e.1))
    place_is l g = let b = p.begun e.1 l (is_begun l g) in omega arith

    pub within : e.1 < length slots → 2 ^ 31 ≤ get_or slots e.1 0 → get_or slots e.1 0 - 2 ^ 31 < length rows
    within l g =
        let w = p.long in let b : e.1 < bound = omega arith in
        let at = place_is b g in
        let o = offset-within (size all) (filled all bound seen) (opened all bound seen) e.1 (λ d h. length-filled all bound seen (e ∷ rest) d is) (is_begun b g) in
        let n = size-next all bound seen rest e is in
        let r = long_rows in
        omega arith

    module _ (rows' ends' slots' : List ℕ) where
      -- the code makes no part, and nothing changes
      kept : opens all bound e.1 ≡ false → rows' ≡ rows → ends' ≡ ends → slots' ≡ slots → Placing all bound before ends_before rows' ends' slots' (seen ++ e ∷ [])
      kept f er ee es = record {
        laid = er ∙ p.laid ∙ ap (λ (xs : List ℕ). before ++ xs) (same_flat (filled all bound seen) (filled all bound (seen ++ e ∷ [])) (opened all bound seen) (λ d h. sym (filled-other all bound seen e d (other d h)))
            ∙ ap (λ (ds : List ℕ). flat_map (filled all bound (seen ++ e ∷ [])) ds) (sym same));
        cuts = ee ∙ p.cuts ∙ ap (λ (ds : List ℕ). ends_before ++ ends_of (length before) (map (rows_with all) ds)) (sym same);
        long = ap length es ∙ p.long;
        begun = λ c l h. let g : Listed c (opened all bound seen) = subst (Listed c) same h in
            ap (λ (xs : List ℕ). get_or xs c 0) es ∙ p.begun c l g
            ∙ ap₂ (λ (ds : List ℕ) (n : ℕ). 2 ^ 31 + (length before + (offset (size all) ds c + n))) (sym same) (ap length (sym (rows_with-push_other seen e c (other c g))));
        counted = λ c l h. ap (λ (xs : List ℕ). get_or xs c 0) es ∙ p.counted c l (λ g. h (subst (Listed c) (sym same) g));
      }
        where
          same : opened all bound (seen ++ e ∷ []) ≡ opened all bound seen
          same = opened-none all bound seen e f

          other : (d : ℕ) → Listed d (opened all bound seen) → (e.1 ≢ d)
          other d h i = let w = opened-parts all bound seen d h in
              true≢false (sym (and_from (ltb d bound) (leb 2 (size all d)) (lt-ltb d bound w.0) (le-leb 2 (size all d) w.1)) ∙ subst (λ (z : ℕ). opens all bound z ≡ false) i f)

      -- the first row of a part
      begin : e.1 < bound → 2 ≤ get_or slots e.1 0 → get_or slots e.1 0 < 2 ^ 31 → rows' ≡ rows ++ replicate (get_or slots e.1 0) e.0 → ends' ≡ ends ++ (length rows + get_or slots e.1 0) ∷ []
          → slots' ≡ set slots e.1 (2 ^ 31 + length rows + 1) → Placing all bound before ends_before rows' ends' slots' (seen ++ e ∷ [])
      begin l two g er ee es = record {
        laid = er ∙ ap (λ (n : ℕ). rows ++ replicate n e.0) slot ∙ ap (λ (xs : List ℕ). xs ++ replicate (size all e.1) e.0) p.laid ∙ append_assoc before _ _
            ∙ ap (λ (xs : List ℕ). before ++ xs) (ap₂ (λ (xs ys : List ℕ). xs ++ ys) (same_flat (filled all bound seen) (filled all bound (seen ++ e ∷ [])) (opened all bound seen) (λ d h. sym (filled-other all bound seen e d (other d h))))
            (sym (append-nil _ ∙ filled-first all bound seen rest e is fresh))
            ∙ sym (flat_map-append (filled all bound (seen ++ e ∷ [])) (opened all bound seen) (e.1 ∷ [])) ∙ ap (λ (ds : List ℕ). flat_map (filled all bound (seen ++ e ∷ [])) ds) (sym now));
        cuts = ee ∙ ap₂ (λ (xs : List ℕ) (n : ℕ). xs ++ n ∷ []) p.cuts end ∙ append_assoc ends_before _ _
            ∙ ap (λ (xs : List ℕ). ends_before ++ xs) (sym (ends_of-append (length before) (map (rows_with all) (opened all bound seen)) (rows_with all e.1))
            ∙ ap (ends_of (length before)) (sym (map-append (rows_with all) (opened all bound seen) (e.1 ∷ [])) ∙ ap (map (rows_with all)) (sym now)));
        long = ap length es ∙ length-set slots e.1 (2 ^ 31 + length rows + 1) ∙ p.long;
        begun = λ c m h. ap (λ (xs : List ℕ). get_or xs c 0) es ∙ by c m (cases_eq c e.1) (Listed-append_cases c (opened all bound seen) (e.1 ∷ []) (subst (Listed c) now h));
        counted = λ c m h. ap (λ (xs : List ℕ). get_or xs c 0) es
            ∙ get_or-set_other slots e.1 c (2 ^ 31 + length rows + 1) 0 (λ i. h (subst (Listed c) (sym now) (Listed-append_right c (opened all bound seen) (e.1 ∷ []) (inl i))))
            ∙ p.counted c m (λ k. h (subst (Listed c) (sym now) (Listed-append_left c (opened all bound seen) (e.1 ∷ []) k)));
      }
        where
          out : Listed e.1 (opened all bound seen) → ⊥
          out = not_begun l g

          slot : get_or slots e.1 0 ≡ size all e.1
          slot = p.counted e.1 l out

          fresh : Listed e.1 (map (λ (e : ℕ × ℕ). e.1) seen) → ⊥
          fresh h = out (Listed-opened all bound seen e.1 l (subst (λ (n : ℕ). 2 ≤ n) slot two) h)

          now : opened all bound (seen ++ e ∷ []) ≡ opened all bound seen ++ e.1 ∷ []
          now = opened-first all bound seen e fresh ∙ ap (λ b. opened all bound seen ++ cond b (e.1 ∷ []) []) (and_from (ltb e.1 bound) (leb 2 (size all e.1)) (lt-ltb e.1 bound l) (le-leb 2 (size all e.1) (subst (λ (n : ℕ). 2 ≤ n) slot two)))

          other : (d : ℕ) → Listed d (opened all bound seen) → (e.1 ≢ d)
          other d h i = out (subst (λ (z : ℕ). Listed z (opened all bound seen)) (sym i) h)

          end : length rows + get_or slots e.1 0 ≡ length before + length (concat (map (rows_with all) (opened all bound seen))) + length (rows_with all e.1)
          end = let r = long_rows in let t = total seen (e ∷ rest) is in let s = slot in omega arith

          by : (c : ℕ) → c < bound → (c ≡ e.1) ⊎ (c ≡ e.1 → ⊥) → Listed c (opened all bound seen) ⊎ Listed c (e.1 ∷ [])
              → get_or (set slots e.1 (2 ^ 31 + length rows + 1)) c 0 ≡ 2 ^ 31 + (length before + (offset (size all) (opened all bound (seen ++ e ∷ [])) c + length (rows_with (seen ++ e ∷ []) c)))
          by c m (inl i) k =
              let w = p.long in
              let at : get_or (set slots e.1 (2 ^ 31 + length rows + 1)) c 0 ≡ 2 ^ 31 + length rows + 1 = ap (λ (z : ℕ). get_or (set slots e.1 (2 ^ 31 + length rows + 1)) z 0) i ∙ get_or-set_same slots e.1 (2 ^ 31 + length rows + 1) 0 (omega arith) in
              let o : offset (size all) (opened all bound (seen ++ e ∷ [])) c ≡ length (flat_map (filled all bound seen) (opened all bound seen))
              = ap₂ (λ (ds : List ℕ) (z : ℕ). offset (size all) ds z) now i ∙ offset-append_new (size all) (filled all bound seen) (opened all bound seen) e.1 (λ d h. length-filled all bound seen (e ∷ rest) d is) out in
              let n : length (rows_with (seen ++ e ∷ []) c) ≡ 1
              = ap (λ (z : ℕ). length (rows_with (seen ++ e ∷ []) z)) i ∙ ap length (rows_with-push seen e ∙ ap (λ (xs : List ℕ). xs ++ e.0 ∷ []) (rows_with-none seen e.1 fresh)) in
              let r = long_rows in
              omega arith
          by c m (inr ne) (inl k) =
              get_or-set_other slots e.1 c (2 ^ 31 + length rows + 1) 0 ne
              ∙ p.begun c m k
              ∙ ap₂ (λ (o n : ℕ). 2 ^ 31 + (length before + (o + n))) (sym (ap (λ (ds : List ℕ). offset (size all) ds c) now ∙ offset-append_old (size all) (opened all bound seen) (e.1 ∷ []) c k)) (ap length (sym (rows_with-push_other seen e c (λ j. ne (sym j)))))
          by c m (inr ne) (inr (inl j)) = absurd (ne j)
          by c m (inr ne) (inr (inr k)) = absurd k

      -- a further row of a part
      fill : e.1 < bound → 2 ^ 31 ≤ get_or slots e.1 0 → rows' ≡ set rows (get_or slots e.1 0 - 2 ^ 31) e.0 → ends' ≡ ends → slots' ≡ set slots e.1 (get_or slots e.1 0 + 1)
          → Placing all bound before ends_before rows' ends' slots' (seen ++ e ∷ [])
      fill l g er ee es = record {
        laid = er ∙ ap (λ (n : ℕ). set rows n e.0) (place_is l g)
            ∙ ap (λ (xs : List ℕ). set xs (length before + (offset (size all) (opened all bound seen) e.1 + length (rows_with seen e.1))) e.0) p.laid
            ∙ shifted before (flat_map (filled all bound seen) (opened all bound seen)) (offset (size all) (opened all bound seen) e.1 + length (rows_with seen e.1))
            ∙ ap (λ (xs : List ℕ). before ++ xs) (set-flat (size all) (filled all bound seen) (filled all bound (seen ++ e ∷ [])) (opened all bound seen) e.1 (length (rows_with seen e.1)) e.0 (Once-opened all bound seen) listed
            (λ d h. length-filled all bound seen (e ∷ rest) d is) (λ d ne. filled-other all bound seen e d (λ i. ne (sym i))) (filled-next all bound seen rest e is) (let n = size-next all bound seen rest e is in omega arith)
            ∙ ap (λ (ds : List ℕ). flat_map (filled all bound (seen ++ e ∷ [])) ds) (sym same));
        cuts = ee ∙ p.cuts ∙ ap (λ (ds : List ℕ). ends_before ++ ends_of (length before) (map (rows_with all) ds)) (sym same);
        long = ap length es ∙ length-set slots e.1 (get_or slots e.1 0 + 1) ∙ p.long;
        begun = λ c m h. ap (λ (xs : List ℕ). get_or xs c 0) es ∙ by c m (cases_eq c e.1) (subst (Listed c) same h);
        counted = λ c m h. ap (λ (xs : List ℕ). get_or xs c 0) es
            ∙ get_or-set_other slots e.1 c (get_or slots e.1 0 + 1) 0 (λ i. h (subst (λ (z : ℕ). Listed z (opened all bound (seen ++ e ∷ []))) (sym i) (subst (Listed e.1) (sym same) listed)))
            ∙ p.counted c m (λ k. h (subst (Listed c) (sym same) k));
      }
        where
          listed : Listed e.1 (opened all bound seen)
          listed = is_begun l g

          same : opened all bound (seen ++ e ∷ []) ≡ opened all bound seen
          same = opened-old all bound seen e (opened-parts all bound seen e.1 listed).2

          shifted : (xs ys : List ℕ) (i : ℕ) → set (xs ++ ys) (length xs + i) e.0 ≡ xs ++ set ys i e.0
          shifted [] ys i = ap (λ (j : ℕ). set ys j e.0) (let d : 0 + i ≡ i = omega arith in d)
          shifted (x ∷ xs) ys i = ap (λ (j : ℕ). set (x ∷ (xs ++ ys)) j e.0) (let d : suc (length xs) + i ≡ suc (length xs + i) = omega arith in d) ∙ ap (λ zs. x ∷ zs) (shifted xs ys i)

          by : (c : ℕ) → c < bound → (c ≡ e.1) ⊎ (c ≡ e.1 → ⊥) → Listed c (opened all bound seen)
              → get_or (set slots e.1 (get_or slots e.1 0 + 1)) c 0 ≡ 2 ^ 31 + (length before + (offset (size all) (opened all bound (seen ++ e ∷ [])) c + length (rows_with (seen ++ e ∷ []) c)))
          by c m (inl i) k =
              let w = p.long in
              let at : get_or (set slots e.1 (get_or slots e.1 0 + 1)) c 0 ≡ get_or slots e.1 0 + 1 = ap (λ (z : ℕ). get_or (set slots e.1 (get_or slots e.1 0 + 1)) z 0) i ∙ get_or-set_same slots e.1 (get_or slots e.1 0 + 1) 0 (omega arith) in
              let b = p.begun e.1 l listed in
              let o : offset (size all) (opened all bound (seen ++ e ∷ [])) c ≡ offset (size all) (opened all bound seen) e.1 = ap₂ (λ (ds : List ℕ) (z : ℕ). offset (size all) ds z) same i in
              let n : length (rows_with (seen ++ e ∷ []) c) ≡ length (rows_with seen e.1) + 1
              = ap (λ (z : ℕ). length (rows_with (seen ++ e ∷ []) z)) i ∙ ap length (rows_with-push seen e) ∙ length-append (rows_with seen e.1) (e.0 ∷ []) in
              omega arith
          by c m (inr ne) k =
              get_or-set_other slots e.1 c (get_or slots e.1 0 + 1) 0 ne
              ∙ p.begun c m k
              ∙ ap₂ (λ (ds : List ℕ) (n : ℕ). 2 ^ 31 + (length before + (offset (size all) ds c + n))) (sym same) (ap length (sym (rows_with-push_other seen e c (λ j. ne (sym j)))))

      pub step : Places e.0 e.1 rows ends slots rows' ends' slots' → Placing all bound before ends_before rows' ends' slots' (seen ++ e ∷ [])
      step q = elim (cases_lt e.1 bound) as (λ _. Placing all bound before ends_before rows' ends' slots' (seen ++ e ∷ [])) [
        | inl l ↦ elim (cases_lt (get_or slots e.1 0) 2) as (λ _. Placing all bound before ends_before rows' ends' slots' (seen ++ e ∷ [])) [
          | inl one ↦ let w = q.alone one in kept (single l one) w.0 w.1 w.2
          | inr two ↦ elim (cases_lt (get_or slots e.1 0) (2 ^ 31)) as (λ _. Placing all bound before ends_before rows' ends' slots' (seen ++ e ∷ [])) [
            | inl g ↦ let w = q.opened (inside l) two g in begin l two g w.0 w.1 w.2
            | inr g ↦ let w = q.filled (inside l) g in fill l g w.0 w.1 w.2
          ]
        ]
        | inr g ↦ let w = q.outside (beyond g) in kept (and_left (ltb e.1 bound) (leb 2 (size all e.1)) (le-ltb e.1 bound g)) w.0 w.1 w.2
      ]
        where
          inside : e.1 < bound → e.1 < length slots
          inside l = let w = p.long in omega arith

          beyond : bound ≤ e.1 → length slots ≤ e.1
          beyond g = let w = p.long in omega arith

          single : e.1 < bound → get_or slots e.1 0 < 2 → opens all bound e.1 ≡ false
          single l one = elim (listed_or e.1 (opened all bound seen)) as (λ _. opens all bound e.1 ≡ false) [
            | inl h ↦ absurd (let b = p.begun e.1 l h in omega arith)
            | inr out ↦ and_right (ltb e.1 bound) (leb 2 (size all e.1)) (let c = p.counted e.1 l out in lt-leb 2 (size all e.1) (omega arith))
          ]

-- ---- the first state and the last
counts : (all : List (ℕ × ℕ)) (bound : ℕ) (slots : List ℕ) → length slots ≡ bound → ((c : ℕ) → c < length slots → get_or slots c 0 ≡ count_by (λ d. eqb d c) (map (λ (e : ℕ × ℕ). e.1) all)) → (c : ℕ) → c < bound → get_or slots c 0 ≡ size all c
counts all bound slots long f c l = f c (omega arith) ∙ sym (length-with all c)

pub placing_none : (all : List (ℕ × ℕ)) (bound : ℕ) (before ends_before slots : List ℕ) → length slots ≡ bound → ((c : ℕ) → c < length slots → get_or slots c 0 ≡ count_by (λ d. eqb d c) (map (λ (e : ℕ × ℕ). e.1) all))
    → Placing all bound before ends_before before ends_before slots []
unfolding opened firsts ends_of
placing_none all bound before ends_before slots long f = record {
  laid = sym (append-nil before);
  cuts = sym (append-nil ends_before);
  long = long;
  begun = λ c l h. absurd h;
  counted = λ c l h. counts all bound slots long f c l;
}

filled_all : (all : List (ℕ × ℕ)) (bound c : ℕ) → filled all bound all c ≡ rows_with all c
unfolding filled
filled_all all bound c = ap (λ (n : ℕ). rows_with all c ++ replicate n (get_or (rows_with all c) 0 0)) (let e : size all c - length (rows_with all c) ≡ 0 = omega arith in e) ∙ append-nil _

opened_all : (all : List (ℕ × ℕ)) (bound : ℕ) → opened all bound all ≡ repeated_codes bound all
unfolding opened repeated_codes
opened_all all bound = refl

pub parts_is : (all : List (ℕ × ℕ)) (bound : ℕ) → map (rows_with all) (opened all bound all) ≡ parts bound all
unfolding parts
parts_is all bound = ap (map (rows_with all)) (opened_all all bound)

pub placed_rows : (all : List (ℕ × ℕ)) (bound : ℕ) (before ends_before rows ends slots : List ℕ) → Placing all bound before ends_before rows ends slots all → rows ≡ before ++ concat (parts bound all)
placed_rows all bound before ends_before rows ends slots p =
    p.laid ∙ ap (λ (xs : List ℕ). before ++ xs) (same_flat (filled all bound all) (rows_with all) (opened all bound all) (λ d h. filled_all all bound d) ∙ flat_concat (rows_with all) (opened all bound all) ∙ ap concat (parts_is all bound))

pub placed_ends : (all : List (ℕ × ℕ)) (bound : ℕ) (before ends_before rows ends slots : List ℕ) → Placing all bound before ends_before rows ends slots all → ends ≡ ends_before ++ ends_of (length before) (parts bound all)
placed_ends all bound before ends_before rows ends slots p = p.cuts ∙ ap (λ (gs : List (List ℕ)). ends_before ++ ends_of (length before) gs) (parts_is all bound)

pub placed_slots : (all : List (ℕ × ℕ)) (bound : ℕ) (before ends_before rows ends slots : List ℕ) → Placing all bound before ends_before rows ends slots all
    → (c : ℕ) → c < length slots → count_by (λ d. eqb d c) (map (λ (e : ℕ × ℕ). e.1) all) ≡ 0 → get_or slots c 0 ≡ 0
placed_slots all bound before ends_before rows ends slots p c l z =
    let s : size all c ≡ 0 = length-with all c ∙ z in
    let w = p.long in
    p.counted c (omega arith) (λ h. let t = (opened-parts all bound all c h).1 in absurd (omega arith)) ∙ s

-- ---- rows and codes side by side
module _ (rows codes : List ℕ) (coded : length codes ≡ length rows) where
  pub long_pairs : length (zip rows codes) ≡ length rows
  long_pairs = let e = length-zip rows codes in omega arith

  pub pair_at : (i : ℕ) → i < length rows → get_or (zip rows codes) i (0, 0) ≡ (get_or rows i 0, get_or codes i 0)
  pair_at i l = get_or-zip rows codes i (0, 0) l (omega arith)

  pub next_pair : (i : ℕ) → i < length rows → zip rows codes ≡ take i (zip rows codes) ++ (get_or rows i 0, get_or codes i 0) ∷ drop (i + 1) (zip rows codes)
  next_pair i l = let n = long_pairs in
      sym (take-append-drop i (zip rows codes)) ∙ ap (λ (es : List (ℕ × ℕ)). take i (zip rows codes) ++ es) (drop_more (zip rows codes) i (0, 0) (omega arith) ∙ ap (λ (e : ℕ × ℕ). e ∷ drop (i + 1) (zip rows codes)) (pair_at i l))

  pub more_pairs : (i : ℕ) → i < length rows → take (i + 1) (zip rows codes) ≡ take i (zip rows codes) ++ (get_or rows i 0, get_or codes i 0) ∷ []
  more_pairs i l = let n = long_pairs in take_more (zip rows codes) i (0, 0) (omega arith) ∙ ap (λ (e : ℕ × ℕ). take i (zip rows codes) ++ e ∷ []) (pair_at i l)

pub short_rows : (all : List (ℕ × ℕ)) (bound : ℕ) (before ends_before rows ends slots : List ℕ) (seen rest : List (ℕ × ℕ)) → all ≡ seen ++ rest → Placing all bound before ends_before rows ends slots seen → length rows ≤ length before + length all
short_rows all bound before ends_before rows ends slots seen rest is p =
    let e = ap length p.laid in let a = length-append before (flat_map (filled all bound seen) (opened all bound seen)) in
    let f = few all bound before ends_before seen rest is in omega arith
