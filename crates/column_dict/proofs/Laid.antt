-- What is kept of a dictionary's cells: how it grows, shrinks and is read.
use Rattle.std.proofs.Common.{◌≡◌, ◌<◌, ◌≤◌, ◌+◌, ◌==◌, ◌||◌, ℕ, zero, suc, List, [], ◌∷◌, ◌++◌, Bool, true, false, not, cond, length, take, drop, get_or, slice_get, inl, inr, ◌⊎◌, Some, None, ap, ap₂, ◌∙◌, sym, subst, refl, arith, length-append}
use Rattle.std.specs.Option.{option_map, unwrap_or}
use Rattle.std.specs.List.{find, list_any, AllByRecursion, IsDistinct}
use Rattle.std.specs.Map.{keys_of, lookup}
use Rattle.std.proofs.lemmas.Map.Entries.{length-keys_of}
use Rattle.std.proofs.lemmas.Bool.{true≢false, false≢true, or_right, ne_eqb, cases_lt}
use Rattle.std.proofs.lemmas.List.{append_assoc, append-nil, length-map, get_or_past, take-append-drop, length-take-le}
use Rattle.std.proofs.Math.Seq.{get_or-append_seam, take-append_seam, drop-append_seam}
use Rattle.std.proofs.lemmas.Option.{none-some, slice_get-map, slice_get-get_or}
use Rattle.rel_base.specs.declared.nulls.Nulls.{Nulls}
use Rattle.rel_base.specs.declared.nulls.Nulls.TheVariants.{Equal, Distinct}
use Rattle.rel_base.specs.Cells.{Cell}
use Rattle.rel_base.specs.Agreement.{same_cell}
use Rattle.rel_base.proofs.Agree.{same_cell-true, true-same_cell}
use Rattle.column_dict.specs.Coding.{is_fresh}
use Rattle.column_dict.specs.Layout.{nowhere, cells_at, entries_from, places_from, IsLaid}

pub same_some : {X : Type 0} {a b : X} → Some a ≡ Some b → a ≡ b
same_some {X} {a} {b} e = ap (λ o. unwrap_or o a) e

pub fresh_null : (nulls : Nulls) (c : Cell) → is_fresh nulls c ≡ true → c ≡ []
fresh_null Equal c e = absurd (false≢true e)
fresh_null Distinct c e = same_cell-true c [] e

-- how many of the cells stand in the map
abbrev pub kept : Nulls → List Cell → ℕ
kept nulls [] = 0
kept nulls (c ∷ cs) = cond (is_fresh nulls c) (kept nulls cs) (suc (kept nulls cs))

pub kept-le : (nulls : Nulls) (cs : List Cell) → kept nulls cs ≤ length cs
kept-le nulls [] = omega arith
kept-le nulls (c ∷ cs) = by (is_fresh nulls c) (kept-le nulls cs)
  where
    by : (b : Bool) → kept nulls cs ≤ length cs → cond b (kept nulls cs) (suc (kept nulls cs)) ≤ suc (length cs)
    by true h = omega arith
    by false h = omega arith

pub length-entries : (nulls : Nulls) (k : ℕ) (cs : List Cell) → length (entries_from nulls k cs) ≡ kept nulls cs
length-entries nulls k [] = refl
length-entries nulls k (c ∷ cs) = by (length-entries nulls (suc k) cs) (is_fresh nulls c)
  where
    by : length (entries_from nulls (suc k) cs) ≡ kept nulls cs → (b : Bool) → length (cond b (entries_from nulls (suc k) cs) ((c, k) ∷ entries_from nulls (suc k) cs)) ≡ cond b (kept nulls cs) (suc (kept nulls cs))
    by h true = h
    by h false = ap suc h

length-places : (nulls : Nulls) (p : ℕ) (cs : List Cell) → length (places_from nulls p cs) ≡ length cs
length-places nulls p [] = refl
length-places nulls p (c ∷ cs) = by (length-places nulls p cs) (length-places nulls (suc p) cs) (is_fresh nulls c)
  where
    by : length (places_from nulls p cs) ≡ length cs → length (places_from nulls (suc p) cs) ≡ length cs
        → (b : Bool) → length (cond b (nowhere ∷ places_from nulls p cs) (p ∷ places_from nulls (suc p) cs)) ≡ suc (length cs)
    by h g true = ap suc h
    by h g false = ap suc g

-- ---- parts
entries-append : (nulls : Nulls) (k : ℕ) (cs ds : List Cell) → entries_from nulls k (cs ++ ds) ≡ entries_from nulls k cs ++ entries_from nulls (k + length cs) ds
entries-append nulls k [] ds = let e : k ≡ k + 0 = omega arith in ap (λ (n : ℕ). entries_from nulls n ds) e
entries-append nulls k (c ∷ cs) ds =
    let e : suc k + length cs ≡ k + suc (length cs) = omega arith in
    by (entries-append nulls (suc k) cs ds ∙ ap (λ (n : ℕ). entries_from nulls (suc k) cs ++ entries_from nulls n ds) e) (is_fresh nulls c)
  where
    by : entries_from nulls (suc k) (cs ++ ds) ≡ entries_from nulls (suc k) cs ++ entries_from nulls (k + suc (length cs)) ds
        → (b : Bool) → cond b (entries_from nulls (suc k) (cs ++ ds)) ((c, k) ∷ entries_from nulls (suc k) (cs ++ ds))
        ≡ cond b (entries_from nulls (suc k) cs) ((c, k) ∷ entries_from nulls (suc k) cs) ++ entries_from nulls (k + suc (length cs)) ds
    by rest true = rest
    by rest false = ap (λ (l : List (Cell × ℕ)). (c, k) ∷ l) rest

places-append : (nulls : Nulls) (p : ℕ) (cs ds : List Cell) → places_from nulls p (cs ++ ds) ≡ places_from nulls p cs ++ places_from nulls (p + kept nulls cs) ds
places-append nulls p [] ds = let e : p ≡ p + 0 = omega arith in ap (λ (n : ℕ). places_from nulls n ds) e
places-append nulls p (c ∷ cs) ds =
    let e : suc p + kept nulls cs ≡ p + suc (kept nulls cs) = omega arith in
    by (places-append nulls p cs ds) (places-append nulls (suc p) cs ds ∙ ap (λ (n : ℕ). places_from nulls (suc p) cs ++ places_from nulls n ds) e) (is_fresh nulls c)
  where
    by : places_from nulls p (cs ++ ds) ≡ places_from nulls p cs ++ places_from nulls (p + kept nulls cs) ds
        → places_from nulls (suc p) (cs ++ ds) ≡ places_from nulls (suc p) cs ++ places_from nulls (p + suc (kept nulls cs)) ds
        → (b : Bool) → cond b (nowhere ∷ places_from nulls p (cs ++ ds)) (p ∷ places_from nulls (suc p) (cs ++ ds))
        ≡ cond b (nowhere ∷ places_from nulls p cs) (p ∷ places_from nulls (suc p) cs) ++ places_from nulls (p + cond b (kept nulls cs) (suc (kept nulls cs))) ds
    by h g true = ap (λ (l : List ℕ). nowhere ∷ l) h
    by h g false = ap (λ (l : List ℕ). p ∷ l) g

-- ---- the cells that are kept
seen : (nulls : Nulls) (pre : List Cell) (k p : ℕ) (cs : List Cell) → length pre ≡ p → p + length cs ≤ nowhere → cells_at (pre ++ keys_of (entries_from nulls k cs)) (places_from nulls p cs) ≡ cs
seen nulls pre k p [] e l = refl
seen nulls pre k p (c ∷ cs) e l =
    let long = length-append pre (c ∷ []) in
    by (seen nulls pre (suc k) p cs e (omega (arith, l))) (seen nulls (pre ++ c ∷ []) (suc k) (suc p) cs (omega (arith, long, e)) (omega (arith, l))) (is_fresh nulls c) refl
  where
    by : cells_at (pre ++ keys_of (entries_from nulls (suc k) cs)) (places_from nulls p cs) ≡ cs
        → cells_at (pre ++ c ∷ [] ++ keys_of (entries_from nulls (suc k) cs)) (places_from nulls (suc p) cs) ≡ cs
        → (b : Bool) → is_fresh nulls c ≡ b
        → cells_at (pre ++ keys_of (cond b (entries_from nulls (suc k) cs) ((c, k) ∷ entries_from nulls (suc k) cs))) (cond b (nowhere ∷ places_from nulls p cs) (p ∷ places_from nulls (suc p) cs)) ≡ c ∷ cs
    by h g true f =
        let long = length-append pre (keys_of (entries_from nulls (suc k) cs)) in
        let few = length-keys_of (entries_from nulls (suc k) cs) ∙ length-entries nulls (suc k) cs in
        let less = kept-le nulls cs in
        ap₂ (λ (x : Cell) (xs : List Cell). x ∷ xs)
        (get_or_past (pre ++ keys_of (entries_from nulls (suc k) cs)) nowhere [] (omega (arith, long, few, less, e, l)) ∙ sym (fresh_null nulls c f))
        h
    by h g false f =
        ap₂ (λ (x : Cell) (xs : List Cell). x ∷ xs)
        (subst (λ (n : ℕ). get_or (pre ++ c ∷ keys_of (entries_from nulls (suc k) cs)) n [] ≡ c) e (get_or-append_seam pre c (keys_of (entries_from nulls (suc k) cs)) []))
        (sym (ap (λ (ks : List Cell). cells_at ks (places_from nulls (suc p) cs)) (append_assoc pre (c ∷ []) (keys_of (entries_from nulls (suc k) cs))))
        ∙ g)

-- the entries and places of these cells are a dictionary of them
pub laid : (nulls : Nulls) (cs : List Cell) (es : List (Cell × ℕ)) (ps : List ℕ) → es ≡ entries_from nulls 0 cs → ps ≡ places_from nulls 0 cs → length cs ≤ nowhere
    → (cells_at (keys_of es) ps ≡ cs) × IsLaid nulls es ps
laid nulls cs es ps e f l =
    let v : cells_at (keys_of es) ps ≡ cs = ap₂ (λ (es : List (Cell × ℕ)) (ps : List ℕ). cells_at (keys_of es) ps) e f ∙ seen nulls [] 0 0 cs refl (omega (arith, l)) in
    let long : length (cells_at (keys_of es) ps) ≡ length ps = length-map ps _ in (
      v,
      record {
        entries_are = e ∙ ap (entries_from nulls 0) (sym v);
        places_are = f ∙ ap (places_from nulls 0) (sym v);
        short = let w = ap length v in omega (arith, long, w, l);
      },
    )

pub no_cells : (nulls : Nulls) (es : List (Cell × ℕ)) (ps : List ℕ) → es ≡ [] → ps ≡ [] → (cells_at (keys_of es) ps ≡ []) × IsLaid nulls es ps
no_cells nulls es ps e f = laid nulls [] es ps e f (omega arith)

-- ---- one cell more
module _ (nulls : Nulls) (es : List (Cell × ℕ)) (ps : List ℕ) (c : Cell) (h : IsLaid nulls es ps) (room : length ps < nowhere) where
  cells : List Cell
  cells = cells_at (keys_of es) ps

  long : length (cells_at (keys_of es) ps) ≡ length ps
  long = length-map ps _

  longer : length (cells_at (keys_of es) ps ++ c ∷ []) ≤ nowhere
  longer = let a = length-append (cells_at (keys_of es) ps) (c ∷ []) in omega (arith, a, long, room)

  pub add-fresh : (fs : List (Cell × ℕ)) (qs : List ℕ) → is_fresh nulls c ≡ true → fs ≡ es → qs ≡ ps ++ nowhere ∷ []
      → (cells_at (keys_of fs) qs ≡ cells_at (keys_of es) ps ++ c ∷ []) × IsLaid nulls fs qs
  add-fresh fs qs f e g =
      laid nulls (cells_at (keys_of es) ps ++ c ∷ []) fs qs
      (e ∙ h.entries_are ∙ sym (append-nil _)
      ∙ ap (λ (b : Bool). entries_from nulls 0 (cells_at (keys_of es) ps) ++ cond b [] ((c, 0 + length (cells_at (keys_of es) ps)) ∷ [])) (sym f)
      ∙ sym (entries-append nulls 0 (cells_at (keys_of es) ps) (c ∷ [])))
      (g ∙ ap (λ (l : List ℕ). l ++ nowhere ∷ []) h.places_are
      ∙ ap (λ (b : Bool). places_from nulls 0 (cells_at (keys_of es) ps) ++ cond b (nowhere ∷ []) ((0 + kept nulls (cells_at (keys_of es) ps)) ∷ [])) (sym f)
      ∙ sym (places-append nulls 0 (cells_at (keys_of es) ps) (c ∷ [])))
      longer

  pub add-known : (fs : List (Cell × ℕ)) (qs : List ℕ) → is_fresh nulls c ≡ false → fs ≡ es ++ (c, length ps) ∷ [] → qs ≡ ps ++ length es ∷ []
      → (cells_at (keys_of fs) qs ≡ cells_at (keys_of es) ps ++ c ∷ []) × IsLaid nulls fs qs
  add-known fs qs f e g =
      let count : length es ≡ kept nulls (cells_at (keys_of es) ps) = ap length h.entries_are ∙ length-entries nulls 0 (cells_at (keys_of es) ps) in
      let code : length ps ≡ 0 + length (cells_at (keys_of es) ps) = omega (arith, long) in
      let place : length es ≡ 0 + kept nulls (cells_at (keys_of es) ps) = omega (arith, count) in
      laid nulls (cells_at (keys_of es) ps ++ c ∷ []) fs qs
      (e ∙ ap₂ (λ (l : List (Cell × ℕ)) (n : ℕ). l ++ (c, n) ∷ []) h.entries_are code
      ∙ ap (λ (b : Bool). entries_from nulls 0 (cells_at (keys_of es) ps) ++ cond b [] ((c, 0 + length (cells_at (keys_of es) ps)) ∷ [])) (sym f)
      ∙ sym (entries-append nulls 0 (cells_at (keys_of es) ps) (c ∷ [])))
      (g ∙ ap₂ (λ (l : List ℕ) (n : ℕ). l ++ n ∷ []) h.places_are place
      ∙ ap (λ (b : Bool). places_from nulls 0 (cells_at (keys_of es) ps) ++ cond b (nowhere ∷ []) ((0 + kept nulls (cells_at (keys_of es) ps)) ∷ [])) (sym f)
      ∙ sym (places-append nulls 0 (cells_at (keys_of es) ps) (c ∷ [])))
      longer

-- ---- looking a cell up
module _ (nulls : Nulls) (c : Cell) where
  pub found : (k j : ℕ) (cs : List Cell) → lookup (same_cell c) (entries_from nulls k cs) ≡ Some j → (i : ℕ) × (j ≡ k + i) × (slice_get cs i ≡ Some c) × (list_any (same_cell c) cs ≡ true)
  found k j [] e = absurd (none-some j e)
  found k j (x ∷ cs) e =
      by (λ g. let w = found (suc k) j cs g in let n = w.1 in (suc w.0, omega (arith, n), w.2, or_right (same_cell c x) (list_any (same_cell c) cs) w.3)) (is_fresh nulls x) e
    where
      here : (lookup (same_cell c) (entries_from nulls (suc k) cs) ≡ Some j
          → (i : ℕ) × (j ≡ k + i) × (slice_get (x ∷ cs) i ≡ Some c) × ((same_cell c x || list_any (same_cell c) cs) ≡ true))
          → (t : Bool) → same_cell c x ≡ t → cond t (Some k) (lookup (same_cell c) (entries_from nulls (suc k) cs)) ≡ Some j
          → (i : ℕ) × (j ≡ k + i) × (slice_get (x ∷ cs) i ≡ Some c) × ((same_cell c x || list_any (same_cell c) cs) ≡ true)
      here later true s g = let n : k ≡ j = same_some g in (0, omega (arith, n), ap Some (sym (same_cell-true c x s)), ap (λ (b : Bool). b || list_any (same_cell c) cs) s)
      here later false s g = later g

      by : (lookup (same_cell c) (entries_from nulls (suc k) cs) ≡ Some j
          → (i : ℕ) × (j ≡ k + i) × (slice_get (x ∷ cs) i ≡ Some c) × ((same_cell c x || list_any (same_cell c) cs) ≡ true))
          → (b : Bool) → lookup (same_cell c) (cond b (entries_from nulls (suc k) cs) ((x, k) ∷ entries_from nulls (suc k) cs)) ≡ Some j
          → (i : ℕ) × (j ≡ k + i) × (slice_get (x ∷ cs) i ≡ Some c) × ((same_cell c x || list_any (same_cell c) cs) ≡ true)
      by later true g = later g
      by later false g = here later (same_cell c x) refl g

  -- a cell that the map has is not given a fresh code
  pub found-known : (k j : ℕ) (cs : List Cell) → lookup (same_cell c) (entries_from nulls k cs) ≡ Some j → is_fresh nulls c ≡ false
  found-known k j [] e = absurd (none-some j e)
  found-known k j (x ∷ cs) e = by (found-known (suc k) j cs) (is_fresh nulls x) refl e
    where
      here : (lookup (same_cell c) (entries_from nulls (suc k) cs) ≡ Some j → is_fresh nulls c ≡ false) → is_fresh nulls x ≡ false
          → (t : Bool) → same_cell c x ≡ t → cond t (Some k) (lookup (same_cell c) (entries_from nulls (suc k) cs)) ≡ Some j → is_fresh nulls c ≡ false
      here later f true s g = ap (is_fresh nulls) (same_cell-true c x s) ∙ f
      here later f false s g = later g

      by : (lookup (same_cell c) (entries_from nulls (suc k) cs) ≡ Some j → is_fresh nulls c ≡ false)
          → (b : Bool) → is_fresh nulls x ≡ b → lookup (same_cell c) (cond b (entries_from nulls (suc k) cs) ((x, k) ∷ entries_from nulls (suc k) cs)) ≡ Some j → is_fresh nulls c ≡ false
      by later true f g = later g
      by later false f g = here later f (same_cell c x) refl g

  pub missing : (k : ℕ) (cs : List Cell) → lookup (same_cell c) (entries_from nulls k cs) ≡ None → is_fresh nulls c ≡ false → list_any (same_cell c) cs ≡ false
  missing k [] e f = refl
  missing k (x ∷ cs) e f = by (λ g. missing (suc k) cs g f) (is_fresh nulls x) refl e
    where
      other : (t : Bool) → same_cell c x ≡ t → is_fresh nulls x ≡ true → same_cell c x ≡ false
      other true s g = absurd (true≢false (sym g ∙ ap (is_fresh nulls) (sym (same_cell-true c x s)) ∙ f))
      other false s g = s

      here : (lookup (same_cell c) (entries_from nulls (suc k) cs) ≡ None → list_any (same_cell c) cs ≡ false)
          → (t : Bool) → same_cell c x ≡ t → cond t (Some k) (lookup (same_cell c) (entries_from nulls (suc k) cs)) ≡ None → (same_cell c x || list_any (same_cell c) cs) ≡ false
      here rest true s g = absurd (none-some k (sym g))
      here rest false s g = ap (λ (b : Bool). b || list_any (same_cell c) cs) s ∙ rest g

      by : (lookup (same_cell c) (entries_from nulls (suc k) cs) ≡ None → list_any (same_cell c) cs ≡ false)
          → (b : Bool) → is_fresh nulls x ≡ b → lookup (same_cell c) (cond b (entries_from nulls (suc k) cs) ((x, k) ∷ entries_from nulls (suc k) cs)) ≡ None
          → (same_cell c x || list_any (same_cell c) cs) ≡ false
      by rest true g h = ap (λ (b : Bool). b || list_any (same_cell c) cs) (other (same_cell c x) refl g) ∙ rest h
      by rest false g h = here rest (same_cell c x) refl h

-- the cell at a code that stands at no place of the map
past : {X : Type 0} (xs : List X) (d : X) (p : ℕ) → None ≡ slice_get xs p → (p < length xs) ⊎ (length xs ≤ p) → length xs ≤ p
past xs d p e (inl l) = absurd (none-some (get_or xs p d) (e ∙ slice_get-get_or xs p d l))
past xs d p e (inr l) = l

pub cell-nowhere : (es : List (Cell × ℕ)) (ps : List ℕ) (code p : ℕ) → code < length ps → p ≡ get_or ps code p → None ≡ slice_get es p → slice_get (cells_at (keys_of es) ps) code ≡ Some []
cell-nowhere es ps code p l a h =
    let long = length-keys_of es in
    let beyond = past es ([], 0) p h (cases_lt p (length es)) in
    slice_get-map (λ p. get_or (keys_of es) p []) ps code
    ∙ ap (option_map (λ p. get_or (keys_of es) p [])) (slice_get-get_or ps code p l ∙ ap Some (sym a))
    ∙ ap Some (get_or_past (keys_of es) p [] (omega (arith, long, beyond)))

-- ---- each cell once
not_later : (nulls : Nulls) (c : Cell) (k : ℕ) (cs : List Cell) (i : ℕ) → AllByRecursion (λ y. same_cell c y ≡ false) (keys_of (entries_from nulls k cs)) → is_fresh nulls c ≡ false → slice_get cs i ≡ Some c → ⊥
not_later nulls c k [] i h f e = none-some c e
not_later nulls c k (x ∷ cs) i h f e = by (λ i h e. not_later nulls c (suc k) cs i h f e) (is_fresh nulls x) refl h i e
  where
    by : ((i : ℕ) → AllByRecursion (λ y. same_cell c y ≡ false) (keys_of (entries_from nulls (suc k) cs)) → slice_get cs i ≡ Some c → ⊥)
        → (b : Bool) → is_fresh nulls x ≡ b → AllByRecursion (λ y. same_cell c y ≡ false) (keys_of (cond b (entries_from nulls (suc k) cs) ((x, k) ∷ entries_from nulls (suc k) cs)))
        → (i : ℕ) → slice_get (x ∷ cs) i ≡ Some c → ⊥
    by rest true g h zero e = true≢false (sym g ∙ ap (is_fresh nulls) (same_some e) ∙ f)
    by rest true g h (suc i) e = rest i h e
    by rest false g h zero e = true≢false (sym (true-same_cell c x (sym (same_some e))) ∙ h.0)
    by rest false g h (suc i) e = rest i h.1 e

pub once : (nulls : Nulls) (k : ℕ) (cs : List Cell) → IsDistinct same_cell (keys_of (entries_from nulls k cs))
    → (i j : ℕ) (c : Cell) → slice_get cs i ≡ Some c → slice_get cs j ≡ Some c → is_fresh nulls c ≡ false → i ≡ j
unfolding IsDistinct
once nulls k [] d i j c e g f = absurd (none-some c e)
once nulls k (x ∷ cs) d i j c e g f = by (λ d i j e g. once nulls (suc k) cs d i j c e g f) (is_fresh nulls x) refl d i j e g
  where
    head : x ≡ c → AllByRecursion (λ y. same_cell x y ≡ false) (keys_of (entries_from nulls (suc k) cs)) → AllByRecursion (λ y. same_cell c y ≡ false) (keys_of (entries_from nulls (suc k) cs))
    head s h = subst (λ (z : Cell). AllByRecursion (λ y. same_cell z y ≡ false) (keys_of (entries_from nulls (suc k) cs))) s h

    by : (IsDistinct same_cell (keys_of (entries_from nulls (suc k) cs)) → (i j : ℕ) → slice_get cs i ≡ Some c → slice_get cs j ≡ Some c → i ≡ j)
        → (b : Bool) → is_fresh nulls x ≡ b → IsDistinct same_cell (keys_of (cond b (entries_from nulls (suc k) cs) ((x, k) ∷ entries_from nulls (suc k) cs)))
        → (i j : ℕ) → slice_get (x ∷ cs) i ≡ Some c → slice_get (x ∷ cs) j ≡ Some c → i ≡ j
    by rest b q d zero zero e g = refl
    by rest true q d zero (suc j) e g = absurd (true≢false (sym q ∙ ap (is_fresh nulls) (same_some e) ∙ f))
    by rest true q d (suc i) zero e g = absurd (true≢false (sym q ∙ ap (is_fresh nulls) (same_some g) ∙ f))
    by rest true q d (suc i) (suc j) e g = ap suc (rest d i j e g)
    by rest false q d zero (suc j) e g = absurd (not_later nulls c (suc k) cs j (head (same_some e) d.0) f g)
    by rest false q d (suc i) zero e g = absurd (not_later nulls c (suc k) cs i (head (same_some g) d.0) f e)
    by rest false q d (suc i) (suc j) e g = ap suc (rest d.1 i j e g)

-- ---- the first n cells
first_kept : (nulls : Nulls) (p : ℕ) (cs : List Cell) → p + length cs ≤ nowhere → unwrap_or (find (λ q. not (q == nowhere)) (places_from nulls p cs)) (p + kept nulls cs) ≡ p
first_kept nulls p [] l = omega arith
first_kept nulls p (c ∷ cs) l = by (first_kept nulls p cs (omega (arith, l))) (is_fresh nulls c)
  where
    by : unwrap_or (find (λ q. not (q == nowhere)) (places_from nulls p cs)) (p + kept nulls cs) ≡ p
        → (b : Bool) → unwrap_or (find (λ q. not (q == nowhere)) (cond b (nowhere ∷ places_from nulls p cs) (p ∷ places_from nulls (suc p) cs))) (p + cond b (kept nulls cs) (suc (kept nulls cs))) ≡ p
    by h true = h
    by h false = ap (λ (b : Bool). unwrap_or (cond (not b) (Some p) (find (λ q. not (q == nowhere)) (places_from nulls (suc p) cs))) (p + suc (kept nulls cs))) (ne_eqb p nowhere (λ e. absurd (omega (arith, l, e))))

pub cut : (nulls : Nulls) (es : List (Cell × ℕ)) (ps : List ℕ) (n m : ℕ) (fs : List (Cell × ℕ)) (qs : List ℕ) → IsLaid nulls es ps → n < length ps
    → m ≡ unwrap_or (find (λ q. not (q == nowhere)) (drop n ps)) (length es) → fs ≡ take m es → qs ≡ take n ps
    → (cells_at (keys_of fs) qs ≡ take n (cells_at (keys_of es) ps)) × IsLaid nulls fs qs
cut nulls es ps n m fs qs h l at e g = at_split (take n cs) (drop n cs) (sym (take-append-drop n cs)) (length-take-le n cs (omega (arith, l, long)))
  where
    cs : List Cell
    cs = cells_at (keys_of es) ps

    long : length (cells_at (keys_of es) ps) ≡ length ps
    long = length-map ps _

    at_split : (xs ys : List Cell) → cells_at (keys_of es) ps ≡ xs ++ ys → length xs ≡ n → (cells_at (keys_of fs) qs ≡ xs) × IsLaid nulls fs qs
    at_split xs ys s w =
        let a = length-append xs ys in
        let b = ap length s in
        let t = h.short in
        let es_are : es ≡ entries_from nulls 0 xs ++ entries_from nulls (0 + length xs) ys = h.entries_are ∙ ap (entries_from nulls 0) s ∙ entries-append nulls 0 xs ys in
        let ps_are : ps ≡ places_from nulls 0 xs ++ places_from nulls (0 + kept nulls xs) ys = h.places_are ∙ ap (places_from nulls 0) s ∙ places-append nulls 0 xs ys in
        let placed : length (places_from nulls 0 xs) ≡ n = length-places nulls 0 xs ∙ w in
        let tail : drop n ps ≡ places_from nulls (0 + kept nulls xs) ys =
        ap₂ (λ (i : ℕ) (l : List ℕ). drop i l) (sym placed) ps_are ∙ drop-append_seam (places_from nulls 0 xs) (places_from nulls (0 + kept nulls xs) ys) in
        let count : length es ≡ (0 + kept nulls xs) + kept nulls ys =
        ap length es_are ∙ length-append (entries_from nulls 0 xs) (entries_from nulls (0 + length xs) ys)
        ∙ ap₂ (λ (i j : ℕ). i + j) (length-entries nulls 0 xs ∙ zero_plus (kept nulls xs)) (length-entries nulls (0 + length xs) ys) in
        let less = kept-le nulls xs in
        let m_is : m ≡ 0 + kept nulls xs =
        at ∙ ap₂ (λ (l : List ℕ) (i : ℕ). unwrap_or (find (λ q. not (q == nowhere)) l) i) tail count
        ∙ first_kept nulls (0 + kept nulls xs) ys (omega (arith, a, b, t, long, less)) in
        let cut_at : length (entries_from nulls 0 xs) ≡ m = length-entries nulls 0 xs ∙ zero_plus (kept nulls xs) ∙ sym m_is in
        laid nulls xs fs qs
        (e ∙ ap₂ (λ (i : ℕ) (l : List (Cell × ℕ)). take i l) (sym cut_at) es_are ∙ take-append_seam (entries_from nulls 0 xs) (entries_from nulls (0 + length xs) ys))
        (g ∙ ap₂ (λ (i : ℕ) (l : List ℕ). take i l) (sym placed) ps_are ∙ take-append_seam (places_from nulls 0 xs) (places_from nulls (0 + kept nulls xs) ys))
        (omega (arith, a, b, t, long))
      where
        zero_plus : (n : ℕ) → n ≡ 0 + n
        zero_plus n = omega arith
