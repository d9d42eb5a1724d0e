-- Steps from one level to the next.
use Rattle.std.proofs.Common.{inl, inr, ◌≡◌, ◌⊎◌, ℕ, suc, ◌+◌, ◌-◌, ◌<◌, Bool, true, false, ◌&&◌, cond, refl, sym, ap, ap₂, ◌∙◌, subst, arith, List, [], ◌∷◌, ◌++◌, length, map, take, get_or, append_assoc, append-nil}
use Rattle.std.specs.List.{filter, flat_map}
use Rattle.std.proofs.lemmas.Bool.{and_parts}
use Rattle.std.proofs.lemmas.List.{get_or_push, length_push, map_push, take_more}
use Rattle.std.proofs.lemmas.List.Concat.{flat_map-append}
use Rattle.std.proofs.lemmas.List.Elements.{filter-append}
use Rattle.col_set.specs.ColSet.{upto}
use Rattle.col_set.specs.AllSets.{Listed-upto_within}
use Rattle.col_set.specs.Lists.{Listed, Listed-append_cases, Listed-filter_parts, Listed-flat_map_which, Listed-map_which, filter_same}
use Rattle.col_set.proofs.Places.{Listed-get_or}
use Rattle.rel_base.specs.RowState.{RowState}
use Rattle.nary_ind.specs.declared.found.ListInd.{ListInd}
use Rattle.nary_ind.specs.declared.found.Side.{Side}
use Rattle.nary_ind.specs.ListInclusions.{from_to, holds_among, is_formed, is_list_inclusion, list_inclusions, of_width, width_at}
use Rattle.nary_ind.specs.Laws.{is_unary}
use Rattle.nary_ind.specs.Unary.{is_used}
use Rattle.nary_ind.specs.Tables.{AreUsed}
use Rattle.nary_ind.specs.Levels.{IsGroup, IsSide, extend, grown, is_candidate, last_column, next_groups, next_into}
use Rattle.nary_ind.proofs.Candidates.{checked, checked-single, used-dependent, used-referenced, used-first, used-second}
use Rattle.nary_ind.proofs.Lists.{upto_more}

-- ---- lists that grow
pub flat-more : {X Y : Type 0} (f : X → List Y) (xs : List X) (i : ℕ) (x : X) → i < length xs → x ≡ get_or xs i x → flat_map f (take (i + 1) xs) ≡ flat_map f (take i xs) ++ f x
flat-more {X} {Y} f xs i x l is =
    ap (flat_map f) (take_more xs i x l ∙ ap (λ (y : X). take i xs ++ y ∷ []) (sym is)) ∙ flat_map-append f (take i xs) (x ∷ []) ∙ ap (λ (ys : List Y). flat_map f (take i xs) ++ ys) (append-nil (f x))

pub map-more : {X Y : Type 0} (f : X → Y) (xs : List X) (i : ℕ) (x : X) → i < length xs → x ≡ get_or xs i x → map f (take (i + 1) xs) ≡ map f (take i xs) ++ f x ∷ []
map-more {X} f xs i x l is = ap (map f) (take_more xs i x l ∙ ap (λ (y : X). take i xs ++ y ∷ []) (sym is)) ∙ map_push f (take i xs) x

pub upto-more : {Y : Type 0} (f : ℕ → Y) (n : ℕ) → map f (upto (n + 1)) ≡ map f (upto n) ++ f n ∷ []
upto-more f n = ap (map f) (upto_more n) ∙ map_push f (upto n) n

module _ {X Y : Type 0} (p : Y → Bool) where
  -- what a flat map's next part adds to what passes
  pub filter-flat-more : (f : X → List Y) (xs : List X) (i : ℕ) (x : X) (old new : List Y) → i < length xs → x ≡ get_or xs i x → old ≡ filter p (flat_map f (take i xs)) → new ≡ old ++ filter p (f x)
      → new ≡ filter p (flat_map f (take (i + 1) xs))
  filter-flat-more f xs i x old new l is so_far adds =
      adds ∙ ap (λ (ys : List Y). ys ++ filter p (f x)) so_far ∙ sym (ap (filter p) (flat-more f xs i x l is) ∙ filter-append p (flat_map f (take i xs)) (f x))

module _ {Y : Type 0} (p : Y → Bool) (f : ℕ → Y) where
  one-more : (n : ℕ) → filter p (map f (upto (n + 1))) ≡ filter p (map f (upto n)) ++ cond (p (f n)) (f n ∷ []) []
  one-more n = ap (filter p) (upto-more f n) ∙ filter-append p (map f (upto n)) (f n ∷ [])

  pub kept-more : (n : ℕ) (start old new : List Y) → old ≡ start ++ filter p (map f (upto n)) → p (f n) ≡ true → new ≡ old ++ f n ∷ [] → new ≡ start ++ filter p (map f (upto (n + 1)))
  kept-more n start old new so_far e adds =
      adds ∙ ap (λ (ys : List Y). ys ++ f n ∷ []) so_far ∙ append_assoc start (filter p (map f (upto n))) (f n ∷ [])
      ∙ ap (λ (ys : List Y). start ++ ys) (sym (one-more n ∙ ap (λ b. filter p (map f (upto n)) ++ cond b (f n ∷ []) []) e))

  pub left-more : (n : ℕ) (start old new : List Y) → old ≡ start ++ filter p (map f (upto n)) → p (f n) ≡ false → new ≡ old → new ≡ start ++ filter p (map f (upto (n + 1)))
  left-more n start old new so_far e same =
      same ∙ so_far ∙ ap (λ (ys : List Y). start ++ ys) (sym (one-more n ∙ ap (λ b. filter p (map f (upto n)) ++ cond b (f n ∷ []) []) e ∙ append-nil (filter p (map f (upto n)))))

module _ {Y : Type 0} (p : Y → Bool) where
  taken-more : (xs : List Y) (i : ℕ) (x : Y) → i < length xs → x ≡ get_or xs i x → filter p (take (i + 1) xs) ≡ filter p (take i xs) ++ cond (p x) (x ∷ []) []
  taken-more xs i x l is = ap (filter p) (take_more xs i x l ∙ ap (λ (y : Y). take i xs ++ y ∷ []) (sym is)) ∙ filter-append p (take i xs) (x ∷ [])

  pub taken-kept : (xs : List Y) (i : ℕ) (x : Y) (old new : List Y) → i < length xs → x ≡ get_or xs i x → old ≡ filter p (take i xs) → p x ≡ true → new ≡ old ++ x ∷ [] → new ≡ filter p (take (i + 1) xs)
  taken-kept xs i x old new l is so_far e adds =
      adds ∙ ap (λ (ys : List Y). ys ++ x ∷ []) so_far ∙ sym (taken-more xs i x l is ∙ ap (λ b. filter p (take i xs) ++ cond b (x ∷ []) []) e)

  pub taken-left : (xs : List Y) (i : ℕ) (x : Y) (old new : List Y) → i < length xs → x ≡ get_or xs i x → old ≡ filter p (take i xs) → p x ≡ false → new ≡ old → new ≡ filter p (take (i + 1) xs)
  taken-left xs i x old new l is so_far e same = same ∙ so_far ∙ sym (taken-more xs i x l is ∙ ap (λ b. filter p (take i xs) ++ cond b (x ∷ []) []) e ∙ append-nil (filter p (take i xs)))

-- what passes both tests
filter-both : {X : Type 0} (p q r : X → Bool) (xs : List X) → ((x : X) → Listed x xs → p x ≡ (q x && r x)) → filter p xs ≡ filter r (filter q xs)
filter-both p q r [] e = refl
filter-both {X} p q r (x ∷ xs) e = by (p x) (q x) (r x) (e x (inl refl)) refl (filter-both p q r xs (λ y h. e y (inr h)))
  where
    by : (a b c : Bool) → a ≡ (b && c) → r x ≡ c → filter p xs ≡ filter r (filter q xs) → cond a (x ∷ filter p xs) (filter p xs) ≡ filter r (cond b (x ∷ filter q xs) (filter q xs))
    by a true c e f rest = ap (λ b. cond b (x ∷ filter p xs) (filter p xs)) e ∙ ap (λ (ys : List X). cond c (x ∷ ys) ys) rest ∙ sym (ap (λ b. cond b (x ∷ filter r (filter q xs)) (filter r (filter q xs))) f)
    by a false c e f rest = ap (λ b. cond b (x ∷ filter p xs) (filter p xs)) e ∙ rest

-- ---- sides with a column more
module _ (rs : List RowState) where
  pub side-with : (k : ℕ) (s : Side) (c : ℕ) → IsSide rs k s → c < width_at rs s.rel → IsSide rs (suc k) (extend s c)
  side-with k s c is l = record {
    rel = is.rel;
    long = length_push s.columns c ∙ (let e = is.long in omega arith);
    within = λ x h. by x (Listed-append_cases x s.columns (c ∷ []) h);
  }
    where
      by : (x : ℕ) → Listed x s.columns ⊎ Listed x (c ∷ []) → x < width_at rs s.rel
      by x (inl h) = is.within x h
      by x (inr (inl e)) = subst (λ (y : ℕ). y < width_at rs s.rel) (sym e) l
      by x (inr (inr h)) = absurd h

  sides-grown : (k : ℕ) (into : List Side) → ((i : Side) → Listed i into → IsSide rs k i) → (x : Side) → Listed x (flat_map (grown rs) into) → (i : Side) × (e : ℕ) × Listed i into × (e < width_at rs i.rel) × (x ≡ extend i e)
  sides-grown k into each x h =
      let w = Listed-flat_map_which (grown rs) x into h in
      let v = Listed-map_which (extend w.0) x (upto (width_at rs w.0.rel)) w.2 in
      (w.0, v.0, w.1, Listed-upto_within (width_at rs w.0.rel) v.0 v.1, v.2)

  side-grown : (k : ℕ) (into : List Side) → ((i : Side) → Listed i into → IsSide rs k i) → (x : Side) → Listed x (flat_map (grown rs) into) → IsSide rs (suc k) x
  side-grown k into each x h = let w = sides-grown k into each x h in subst (IsSide rs (suc k)) (sym w.4) (side-with k w.0 w.1 (each w.0 w.2) w.3)

  module _ (k : ℕ) (s : Side) (into : List Side) (is : IsGroup rs k (s, into)) (c : ℕ) (l : c < width_at rs s.rel) where
    abbrev candidates : List Side
    candidates = filter (is_candidate rs (extend s c)) (flat_map (grown rs) into)

    dependent : IsSide rs (suc k) (extend s c)
    dependent = side-with k s c is.side l

    pub next-single : k ≡ 0 → next_into rs (extend s c) into ≡ candidates
    unfolding next_into
    next-single z =
        filter_same (λ i. is_list_inclusion rs (from_to (extend s c) i)) (is_candidate rs (extend s c)) (flat_map (grown rs) into) (λ i h.
        checked-single rs (extend s c) i (subst (λ (n : ℕ). IsSide rs (suc n) (extend s c)) z dependent) (subst (λ (n : ℕ). IsSide rs (suc n) i) z (side-grown k into is.into i h)))

    pub next-checked : next_into rs (extend s c) into ≡ filter (λ i. holds_among rs (from_to (extend s c) i)) candidates
    unfolding next_into
    next-checked =
        filter-both (λ i. is_list_inclusion rs (from_to (extend s c) i)) (is_candidate rs (extend s c)) (λ i. holds_among rs (from_to (extend s c) i)) (flat_map (grown rs) into)
        (λ i h. checked rs k (extend s c) i dependent (side-grown k into is.into i h))

    pub candidate-side : (i : Side) → Listed i candidates → IsSide rs (suc k) i
    candidate-side i h = side-grown k into is.into i (Listed-filter_parts (is_candidate rs (extend s c)) i (flat_map (grown rs) into) h).0

    last-of : (t : Side) (e : ℕ) → last_column (extend t e) ≡ e
    last-of t e = get_or_push t.columns e 0 (length (t.columns ++ e ∷ []) - 1) (let n = length_push t.columns e in omega arith)

    with-last : (p : ℕ) (cs : List ℕ) (e : ℕ) → AreUsed rs p cs → is_used rs p e ≡ true → AreUsed rs p (cs ++ e ∷ [])
    with-last p cs e all here x h = by (Listed-append_cases x cs (e ∷ []) h)
      where
        by : Listed x cs ⊎ Listed x (e ∷ []) → is_used rs p x ≡ true
        by (inl g) = all x g
        by (inr (inl i)) = subst (λ (y : ℕ). is_used rs p y ≡ true) (sym i) here
        by (inr (inr g)) = absurd g

    module _ (i : Side) (h : Listed i candidates) where
      abbrev parts : (j : Side) × (e : ℕ) × Listed j into × (e < width_at rs j.rel) × (i ≡ extend j e)
      parts = sides-grown k into is.into i (Listed-filter_parts (is_candidate rs (extend s c)) i (flat_map (grown rs) into) h).0

      unary-last : (j : Side) (e : ℕ) → i ≡ extend j e → is_unary rs s.rel c j.rel e ≡ true
      unfolding is_candidate
      unary-last j e same =
          let w = (Listed-filter_parts (is_candidate rs (extend s c)) i (flat_map (grown rs) into) h).1 in
          let v : is_candidate rs (extend s c) (extend j e) ≡ true = subst (λ (x : Side). is_candidate rs (extend s c) x ≡ true) same w in
          let u = (and_parts (is_formed (from_to (extend s c) (extend j e))) (is_unary rs s.rel (last_column (extend s c)) j.rel (last_column (extend j e))) v).1 in
          sym (ap₂ (λ (x y : ℕ). is_unary rs s.rel x j.rel y) (last-of s c) (last-of j e)) ∙ u

      pub candidate-used : AreUsed rs s.rel (s.columns ++ c ∷ []) × AreUsed rs i.rel i.columns
      candidate-used = by parts.0 parts.1 parts.2 parts.3 parts.4
        where
          by : (j : Side) (e : ℕ) → Listed j into → e < width_at rs j.rel → i ≡ extend j e → AreUsed rs s.rel (s.columns ++ c ∷ []) × AreUsed rs i.rel i.columns
          by j e g m same =
              let u = unary-last j e same in
              let js = is.into j g in (
                with-last s.rel s.columns c (used-dependent rs k s j is.side js (is.holds j g)) (used-first rs s.rel c j.rel e is.side.rel l js.rel m u),
                subst (λ (x : Side). AreUsed rs x.rel x.columns) (sym same)
                    (with-last j.rel j.columns e (used-referenced rs k s j is.side js (is.holds j g)) (used-second rs s.rel c j.rel e is.side.rel l js.rel m u)),
              )

-- ---- a group with a column more
abbrev pub same_pair : Side × List Side → Side × List Side → Type 0
same_pair p q = p ≡ q

module _ (rs : List RowState) (k : ℕ) (s : Side) (into : List Side) (is : IsGroup rs k (s, into)) (c : ℕ) (l : c < width_at rs s.rel) (d : Side) (same : d ≡ extend s c) (found : List Side)
    (are : found ≡ filter (is_candidate rs d) (flat_map (grown rs) into)) where
  are-candidates : found ≡ filter (is_candidate rs (extend s c)) (flat_map (grown rs) into)
  are-candidates = are ∙ ap (λ (x : Side). filter (is_candidate rs x) (flat_map (grown rs) into)) same

  pair-of : (held : List Side) → held ≡ next_into rs (extend s c) into → same_pair (d, held) (extend s c, next_into rs (extend s c) into)
  pair-of held e = ap₂ (λ (x : Side) (xs : List Side). (x, xs)) same e

  pub group-single : k ≡ 0 → same_pair (d, found) (extend s c, next_into rs (extend s c) into)
  group-single z = pair-of found (are-candidates ∙ sym (next-single rs k s into is c l z))

  pub group-none : found ≡ [] → same_pair (d, found) (extend s c, next_into rs (extend s c) into)
  group-none none =
      pair-of found (none ∙ sym (next-checked rs k s into is c l ∙ ap (filter (λ i. holds_among rs (from_to (extend s c) i))) (sym are-candidates ∙ none)))

  pub group-held : (held : List Side) → held ≡ filter (λ i. holds_among rs (from_to d i)) found → same_pair (d, held) (extend s c, next_into rs (extend s c) into)
  group-held held e =
      pair-of held (e ∙ ap₂ (λ (x : Side) (xs : List Side). filter (λ i. holds_among rs (from_to x i)) xs) same are-candidates ∙ sym (next-checked rs k s into is c l))

  pub side-now : IsSide rs (suc k) d
  side-now = subst (IsSide rs (suc k)) (sym same) (side-with rs k s c is.side l)

  pub side-long : IsSide rs (length d.columns) d
  side-long = subst (λ (n : ℕ). IsSide rs n d) (sym side-now.long) side-now

  listed-candidate : (i : Side) → Listed i found → Listed i (filter (is_candidate rs (extend s c)) (flat_map (grown rs) into))
  listed-candidate i h = subst (λ (xs : List Side). Listed i xs) are-candidates h

  pub found-sides : (i : Side) → Listed i found → IsSide rs (length d.columns) i × AreUsed rs i.rel i.columns
  found-sides i h = (
    subst (λ (n : ℕ). IsSide rs n i) (sym side-now.long) (candidate-side rs k s into is c l i (listed-candidate i h)),
    (candidate-used rs k s into is c l i (listed-candidate i h)).1,
  )

  pub side-used : (found ≡ [] → ⊥) → AreUsed rs d.rel d.columns
  side-used some = subst (λ (x : Side). AreUsed rs x.rel x.columns) (sym same) (by found some listed-candidate)
    where
      by : (xs : List Side) → (xs ≡ [] → ⊥) → ((i : Side) → Listed i xs → Listed i (filter (is_candidate rs (extend s c)) (flat_map (grown rs) into))) → AreUsed rs s.rel (s.columns ++ c ∷ [])
      by [] some f = absurd (some refl)
      by (x ∷ xs) some f = (candidate-used rs k s into is c l x (f x (inl refl))).0

-- ---- a level more
pub level-more : {G : Type 0} (rs : List RowState) (view : G → Side × List Side) (level : List G) (i : ℕ) (g : G) (old new : List (Side × List Side)) → i < length level → g ≡ get_or level i g
    → old ≡ flat_map (next_groups rs) (map view (take i level)) → new ≡ old ++ next_groups rs (view g) → new ≡ flat_map (next_groups rs) (map view (take (i + 1) level))
level-more rs view level i g old new l is so_far adds =
    adds ∙ ap (λ (xs : List (Side × List Side)). xs ++ next_groups rs (view g)) so_far
    ∙ sym (ap (flat_map (next_groups rs)) (map-more view level i g l is) ∙ flat_map-append (next_groups rs) (map view (take i level)) (view g ∷ []) ∙ ap (λ (xs : List (Side × List Side)). flat_map (next_groups rs) (map view (take i level)) ++ xs) (append-nil (next_groups rs (view g))))

pub member-at : {G : Type 0} (level : List G) (i : ℕ) (g : G) → i < length level → g ≡ get_or level i g → Listed g level
member-at level i g l is = subst (λ (x : _). Listed x level) (sym is) (Listed-get_or level i g l)

-- ---- a width more
pub widths-more : (rs : List RowState) (w : ℕ) → list_inclusions (w + 1) rs ≡ list_inclusions w rs ++ of_width (suc w) rs
unfolding list_inclusions
widths-more rs w =
    ap (flat_map (λ k. of_width (suc k) rs)) (upto_more w) ∙ flat_map-append (λ k. of_width (suc k) rs) (upto w) (w ∷ []) ∙ ap (λ (xs : List ListInd). flat_map (λ k. of_width (suc k) rs) (upto w) ++ xs) (append-nil (of_width (suc w) rs))

pub widths-none : (rs : List RowState) → list_inclusions 0 rs ≡ []
unfolding list_inclusions
widths-none rs = refl
