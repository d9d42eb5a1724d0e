-- The pairs that are left, and what they are of the columns.
use Rattle.std.proofs.Common.{◌≡◌, ◌∙◌, ◌+◌, inl, inr, ◌&&◌, ◌<◌, ℕ, zero, suc, arith, Bool, true, false, cond, not, eqb, refl, sym, ap, subst, List, [], ◌∷◌, ◌++◌, length, map, filter, flat_map, append_assoc, append-nil, add-zero, Option, Result, Ok, Err, Vec, IfOk, Contains, MatchResult}
use Rattle.std.specs.declared.alloc.Global.{Global}
use Rattle.std.specs.declared.alloc.AllocError.{AllocError}
use Rattle.std.specs.List.{AllZip, range_with_len}
use Rattle.std.proofs.lemmas.Bool.{and_from, and_parts, eq-eqb, false≢true, ne_eqb}
use Rattle.std.proofs.lemmas.List.{map-append}
use Rattle.std.proofs.lemmas.List.Concat.{flat_map-append}
use Rattle.std.proofs.lemmas.List.Elements.{filter-append}
use Rattle.col_set.specs.AllSets.{Listed-upto_within}
use Rattle.col_set.specs.ColSet.{upto}
use Rattle.col_set.specs.Lists.{Listed, Listed-flat_map_which, Listed-map_which, Listed-filter_parts}
use Rattle.col_set.proofs.Places.{Contains-listed, Listed-contained}
use Rattle.rel_base.specs.Cells.{Cell}
use Rattle.rel_base.specs.Inclusion.{Included, included, inclusions}
use Rattle.rel_base.proofs.Parts.{Included-tested, included-true}
use Rattle.std.specs.Borrow.{Bor}
use Rattle.inclusion_merge.specs.Asked.{AreOpen, AreWithin, TellsPicked, asked_cells, cells_asked}
use Rattle.inclusion_merge.specs.Candidates.{pairs_among, pairs_from}
use Rattle.inclusion_merge.specs.Sharing.{AllRise, TellsParts, list_at, values_behind}
use Rattle.inclusion_merge.specs.Values.{IsValuesOf}

-- ---- one more
range_more : (n a : ℕ) → range_with_len a (n + 1) ≡ range_with_len a n ++ (a + n) ∷ []
range_more zero a = ap (λ (i : ℕ). i ∷ []) (sym (add-zero a))
range_more (suc n) a =
    let e : suc n + 1 ≡ suc (n + 1) = omega arith in
    let f : a + 1 + n ≡ a + suc n = omega arith in
    ap (range_with_len a) e ∙ ap (λ is. a ∷ is) (range_more n (a + 1)) ∙ ap (λ (i : ℕ). (a ∷ range_with_len (a + 1) n) ++ i ∷ []) f

pub upto_more : (n : ℕ) → upto (n + 1) ≡ upto n ++ n ∷ []
upto_more n = let e : 0 + n ≡ n = omega arith in range_more n 0 ∙ ap (λ (i : ℕ). upto n ++ i ∷ []) e

module _ (p : ℕ × ℕ → Bool) where
  pub row_more : (c n : ℕ) → filter p (pairs_from c (upto (n + 1))) ≡ filter p (pairs_from c (upto n)) ++ cond (p (c, n)) ((c, n) ∷ []) []
  row_more c n =
      ap (λ (is : List ℕ). filter p (pairs_from c is)) (upto_more n) ∙ ap (λ xs. filter p xs) (map-append (λ (d : ℕ). (c, d)) (upto n) (n ∷ [])) ∙ filter-append p (pairs_from c (upto n)) ((c, n) ∷ [])

  pub rows_more : (columns n : ℕ) → filter p (flat_map (λ c. pairs_from c (upto columns)) (upto (n + 1))) ≡ filter p (flat_map (λ c. pairs_from c (upto columns)) (upto n)) ++ filter p (pairs_from n (upto columns))
  rows_more columns n =
      let f : ℕ → List (ℕ × ℕ) = λ c. pairs_from c (upto columns) in
      ap (λ (is : List ℕ). filter p (flat_map f is)) (upto_more n) ∙ ap (λ xs. filter p xs) (flat_map-append f (upto n) (n ∷ [])) ∙ filter-append p (flat_map f (upto n)) (f n ++ [])
      ∙ ap (λ (xs : List (ℕ × ℕ)). filter p (flat_map f (upto n)) ++ filter p xs) (append-nil (f n))

  module _ (c n : ℕ) (start before now : List (ℕ × ℕ)) (so_far : before ≡ start ++ filter p (pairs_from c (upto n))) where
    pub row_pushed : p (c, n) ≡ true → now ≡ before ++ (c, n) ∷ [] → now ≡ start ++ filter p (pairs_from c (upto (n + 1)))
    row_pushed passes is =
        is ∙ ap (λ (xs : List (ℕ × ℕ)). xs ++ (c, n) ∷ []) so_far ∙ append_assoc start (filter p (pairs_from c (upto n))) ((c, n) ∷ [])
        ∙ ap (λ (xs : List (ℕ × ℕ)). start ++ xs) (sym (row_more c n ∙ ap (λ b. filter p (pairs_from c (upto n)) ++ cond b ((c, n) ∷ []) []) passes))

    pub row_left : p (c, n) ≡ false → now ≡ before → now ≡ start ++ filter p (pairs_from c (upto (n + 1)))
    row_left fails is =
        is ∙ so_far
        ∙ ap (λ (xs : List (ℕ × ℕ)). start ++ xs)
        (sym (row_more c n ∙ ap (λ b. filter p (pairs_from c (upto n)) ++ cond b ((c, n) ∷ []) []) fails ∙ append-nil (filter p (pairs_from c (upto n)))))

-- ---- the values of each column
abbrev oks : List (Vec Cell Global) → List (Result (Vec Cell Global) AllocError)
oks lists = map (λ list. Ok list) lists

module _ {X : Type 0} (R : X → List Cell → Type 0) where
  values_zip : (columns : List X) (made : List (Result (Vec Cell Global) AllocError)) (lists : List (Vec Cell Global)) → made ≡ oks lists → AllZip (λ column r. IfOk r (λ values. R column values.items)) columns made
      → AllZip R columns (values_behind lists)
  values_zip columns made lists is all =
      by columns lists (subst (λ (rs : List (Result (Vec Cell Global) AllocError)). AllZip (λ column r. IfOk r (λ values. R column values.items)) columns rs) is all)
    where
      by : (columns : List X) (lists : List (Vec Cell Global)) → AllZip (λ column r. IfOk r (λ values. R column values.items)) columns (oks lists) → AllZip R columns (values_behind lists)
      by [] [] h = tt
      by [] (v ∷ vs) h = absurd h
      by (c ∷ cs) [] h = absurd h
      by (c ∷ cs) (v ∷ vs) h = (h.0, by cs vs h.1)

  pub values_made : (columns : List X) (made : List (Result (Vec Cell Global) AllocError)) (r : Result (Vec (Vec Cell Global) Global) AllocError)
      → AllZip (λ column r. IfOk r (λ values. R column values.items)) columns made
      → MatchResult r (λ v. (lists : List (Vec Cell Global)) × (made ≡ oks lists) × (v.items ≡ lists)) (λ e. Contains made (Err e)) → IfOk r (λ v. AllZip R columns (values_behind v.items))
  values_made columns made (Ok v) all h = subst (λ (lists : List (Vec Cell Global)). AllZip R columns (values_behind lists)) (sym h.2) (values_zip columns made h.0 h.1 all)
  values_made columns made (Err e) all h = tt

pub length-values_behind : (lists : List (Vec Cell Global)) → length (values_behind lists) ≡ length lists
length-values_behind [] = refl
length-values_behind (v ∷ vs) = ap suc (length-values_behind vs)

-- ---- what the lists tell of the columns that were asked of
module _ (picked : Cell → Bool) where
  values_at : (asked : List (Option (Bor (List Cell)))) (lists : List (List Cell)) → AllZip (λ column list. IsValuesOf picked (asked_cells column) list) asked lists
      → (length lists ≡ length (cells_asked asked)) × ((i : ℕ) → i < length (cells_asked asked) → IsValuesOf picked (list_at (cells_asked asked) i) (list_at lists i))
  values_at [] [] all = (refl, λ i l. absurd (omega arith))
  values_at [] (v ∷ vs) all = absurd all
  values_at (c ∷ cs) [] all = absurd all
  values_at (c ∷ cs) (v ∷ vs) all = let rest = values_at cs vs all.1 in (ap suc rest.0, at rest.1)
    where
      at : ((i : ℕ) → i < length (cells_asked cs) → IsValuesOf picked (list_at (cells_asked cs) i) (list_at vs i)) → (i : ℕ) → i < length (cells_asked (c ∷ cs))
          → IsValuesOf picked (list_at (cells_asked (c ∷ cs)) i) (list_at (v ∷ vs) i)
      at rest zero l = all.0
      at rest (suc i) l = rest i (omega arith)

  module _ (asked : List (Option (Bor (List Cell)))) (lists : List (List Cell)) (all : AllZip (λ column list. IsValuesOf picked (asked_cells column) list) asked lists) where
    pub values_rise : AllRise lists
    values_rise place l =
        let at = values_at asked lists all in
        let long = at.0 in
        (at.1 place (omega arith)).rises

    pub values_long : length lists ≡ length (cells_asked asked)
    values_long = (values_at asked lists all).0

    pub parts-picked : (has : ℕ → ℕ → Bool) → TellsParts lists has → TellsPicked picked (cells_asked asked) has
    parts-picked has tells c d l m =
        let at = values_at asked lists all in
        let long = at.0 in
        let told = tells c d (omega arith) (omega arith) in
        let first = at.1 c l in
        let second = at.1 d m in (
          (λ e a h filled here. ((second.each a).0 (told.0 e a ((first.each a).1 (h, filled, here)))).0),
          (λ part. told.1 (λ a k. let w = (first.each a).0 k in (second.each a).1 (part a w.0 w.1 w.2, w.1, w.2))),
        )

-- ---- the pairs that a round leaves, and the inclusions
filter_through : {X : Type 0} (p q : X → Bool) (xs : List X) → ((x : X) → Listed x xs → q x ≡ true → p x ≡ true) → filter q (filter p xs) ≡ filter q xs
filter_through p q [] f = refl
filter_through p q (x ∷ xs) f = by (p x) (q x) (f x (inl refl)) refl refl (filter_through p q xs (λ y h. f y (inr h)))
  where
    by : (a b : Bool) → (q x ≡ true → p x ≡ true) → p x ≡ a → q x ≡ b → filter q (filter p xs) ≡ filter q xs → filter q (cond (p x) (x ∷ filter p xs) (filter p xs)) ≡ cond (q x) (x ∷ filter q xs) (filter q xs)
    by true b f e g rest = ap (λ c. filter q (cond c (x ∷ filter p xs) (filter p xs))) e ∙ ap (λ ys. cond (q x) (x ∷ ys) ys) rest
    by false true f e g rest = absurd (false≢true (sym e ∙ f g))
    by false false f e g rest = ap (λ c. filter q (cond c (x ∷ filter p xs) (filter p xs))) e ∙ rest ∙ ap (λ c. cond c (x ∷ filter q xs) (filter q xs)) (sym g)

among_within : (n : ℕ) → AreWithin n (pairs_among n n)
among_within n p h =
    let v = Listed-flat_map_which (λ (c : ℕ). pairs_from c (upto n)) p (upto n) h in
    let w = Listed-map_which (λ (d : ℕ). (v.0, d)) p (upto n) v.2 in
    let first : p.0 ≡ v.0 = ap (λ (q : ℕ × ℕ). q.0) w.2 in
    let second : p.1 ≡ w.0 = ap (λ (q : ℕ × ℕ). q.1) w.2 in
    let a = Listed-upto_within n v.0 v.1 in
    let b = Listed-upto_within n w.0 w.1 in
    (omega arith, omega arith)

differ : (c d : ℕ) → not (eqb c d) ≡ true → c ≡ d → ⊥
differ c d e same = false≢true (sym (ap not (eq-eqb c d same)) ∙ e)

-- an inclusion is left by each round
module _ (columns : List (List Cell)) (picked : Cell → Bool) (has : ℕ → ℕ → Bool) (tells : TellsPicked picked columns has) where
  Included-left : (c d : ℕ) → Included columns c d → (not (eqb c d) && has c d) ≡ true
  Included-left c d h =
      and_from (not (eqb c d)) (has c d) (ap not (ne_eqb c d h.other))
      ((tells c d h.dependent h.referenced).1 (λ a k filled here. Listed-contained a _ (h.each a (Contains-listed a _ k) filled)))

  -- a pair that is left is an inclusion where all values of its dependent column were picked
  pub left-included : (n : ℕ) → n ≡ length columns → (p : ℕ × ℕ) → Listed p (filter (λ p. not (eqb p.0 p.1) && has p.0 p.1) (pairs_among n n)) → ((a : Cell) → Listed a (list_at columns p.0) → picked a ≡ true)
      → included columns p.0 p.1 ≡ true
  left-included n is p h all =
      let parts = Listed-filter_parts (λ p. not (eqb p.0 p.1) && has p.0 p.1) p (pairs_among n n) h in
      let within = among_within n p parts.0 in
      let left = and_parts (not (eqb p.0 p.1)) (has p.0 p.1) parts.1 in
      let l : p.0 < length columns = omega arith in
      let m : p.1 < length columns = omega arith in
      included-true columns p.0 p.1 (record {
        dependent = l;
        referenced = m;
        other = differ p.0 p.1 left.0;
        each = λ a k filled. let here = Listed-contained a _ k in Contains-listed a _ ((tells p.0 p.1 l m).0 left.1 a here filled (all a here));
      })

  pub left-open : (n : ℕ) → n ≡ length columns → AreOpen columns (filter (λ p. not (eqb p.0 p.1) && has p.0 p.1) (pairs_among n n))
  unfolding inclusions
  left-open n is =
      let left : ℕ × ℕ → Bool = λ p. not (eqb p.0 p.1) && has p.0 p.1 in
      let parts : (p : ℕ × ℕ) → Listed p (filter left (pairs_among n n)) → Listed p (pairs_among n n) × (left p ≡ true) = λ p h. Listed-filter_parts left p (pairs_among n n) h in
      record {
        within = λ p h. let w = among_within n p (parts p h).0 in (omega arith, omega arith);
        other = λ p h. differ p.0 p.1 (and_parts (not (eqb p.0 p.1)) (has p.0 p.1) (parts p h).1).0;
        all =
            filter_through left (λ p. included columns p.0 p.1) (pairs_among n n)
            (λ p h e. let w = among_within n p h in Included-left p.0 p.1 (Included-tested columns p.0 p.1 (omega arith) (omega arith) e))
            ∙ ap (λ (n : ℕ). filter (λ p. included columns p.0 p.1) (pairs_among n n)) is;
      }
