-- Rows that are filled cell by cell.
use Rattle.std.proofs.Common.{inl, inr, ◌≡◌, ℕ, zero, suc, ◌+◌, ◌<◌, ◌≤◌, eqb, ltb, Bool, true, false, cond, not, refl, sym, ap, ap₂, ◌∙◌, subst, arith, List, [], ◌∷◌, ◌++◌, length, map, get_or, append_assoc, append-nil, replicate, Some, None}
use Rattle.std.specs.List.{filter, range_with_len}
use Rattle.std.proofs.lemmas.Bool.{and_parts, and_from, true≢false, le-ltb}
use Rattle.std.proofs.lemmas.List.{map-append}
use Rattle.std.proofs.lemmas.Cmp.{nat_cmp_total}
use Rattle.col_set.specs.ColSet.{IsSubset, has, all, inter, without, size, first, columns, upto}
use Rattle.col_set.specs.Lists.{Listed, Listed-filter, Listed-filter_parts}
use Rattle.col_set.specs.Members.{has-all, has-inter, has-without}
use Rattle.col_set.specs.AllSets.{Ascends, Ascends_within}
use Rattle.col_set.proofs.EachColumn.{first-Some, first-None, Listed-columns, columns-listed, Ascends-columns}
use Rattle.col_set.proofs.Places.{Climbs, same_rising}
use Rattle.rel_base.specs.Cells.{Cell, Row}
use Rattle.rel_base.proofs.States.{Rises-Climbs}
use Rattle.rel_base.proofs.Valid.{Climbs-filter}
use Rattle.lossless_join.specs.Parts.{part_cell}

-- ---- the columns of a set, one after another
pub record Filling (f : ℕ → Cell) (s left : ℕ) (fields : Row) (partial : Cell) : Type 0 where
  pub filled : fields ++ map f (columns left) ≡ map f (columns s)
  pub whole : partial ≡ []
  pub rest : IsSubset left s

module _ (f : ℕ → Cell) (s : ℕ) where
  pub filling_start : (fields : Row) (partial : Cell) → fields ≡ [] → partial ≡ [] → Filling f s s fields partial
  filling_start fields partial e w = record { filled = ap (λ (r : Row). r ++ map f (columns s)) e; whole = w; rest = record { each = λ k h. h } }

  module _ (left : ℕ) (fields : Row) (partial : Cell) (u : Filling f s left fields partial) where
    pub filling_column : (column : ℕ) → Some column ≡ first left → has s column ≡ true
    filling_column column e = u.rest.each column (first-Some left column e).had

    pub filling_smaller : (column rest : ℕ) → Some column ≡ first left → rest ≡ without left column → rest < left
    filling_smaller column rest e r = subst (λ (z : ℕ). z < left) (sym r) (first-Some left column e).smaller

    pub filling_more : (column rest : ℕ) (c : Cell) (more : Row) (after : Cell) → Some column ≡ first left → rest ≡ without left column → c ≡ f column → more ≡ fields ++ (partial ++ c) ∷ [] → after ≡ [] → Filling f s rest more after
    filling_more column rest c more after e r is m w = record {
      filled = ap (λ (row : Row). row ++ map f (columns rest)) (m ∙ ap (λ (p : Cell). fields ++ (p ++ c) ∷ []) u.whole)
          ∙ append_assoc fields (c ∷ []) (map f (columns rest))
          ∙ ap (λ (row : Row). fields ++ row) (ap₂ (λ (d : Cell) (z : ℕ). d ∷ map f (columns z)) is r ∙ sym (ap (map f) (first-Some left column e).columns_are))
          ∙ u.filled;
      whole = w;
      rest = record { each = λ k h. u.rest.each k (and_parts (has left k) (not (eqb k column)) (sym (has-without left column k) ∙ ap (λ (z : ℕ). has z k) (sym r) ∙ h)).0 };
    }

    pub filling_end : None ≡ first left → fields ≡ map f (columns s)
    filling_end e = sym (append-nil fields) ∙ ap (λ (row : Row). fields ++ row) (sym (ap (map f) (first-None left e))) ∙ u.filled

-- ---- the columns below a number, one after another
range_more : (n a : ℕ) → range_with_len a (n + 1) ≡ range_with_len a n ++ (a + n) ∷ []
range_more zero a = let e : a + 0 ≡ a = omega arith in ap (λ (i : ℕ). i ∷ []) (sym e)
range_more (suc n) a = let e : suc n + 1 ≡ suc (n + 1) = omega arith in let g : a + 1 + n ≡ a + suc n = omega arith in
    ap (range_with_len a) e ∙ ap (λ (is : List ℕ). a ∷ is) (range_more n (a + 1)) ∙ ap (λ (i : ℕ). (a ∷ range_with_len (a + 1) n) ++ i ∷ []) g

pub upto_more : (n : ℕ) → upto (n + 1) ≡ upto n ++ n ∷ []
upto_more n = range_more n 0 ∙ (let e : 0 + n ≡ n = omega arith in ap (λ (i : ℕ). upto n ++ i ∷ []) e)

-- so many cells of a row, and nothing else
pub record Laid (f : ℕ → Cell) (n : ℕ) (fields : Row) (partial : Cell) : Type 0 where
  pub filled : fields ≡ map f (upto n)
  pub whole : partial ≡ []

pub laid_start : (f : ℕ → Cell) (fields : Row) (partial : Cell) → fields ≡ [] → partial ≡ [] → Laid f 0 fields partial
laid_start f fields partial e w = record { filled = e; whole = w }

pub laid_more : (f : ℕ → Cell) (n : ℕ) (fields : Row) (partial : Cell) → Laid f n fields partial → (c : Cell) (more : Row) (after : Cell) → c ≡ f n → more ≡ fields ++ (partial ++ c) ∷ [] → after ≡ [] → Laid f (n + 1) more after
laid_more f n fields partial u c more after is m w = record {
  filled = m ∙ ap₂ (λ (row : Row) (p : Cell). row ++ (p ++ c) ∷ []) u.filled u.whole ∙ ap (λ (d : Cell). map f (upto n) ++ d ∷ []) is
      ∙ sym (map-append f (upto n) (n ∷ [])) ∙ ap (map f) (sym (upto_more n));
  whole = w;
}

pub laid_end : (f : ℕ → Cell) (n m : ℕ) (fields : Row) (partial : Cell) → Laid f n fields partial → n ≡ m → fields ≡ map f (upto m)
laid_end f n m fields partial u e = u.filled ∙ ap (λ (k : ℕ). map f (upto k)) e

-- a row of NULLs
abbrev pub null_at : ℕ → Cell
null_at k = []

nulls-range : (n a : ℕ) → map null_at (range_with_len a n) ≡ replicate n []
nulls-range zero a = refl
nulls-range (suc n) a = ap (λ (row : Row). [] ∷ row) (nulls-range n (a + 1))

pub nulls-upto : (n : ℕ) → map null_at (upto n) ≡ replicate n []
nulls-upto n = nulls-range n 0

-- ---- the place of a part's cell
Ascends-Climbs : (a b : ℕ) (xs : List ℕ) → Ascends a b xs → Climbs xs
Ascends-Climbs a b [] r = tt
Ascends-Climbs a b (x ∷ xs) r = ((λ y h. let w = (Ascends_within (x + 1) b y xs r.2 h).0 in omega arith), Ascends-Climbs (x + 1) b xs r.2)

columns-climb : (x : ℕ) → Climbs (columns x)
columns-climb x = Ascends-Climbs 0 x (columns x) (Ascends-columns x)

-- the columns of a set below one of them
columns-below : (s k : ℕ) → columns (inter s (all k)) ≡ filter (λ j. ltb j k) (columns s)
columns-below s k = same_rising nat_cmp_total _ _ (Rises-Climbs _ (columns-climb (inter s (all k)))) (Rises-Climbs _ (Climbs-filter (λ j. ltb j k) (columns s) (columns-climb s)))
    (λ j l. let q = and_parts (has s j) (has (all k) j) (sym (has-inter s (all k) j) ∙ columns-listed (inter s (all k)) j l) in
    Listed-filter (λ j. ltb j k) j (columns s) (Listed-columns s j q.0) (sym (has-all k j) ∙ q.1))
    (λ j l. let w = Listed-filter_parts (λ j. ltb j k) j (columns s) l in
    Listed-columns (inter s (all k)) j (has-inter s (all k) j ∙ and_from _ _ (columns-listed s j w.0) (has-all k j ∙ w.1)))

size-below : (s k : ℕ) → size (inter s (all k)) ≡ length (filter (λ j. ltb j k) (columns s))
unfolding size
size-below s k = ap length (columns-below s k)

fewer : (p : ℕ → Bool) (x : ℕ) (xs : List ℕ) → Listed x xs → p x ≡ false → length (filter p xs) < length xs
fewer p x [] h n = absurd h
fewer p x (y ∷ xs) (inl e) n = at (p y) (sym (ap p e) ∙ n) (no_more xs)
  where
    no_more : (xs : List ℕ) → length (filter p xs) ≤ length xs
    no_more [] = omega arith
    no_more (y ∷ xs) = by (p y) (no_more xs)
      where
        by : (b : Bool) → length (filter p xs) ≤ length xs → length (cond b (y ∷ filter p xs) (filter p xs)) ≤ suc (length xs)
        by true l = omega arith
        by false l = omega arith

    at : (b : Bool) → b ≡ false → length (filter p xs) ≤ length xs → length (cond b (y ∷ filter p xs) (filter p xs)) < suc (length xs)
    at true g l = absurd (true≢false g)
    at false g l = omega arith
fewer p x (y ∷ xs) (inr h) n = at (p y) (fewer p x xs h n)
  where
    at : (b : Bool) → length (filter p xs) < length xs → length (cond b (y ∷ filter p xs) (filter p xs)) < suc (length xs)
    at true l = omega arith
    at false l = omega arith

pub place-within : (s k place n : ℕ) → has s k ≡ true → place ≡ size (inter s (all k)) → n ≡ size s → place < n
unfolding size
place-within s k place n h e f =
    let l = fewer (λ j. ltb j k) k (columns s) (Listed-columns s k h) (le-ltb k k (omega arith)) in
    let g : place ≡ length (filter (λ j. ltb j k) (columns s)) = e ∙ size-below s k in
    omega arith

pub place-cell : (s k place : ℕ) (part : Row) → place ≡ size (inter s (all k)) → get_or part place [] ≡ part_cell s part k
unfolding part_cell
place-cell s k place part e = ap (λ (i : ℕ). get_or part i []) (e ∙ size-below s k)
