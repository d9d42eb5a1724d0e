-- Lists of one column.
use Rattle.std.proofs.Common.{◌≡◌, ℕ, zero, suc, ◌+◌, ◌<◌, Bool, true, false, ◌&&◌, ◌||◌, not, eqb, refl, sym, ap, ap₂, ◌∙◌, arith, List, [], ◌∷◌, length, map, get_or}
use Rattle.std.specs.List.{list_all, list_any, range_with_len}
use Rattle.std.proofs.lemmas.Bool.{eq-eqb, eqb-true, eqb-false}
use Rattle.std.proofs.lemmas.List.{get_or-append-add, get_or_append_left, length-append}
use Rattle.std.proofs.lemmas.List.FromFn.{length-map-range_with_len}
use Rattle.col_set.specs.ColSet.{upto}
use Rattle.rel_base.specs.Cells.{Cell, Row, cell}
use Rattle.rel_base.specs.Agreement.{same_cell}
use Rattle.rel_base.specs.Projection.{same_row}
use Rattle.rel_base.specs.RowState.{RowState, width, row}
use Rattle.rel_base.specs.Inclusion.{all_columns, column_cells, included}
use Rattle.nary_ind.specs.ListInclusions.{tuple, rows_at, width_at, are_among, is_formed}
use Rattle.nary_ind.specs.Laws.{start_of, position_of, is_unary, WidthOneIsUnary}
use Rattle.nary_ind.proofs.Among.{map-twice}

-- ---- where columns stand
start-apart : (ws : List ℕ) (p q c d : ℕ) → p < length ws → q < length ws → c < get_or ws p 0 → d < get_or ws q 0 → start_of ws p + c ≡ start_of ws q + d → (p ≡ q) × (c ≡ d)
start-apart [] p q c d l m i j e = absurd (omega arith)
start-apart (w ∷ ws) zero zero c d l m i j e = (refl, omega arith)
start-apart (w ∷ ws) zero (suc q) c d l m i j e = absurd (omega arith)
start-apart (w ∷ ws) (suc p) zero c d l m i j e = absurd (omega arith)
start-apart (w ∷ ws) (suc p) (suc q) c d l m i j e = let r = start-apart ws p q c d (omega arith) (omega arith) i j (omega arith) in let f = r.0 in (omega arith, r.1)

pub columns-long : (r : RowState) → length (map (column_cells r) (upto (width r))) ≡ width r
columns-long r = length-map-range_with_len (column_cells r) 0 (width r)

pub get_or-range : {A : Type 0} (f : ℕ → A) (n a k : ℕ) (d : A) → k < n → get_or (map f (range_with_len a n)) k d ≡ f (a + k)
get_or-range f zero a k d l = absurd (omega arith)
get_or-range f (suc n) a zero d l = ap f (omega arith)
get_or-range f (suc n) a (suc k) d l = get_or-range f n (a + 1) k d (omega arith) ∙ ap f (omega arith)

-- the column at a position
pub column-at : (rs : List RowState) (p c : ℕ) → p < length rs → c < width_at rs p → get_or (all_columns rs) (position_of rs p c) [] ≡ map (λ (x : Row). cell x c) (rows_at rs p)
column-at [] p c l m = absurd (omega arith)
column-at (r ∷ rs) zero c l m =
    let long = columns-long r in
    let z : 0 + c ≡ c = omega arith in
    ap (λ (k : ℕ). get_or (all_columns (r ∷ rs)) k []) z
    ∙ get_or_append_left (map (column_cells r) (upto (width r))) (all_columns rs) [] c (omega arith)
    ∙ get_or-range (column_cells r) (width r) 0 c [] m ∙ ap (column_cells r) z
    ∙ sym (map-twice (λ (x : Row). cell x c) (row r) r.live)
column-at (r ∷ rs) (suc p) c l m =
    let long = columns-long r in
    let e : width r + start_of (map width rs) p + c ≡ length (map (column_cells r) (upto (width r))) + (start_of (map width rs) p + c) = omega arith in
    ap (λ (k : ℕ). get_or (all_columns (r ∷ rs)) k []) e
    ∙ get_or-append-add (map (column_cells r) (upto (width r))) (all_columns rs) (start_of (map width rs) p + c) []
    ∙ column-at rs p c (omega arith) m

-- positions are places among the columns
pub position-within : (rs : List RowState) (p c : ℕ) → p < length rs → c < width_at rs p → position_of rs p c < length (all_columns rs)
position-within [] p c l m = absurd (omega arith)
position-within (r ∷ rs) zero c l m =
    let long = columns-long r in
    let e = length-append (map (column_cells r) (upto (width r))) (all_columns rs) in
    omega arith
position-within (r ∷ rs) (suc p) c l m =
    let long = columns-long r in
    let e = length-append (map (column_cells r) (upto (width r))) (all_columns rs) in
    let h = position-within rs p c (omega arith) m in
    omega arith

-- ---- tuples of one cell
and-true : (b : Bool) → (b && true) ≡ b
and-true true = refl
and-true false = refl

any-single : (a : Cell) (bs : List Cell) → list_any (same_row (a ∷ [])) (map (λ (b : Cell). b ∷ []) bs) ≡ list_any (same_cell a) bs
any-single a [] = refl
any-single a (b ∷ bs) = ap₂ (λ (x y : Bool). x || y) (and-true (same_cell a b)) (any-single a bs)

among-single : (xs bs : List Cell) → are_among (map (λ (a : Cell). a ∷ []) xs) (map (λ (b : Cell). b ∷ []) bs) ≡ list_all (λ a. same_cell a [] || list_any (same_cell a) bs) xs
unfolding are_among
among-single [] bs = refl
among-single (a ∷ xs) bs = ap₂ (λ (x y : Bool). x && y) (ap₂ (λ (x y : Bool). x || y) (and-true (same_cell a [])) (any-single a bs)) (among-single xs bs)

single-tuples : (c : ℕ) (rows : List Row) → map (tuple (c ∷ [])) rows ≡ map (λ (a : Cell). a ∷ []) (map (λ (x : Row). cell x c) rows)
single-tuples c rows = sym (map-twice (λ (a : Cell). a ∷ []) (λ (x : Row). cell x c) rows)

-- ---- the law
pub width-at-length : (rs : List RowState) (p : ℕ) → p < length rs → p < length (map width rs)
width-at-length [] p l = absurd (omega arith)
width-at-length (r ∷ rs) zero l = omega arith
width-at-length (r ∷ rs) (suc p) l = let h = width-at-length rs p (omega arith) in omega arith

-- two columns are at one position where they are one column of one relation
same-position : (rs : List RowState) (p c q d : ℕ) → p < length rs → c < width_at rs p → q < length rs → d < width_at rs q
    → (not (eqb p q) || (not (eqb c d) && true)) ≡ not (eqb (position_of rs p c) (position_of rs q d))
same-position rs p c q d l i m j = by (eqb (position_of rs p c) (position_of rs q d)) refl
  where
    by : (b : Bool) → eqb (position_of rs p c) (position_of rs q d) ≡ b → (not (eqb p q) || (not (eqb c d) && true)) ≡ not (eqb (position_of rs p c) (position_of rs q d))
    by true e =
        let r = start-apart (map width rs) p q c d (width-at-length rs p l) (width-at-length rs q m) i j (eqb-true _ _ e) in
        ap₂ (λ (x y : Bool). not x || (not y && true)) (eq-eqb p q r.0) (eq-eqb c d r.1) ∙ ap not (sym e)
    by false e = other (eqb p q) (eqb c d) refl refl ∙ ap not (sym e)
      where
        other : (x y : Bool) → eqb p q ≡ x → eqb c d ≡ y → (not (eqb p q) || (not (eqb c d) && true)) ≡ true
        other false y f g = ap (λ (x : Bool). not x || (not (eqb c d) && true)) f
        other true false f g = ap₂ (λ (x y : Bool). not x || (not y && true)) f g
        other true true f g =
            absurd (eqb-false _ _ e (ap₂ (λ (p c : ℕ). position_of rs p c) (eqb-true p q f) (eqb-true c d g)))

pub width-one : WidthOneIsUnary
unfolding is_unary included is_formed
width-one rs p c q d l i m j =
    ap₂ (λ (x y : Bool). x && y) (same-position rs p c q d l i m j)
    (ap₂ are_among (single-tuples c (rows_at rs p)) (single-tuples d (rows_at rs q))
    ∙ among-single (map (λ (x : Row). cell x c) (rows_at rs p)) (map (λ (x : Row). cell x d) (rows_at rs q))
    ∙ ap₂ (λ (xs bs : List Cell). list_all (λ a. same_cell a [] || list_any (same_cell a) bs) xs) (sym (column-at rs p c l i)) (sym (column-at rs q d m j)))
