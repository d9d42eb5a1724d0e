-- The cells of parts of rows, when two parts are equal, and their agree sets.
use Rattle.std.proofs.Common.{inl, inr, ◌≡◌, ℕ, ◌+◌, ◌≤◌, ltb, true, false, cond, refl, sym, ap, ap₂, ◌∙◌, arith, List, [], ◌∷◌, length, map, get_or}
use Rattle.std.specs.List.{filter}
use Rattle.std.proofs.lemmas.Bool.{lt-ltb, le-ltb}
use Rattle.col_set.specs.ColSet.{has, columns}
use Rattle.col_set.specs.Lists.{Listed, Listed-filter, Listed-filter_parts}
use Rattle.col_set.specs.AllSets.{Ascends, Ascends_within, set_of-has, has-set_of}
use Rattle.col_set.proofs.EachColumn.{Listed-columns, columns-listed, Ascends-columns}
use Rattle.rel_base.specs.Cells.{Cell, Row, cell}
use Rattle.rel_base.specs.Agreement.{same_cell}
use Rattle.rel_base.specs.Projection.{part}
use Rattle.rel_base.proofs.Agree.{same_cell-true, true-same_cell}
use Rattle.lossless_join.specs.Parts.{part_cell, part_agree}

-- ---- maps that agree on a list
module _ {X Y : Type 0} where
  pub map_same : (f g : X → Y) (xs : List X) → ((x : X) → Listed x xs → f x ≡ g x) → map f xs ≡ map g xs
  map_same f g [] h = refl
  map_same f g (x ∷ xs) h = ap₂ (λ (y : Y) (ys : List Y). y ∷ ys) (h x (inl refl)) (map_same f g xs (λ y l. h y (inr l)))

  pub map_at : (f g : X → Y) (x : X) (xs : List X) → map f xs ≡ map g xs → Listed x xs → f x ≡ g x
  map_at f g x [] e h = absurd h
  map_at f g x (y ∷ xs) e (inl i) = let first : f y ≡ g y = cc in ap f i ∙ first ∙ sym (ap g i)
  map_at f g x (y ∷ xs) e (inr h) = let rest : map f xs ≡ map g xs = cc in map_at f g x xs rest h

-- ---- when two parts are equal
pub part-same : (s : ℕ) (a b : Row) → ((k : ℕ) → has s k ≡ true → cell a k ≡ cell b k) → part s a ≡ part s b
unfolding part
part-same s a b h = map_same (cell a) (cell b) (columns s) (λ k l. h k (columns-listed s k l))

pub part-cells : (s : ℕ) (a b : Row) → part s a ≡ part s b → (k : ℕ) → has s k ≡ true → cell a k ≡ cell b k
unfolding part
part-cells s a b e k h = map_at (cell a) (cell b) k (columns s) e (Listed-columns s k h)

-- ---- the cell of a part
no_smaller : (k a b : ℕ) (cs : List ℕ) → k ≤ a → Ascends a b cs → filter (λ j. ltb j k) cs ≡ []
no_smaller k a b [] l r = refl
no_smaller k a b (c ∷ cs) l r =
    let low = r.0 in
    let e : ltb c k ≡ false = le-ltb c k (omega arith) in
    ap (λ t. cond t (c ∷ filter (λ j. ltb j k) cs) (filter (λ j. ltb j k) cs)) e ∙ no_smaller k (c + 1) b cs (omega arith) r.2

cell_at : (f : ℕ → Cell) (k a b : ℕ) (cs : List ℕ) → Ascends a b cs → Listed k cs → get_or (map f cs) (length (filter (λ j. ltb j k) cs)) [] ≡ f k
cell_at f k a b [] r h = absurd h
cell_at f k a b (c ∷ cs) r (inl i) =
    let e : filter (λ j. ltb j k) (c ∷ cs) ≡ [] = no_smaller k c b (c ∷ cs) (omega arith) (omega arith, r.1, r.2) in
    ap (λ (js : List ℕ). get_or (map f (c ∷ cs)) (length js) []) e ∙ sym (ap f i)
cell_at f k a b (c ∷ cs) r (inr h) =
    let w = (Ascends_within (c + 1) b k cs r.2 h).0 in
    let e : ltb c k ≡ true = lt-ltb c k (omega arith) in
    ap (λ t. get_or (map f (c ∷ cs)) (length (cond t (c ∷ filter (λ j. ltb j k) cs) (filter (λ j. ltb j k) cs))) []) e ∙ cell_at f k (c + 1) b cs r.2 h

pub part_cell-part : (s : ℕ) (row : Row) (k : ℕ) → has s k ≡ true → part_cell s (part s row) k ≡ cell row k
unfolding part_cell part
part_cell-part s row k h = cell_at (cell row) k 0 s (columns s) (Ascends-columns s) (Listed-columns s k h)

-- ---- the agree set of two parts
pub part_agree-parts : (s : ℕ) (p q : Row) (k : ℕ) → has (part_agree s p q) k ≡ true → (has s k ≡ true) × (part_cell s p k ≡ part_cell s q k)
unfolding part_agree
part_agree-parts s p q k e =
    let w = Listed-filter_parts (λ k. same_cell (part_cell s p k) (part_cell s q k)) k (columns s) (set_of-has k _ e) in
    (columns-listed s k w.0, same_cell-true _ _ w.1)

pub part_agree-from : (s : ℕ) (p q : Row) (k : ℕ) → has s k ≡ true → part_cell s p k ≡ part_cell s q k → has (part_agree s p q) k ≡ true
unfolding part_agree
part_agree-from s p q k h e = has-set_of k _ (Listed-filter (λ k. same_cell (part_cell s p k) (part_cell s q k)) k (columns s) (Listed-columns s k h) (true-same_cell _ _ e))

-- of the parts of two rows it has the columns of s in which the rows' cells are equal
pub rows_agree-parts : (s : ℕ) (a b : Row) (k : ℕ) → has (part_agree s (part s a) (part s b)) k ≡ true → (has s k ≡ true) × (cell a k ≡ cell b k)
rows_agree-parts s a b k e =
    let w = part_agree-parts s (part s a) (part s b) k e in
    (w.0, sym (part_cell-part s a k w.0) ∙ w.1 ∙ part_cell-part s b k w.0)

pub rows_agree-from : (s : ℕ) (a b : Row) (k : ℕ) → has s k ≡ true → cell a k ≡ cell b k → has (part_agree s (part s a) (part s b)) k ≡ true
rows_agree-from s a b k h e = part_agree-from s (part s a) (part s b) k h (part_cell-part s a k h ∙ e ∙ sym (part_cell-part s b k h))
