-- Parts of rows, by one more column and one more row.
use Rattle.std.proofs.Common.{◌≡◌, ◌∙◌, ◌+◌, ◌<◌, ◌^◌, ℕ, Bool, true, false, cond, not, ◌||◌, refl, sym, ap, ap₂, List, [], ◌∷◌, ◌++◌, length, get_or, take, map, filter, append-nil}
use Rattle.std.specs.List.{list_any}
use Rattle.std.proofs.lemmas.List.{map-append, take_more}
use Rattle.std.proofs.lemmas.List.Elements.{filter-append}
use Rattle.col_set.specs.ColSet.{Columns, has, upto}
use Rattle.col_set.specs.Columns.{columns_below}
use Rattle.rel_base.specs.Cells.{Cell, Row, cell}
use Rattle.rel_base.specs.Projection.{part, same_row, distinct, projected}
use Rattle.rel_base.proofs.Parts.{same_row-true}
use Rattle.plain_base.proofs.Pairs.{upto_more}

-- ---- one more column
module _ (f : ℕ → Cell) (p : ℕ → Bool) (n : ℕ) where
  cells_more : map f (filter p (upto (n + 1))) ≡ map f (filter p (upto n)) ++ map f (cond (p n) (n ∷ []) [])
  cells_more =
      ap (λ ks. map f (filter p ks)) (upto_more n) ∙ ap (map f) (filter-append p (upto n) (n ∷ []))
      ∙ map-append f (filter p (upto n)) (cond (p n) (n ∷ []) [])

  pub cells_pushed : p n ≡ true → map f (filter p (upto n)) ++ f n ∷ [] ≡ map f (filter p (upto (n + 1)))
  cells_pushed e = sym (cells_more ∙ ap (λ b. map f (filter p (upto n)) ++ map f (cond b (n ∷ []) [])) e)

  pub cells_left : p n ≡ false → map f (filter p (upto n)) ≡ map f (filter p (upto (n + 1)))
  cells_left e = sym (cells_more ∙ ap (λ b. map f (filter p (upto n)) ++ map f (cond b (n ∷ []) [])) e ∙ append-nil (map f (filter p (upto n))))

pub part_below : (s : Columns) (row : Row) (n : ℕ) → n ≡ length row → s < 2 ^ length row → map (cell row) (filter (has s) (upto n)) ≡ part s row
unfolding part
part_below s row n e h = ap (λ (m : ℕ). map (cell row) (filter (has s) (upto m))) e ∙ ap (map (cell row)) (sym (columns_below (length row) s h))

-- ---- one more row
module _ (first row : Row) where
  -- whether a row has other cells than the first, and whether it has the cells of `row`
  abbrev other_cells : Row → Bool
  other_cells other = not (same_row first other)

  abbrev is_row : Row → Bool
  is_row other = same_row other row

  -- what has the cells of `row` stays where the first row has others
  stays : same_row first row ≡ false → (others : List Row) → list_any is_row (filter other_cells others) ≡ list_any is_row others
  stays e [] = refl
  stays e (other ∷ others) = at (same_row first other) refl (stays e others)
    where
      at : (b : Bool) → same_row first other ≡ b → list_any is_row (filter other_cells others) ≡ list_any is_row others → list_any is_row (filter other_cells (other ∷ others)) ≡ list_any is_row (other ∷ others)
      at true i rest =
          ap (λ b. list_any is_row (cond (not b) (other ∷ filter other_cells others) (filter other_cells others))) i
          ∙ rest
          ∙ sym (ap (λ b. b || list_any is_row others) (ap (λ (z : Row). same_row z row) (sym (same_row-true first other i)) ∙ e))
      at false i rest =
          ap (λ b. list_any is_row (cond (not b) (other ∷ filter other_cells others) (filter other_cells others))) i
          ∙ ap (λ b. same_row other row || b) rest

  -- the first row, and of these rows and `row` those with other cells, where `row` comes unless it is there
  joined : (kept : List Row) (any same : Bool) → list_any is_row kept ≡ any → same_row first row ≡ same
      → first ∷ filter other_cells (cond (list_any is_row kept) kept (kept ++ row ∷ []))
      ≡ cond (list_any is_row (first ∷ filter other_cells kept)) (first ∷ filter other_cells kept) ((first ∷ filter other_cells kept) ++ row ∷ [])
  joined kept true true i j =
      ap (λ b. first ∷ filter other_cells (cond b kept (kept ++ row ∷ []))) i
      ∙ sym (ap (λ b. cond (b || list_any is_row (filter other_cells kept)) (first ∷ filter other_cells kept) ((first ∷ filter other_cells kept) ++ row ∷ [])) j)
  joined kept false true i j =
      ap (λ b. first ∷ filter other_cells (cond b kept (kept ++ row ∷ []))) i
      ∙ ap (λ zs. first ∷ zs) (filter-append other_cells kept (row ∷ []) ∙ ap (λ b. filter other_cells kept ++ cond (not b) (row ∷ []) []) j ∙ append-nil (filter other_cells kept))
      ∙ sym (ap (λ b. cond (b || list_any is_row (filter other_cells kept)) (first ∷ filter other_cells kept) ((first ∷ filter other_cells kept) ++ row ∷ [])) j)
  joined kept true false i j =
      ap (λ b. first ∷ filter other_cells (cond b kept (kept ++ row ∷ []))) i
      ∙ sym (ap (λ b. cond b (first ∷ filter other_cells kept) ((first ∷ filter other_cells kept) ++ row ∷ [])) (ap (λ b. b || list_any is_row (filter other_cells kept)) j ∙ stays j kept ∙ i))
  joined kept false false i j =
      ap (λ b. first ∷ filter other_cells (cond b kept (kept ++ row ∷ []))) i
      ∙ ap (λ zs. first ∷ zs) (filter-append other_cells kept (row ∷ []) ∙ ap (λ b. filter other_cells kept ++ cond (not b) (row ∷ []) []) j)
      ∙ sym (ap (λ b. cond b (first ∷ filter other_cells kept) ((first ∷ filter other_cells kept) ++ row ∷ [])) (ap (λ b. b || list_any is_row (filter other_cells kept)) j ∙ stays j kept ∙ i))

-- a row at the end comes where no row before it has the same cells
distinct_more : (rows : List Row) (row : Row) → distinct (rows ++ row ∷ []) ≡ cond (list_any (λ other. same_row other row) (distinct rows)) (distinct rows) (distinct rows ++ row ∷ [])
unfolding distinct
distinct_more [] row = refl
distinct_more (first ∷ rows) row = ap (λ others. first ∷ filter (λ other. not (same_row first other)) others) (distinct_more rows row) ∙ joined first row (distinct rows) _ _ refl refl

pub projected_none : (s : Columns) → [] ≡ projected s []
unfolding projected distinct
projected_none s = refl

module _ (s : Columns) (rows : List Row) (i : ℕ) (row : Row) (l : i < length rows) (is : row ≡ get_or rows i row) where
  projected_more : projected s (take (i + 1) rows) ≡ cond (list_any (λ other. same_row other (part s row)) (projected s (take i rows))) (projected s (take i rows)) (projected s (take i rows) ++ part s row ∷ [])
  unfolding projected
  projected_more =
      ap (λ xs. distinct (map (part s) xs)) (take_more rows i row l ∙ ap (λ (x : Row). take i rows ++ x ∷ []) (sym is))
      ∙ ap distinct (map-append (part s) (take i rows) (row ∷ []))
      ∙ distinct_more (map (part s) (take i rows)) (part s row)

  module _ (old new : List Row) (p : Row) (known : old ≡ projected s (take i rows)) (made : p ≡ part s row) where
    any_is : list_any (λ other. same_row other p) old ≡ list_any (λ other. same_row other (part s row)) (projected s (take i rows))
    any_is = ap₂ (λ (q : Row) (xs : List Row). list_any (λ other. same_row other q) xs) made known

    pub projected_pushed : list_any (λ other. same_row other p) old ≡ false → new ≡ old ++ p ∷ [] → new ≡ projected s (take (i + 1) rows)
    projected_pushed none e =
        e ∙ ap₂ (λ (xs : List Row) (q : Row). xs ++ q ∷ []) known made
        ∙ sym (projected_more ∙ ap (λ b. cond b (projected s (take i rows)) (projected s (take i rows) ++ part s row ∷ [])) (sym any_is ∙ none))

    pub projected_left : list_any (λ other. same_row other p) old ≡ true → new ≡ old → new ≡ projected s (take (i + 1) rows)
    projected_left some e =
        e ∙ known ∙ sym (projected_more ∙ ap (λ b. cond b (projected s (take i rows)) (projected s (take i rows) ++ part s row ∷ [])) (sym any_is ∙ some))
