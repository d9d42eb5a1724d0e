-- A dependency inside a table holds in the rows exactly where it holds in the projection.
use Rattle.std.proofs.Common.{inl, inr, ◌≡◌, ◌≢◌, ◌⊎◌, ℕ, suc, ◌+◌, ◌<◌, ◌^◌, Bool, true, false, cond, eqb, not, refl, sym, ap, ◌∙◌, subst, arith, List, [], ◌∷◌, map, get_or}
use Rattle.std.specs.List.{Contains, position_or_len}
use Rattle.std.proofs.lemmas.Bool.{true≢false, cases_eq, eqb-true, eq-eqb}
use Rattle.col_set.specs.declared.target.Target.TheVariants.{Col}
use Rattle.col_set.specs.ColSet.{Columns, IsSubset, has, columns}
use Rattle.col_set.specs.Target.{has_target}
use Rattle.col_set.specs.Lists.{Listed}
use Rattle.col_set.specs.Subsets.{has_within}
use Rattle.col_set.proofs.EachColumn.{Listed-columns}
use Rattle.rel_base.specs.declared.nulls.Nulls.{Nulls}
use Rattle.rel_base.specs.declared.nulls.Nulls.TheVariants.{Equal}
use Rattle.rel_base.specs.Cells.{Cell, Row, cell}
use Rattle.rel_base.specs.Agreement.{Agrees}
use Rattle.rel_base.specs.RowState.{RowState, width, row}
use Rattle.rel_base.specs.Validity.{agree_of, Holds}
use Rattle.rel_base.specs.Projection.{part, projection}
use Rattle.rel_base.proofs.Agree.{agree-parts, agree-from}
use Rattle.rel_base.proofs.Parts.{ProjectionMeans-projection}
use Rattle.bcnf_split.specs.Inside.{cell_of, HoldsAmong, HoldsInsideTables}

-- at the place of k in a list stands what was made of k
at_place : (f : ℕ → Cell) (k : ℕ) (xs : List ℕ) → Listed k xs → get_or (map f xs) (position_or_len (λ c. eqb c k) xs) [] ≡ f k
at_place f k [] h = absurd h
at_place f k (x ∷ xs) h = by (eqb x k) refl h (λ g. at_place f k xs g)
  where
    by : (b : Bool) → eqb x k ≡ b → Listed k (x ∷ xs) → (Listed k xs → get_or (map f xs) (position_or_len (λ c. eqb c k) xs) [] ≡ f k) → get_or (f x ∷ map f xs) (cond (not b) (1 + position_or_len (λ c. eqb c k) xs) 0) [] ≡ f k
    by true e h rest = ap f (eqb-true x k e)
    by false e (inl i) rest = absurd (true≢false (sym (eq-eqb x k (sym i)) ∙ e))
    by false e (inr g) rest = let next : 1 + position_or_len (λ c. eqb c k) xs ≡ suc (position_or_len (λ c. eqb c k) xs) = omega arith in ap (λ n. get_or (f x ∷ map f xs) n []) next ∙ rest g

pub cell_of-part : (s k : ℕ) (cells : Row) → has s k ≡ true → cell_of s (part s cells) k ≡ cell cells k
unfolding part
cell_of-part s k cells h = at_place (cell cells) k (columns s) (Listed-columns s k h)

module _ (r : RowState) (s : Columns) (below : s < 2 ^ width r) (nulls : r.nulls ≡ Equal) (x : Columns) (a : ℕ) (inside : IsSubset x s) (own : has s a ≡ true) where
  -- two rows that agree in a column have equal cells there
  equal_cells : (i j k : ℕ) → has (agree_of r i j) k ≡ true → cell (row r i) k ≡ cell (row r j) k
  equal_cells i j k h = subst (λ (n : Nulls). Agrees n (cell (row r i) k) (cell (row r j) k)) nulls (agree-parts r.nulls (width r) (row r i) (row r j) k h).1

  agreed : (i j k : ℕ) → has s k ≡ true → cell (row r i) k ≡ cell (row r j) k → has (agree_of r i j) k ≡ true
  agreed i j k h e = agree-from r.nulls (width r) (row r i) (row r j) k (has_within s (width r) k below h) (subst (λ (n : Nulls). Agrees n (cell (row r i) k) (cell (row r j) k)) (sym nulls) e)

  of_part : (i k : ℕ) (p : Row) → part s (row r i) ≡ p → has s k ≡ true → cell_of s p k ≡ cell (row r i) k
  of_part i k p e h = ap (λ (q : Row). cell_of s q k) (sym e) ∙ cell_of-part s k (row r i) h

  pub inside-projection : Holds r x (Col a) → HoldsAmong s (projection r s) x a
  unfolding has_target
  inside-projection h = record {
    each = λ p q f g same.
        let v = (ProjectionMeans-projection r s).parts p in
        let w = (ProjectionMeans-projection r s).parts q in
        let i = v.0 f in
        let j = w.0 g in
        of_part i.0 a p i.2 own ∙ by i.0 j.0 i.1 j.1 (λ k e. sym (of_part i.0 k p i.2 (inside.each k e)) ∙ same k e ∙ of_part j.0 k q j.2 (inside.each k e)) (cases_eq i.0 j.0) ∙ sym (of_part j.0 a q j.2 own);
  }
    where
      by : (i j : ℕ) → Contains r.live i → Contains r.live j → ((k : ℕ) → has x k ≡ true → cell (row r i) k ≡ cell (row r j) k) → (i ≡ j) ⊎ (i ≢ j) → cell (row r i) a ≡ cell (row r j) a
      by i j f g same (inl e) = ap (λ n. cell (row r n) a) e
      by i j f g same (inr ne) = equal_cells i j a (h.each i j f g ne (record { each = λ k e. agreed i j k (inside.each k e) (same k e) }))

  pub projection-inside : HoldsAmong s (projection r s) x a → Holds r x (Col a)
  unfolding has_target
  projection-inside h = record {
    each = λ i j f g ne sub.
        let p = ((ProjectionMeans-projection r s).parts (part s (row r i))).1 (i, f, refl) in
        let q = ((ProjectionMeans-projection r s).parts (part s (row r j))).1 (j, g, refl) in
        agreed i j a own (sym (cell_of-part s a (row r i) own)
        ∙ h.each (part s (row r i)) (part s (row r j)) p q (λ k e. cell_of-part s k (row r i) (inside.each k e) ∙ equal_cells i j k (sub.each k e) ∙ sym (cell_of-part s k (row r j) (inside.each k e)))
        ∙ cell_of-part s a (row r j) own);
  }

pub HoldsInsideTables-projection : (r : RowState) (s : Columns) → s < 2 ^ width r → HoldsInsideTables r s
HoldsInsideTables-projection r s b x a nulls i own = (inside-projection r s b nulls x a i own, projection-inside r s b nulls x a i own)
