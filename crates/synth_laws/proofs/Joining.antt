-- The natural join of the projections to tables by synthesis is the distinct rows.
use Rattle.std.proofs.Common.{inl, inr, ◌≡◌, ℕ, ◌+◌, ◌-◌, ◌<◌, ◌^◌, true, refl, sym, ap, ◌∙◌, subst, arith, List, [], ◌∷◌, length}
use Rattle.std.specs.List.{Contains}
use Rattle.std.proofs.lemmas.Bool.{true≢false, or_cases, or_left, or_right, cases_eq, lt-ltb}
use Rattle.col_set.specs.ColSet.{Columns, IsSubset, all, has}
use Rattle.col_set.specs.Target.{has_target}
use Rattle.col_set.specs.Columns.{lt-pow}
use Rattle.col_set.specs.Lists.{Listed, Listed-map, Listed-map_which}
use Rattle.col_set.specs.Members.{has-all, has-empty, has-union, same_set}
use Rattle.col_set.specs.Subsets.{same_test, IsSubset-trans, has_within}
use Rattle.col_set.proofs.Places.{Contains-listed, Listed-contained}
use Rattle.rel_base.specs.declared.nulls.Nulls.TheVariants.{Equal}
use Rattle.rel_base.specs.declared.dependency.Fd.{Fd}
use Rattle.rel_base.specs.declared.dependency.Table.{Table}
use Rattle.rel_base.specs.Cells.{Row, cell}
use Rattle.rel_base.specs.Agreement.{agree}
use Rattle.rel_base.specs.RowState.{RowState, IsRowState, width, row}
use Rattle.rel_base.specs.Projection.{part, distinct_rows}
use Rattle.rel_base.proofs.Agree.{agree-parts, agree-from}
use Rattle.rel_base.proofs.Parts.{ProjectionMeans-projection}
use Rattle.rel_base.proofs.States.{All-listed, All-from, live_positive, live_numbered}
use Rattle.fd_closure.specs.Under.{IsClosed}
use Rattle.lossless_join.specs.NaturalJoin.{TableRows, columns_of, IsMatched}
use Rattle.lossless_join.specs.Lossless.{projection_table}
use Rattle.lossless_join.proofs.PartCells.{part-cells}
use Rattle.lossless_join.proofs.Projected.{PartOf, PartOf-projection, projection-part, rows-agree, agree-rows}
use Rattle.lossless_join.proofs.Heath.{part-all}
use Rattle.lossless_join.proofs.Steps.{same_cells}
use Rattle.synth_3nf.specs.Reached.{reached}
use Rattle.synth_3nf.specs.Canonical.{canonical}
use Rattle.synth_3nf.specs.Tables.{synthesis}
use Rattle.synth_3nf.proofs.Below.{synthesis-below}
use Rattle.synth_3nf.proofs.Reaching.{reached-closure}
use Rattle.synth_3nf.proofs.Trials.{canonical-listed, canonical-reached}
use Rattle.synth_laws.specs.Keeping.{HasBothSides}
use Rattle.synth_laws.specs.Joined.{IsHeld, AreHeld, projections, TablesJoin}
use Rattle.synth_laws.proofs.Kept.{TablesKeep-synthesis, TablesReach-synthesis}

-- ---- the columns of tables
module _ (r : RowState) where
  columns-of : (ts : List Table) (t : Table) (k : ℕ) → Listed t ts → has t.columns k ≡ true → has (columns_of (projections r ts)) k ≡ true
  unfolding columns_of
  columns-of [] t k h e = absurd h
  columns-of (u ∷ ts) t k (inl i) e = has-union u.columns (columns_of (projections r ts)) k ∙ or_left _ _ (subst (λ (v : Table). has v.columns k ≡ true) i e)
  columns-of (u ∷ ts) t k (inr h) e = has-union u.columns (columns_of (projections r ts)) k ∙ or_right (has u.columns k) _ (columns-of ts t k h e)

  of-columns : (ts : List Table) (k : ℕ) → has (columns_of (projections r ts)) k ≡ true → (t : Table) × Listed t ts × (has t.columns k ≡ true)
  unfolding columns_of
  of-columns [] k e = absurd (true≢false (sym e ∙ has-empty k))
  of-columns (u ∷ ts) k e = elim (or_cases (has u.columns k) (has (columns_of (projections r ts)) k) (sym (has-union u.columns (columns_of (projections r ts)) k) ∙ e)) as (λ _. (t : Table) × Listed t (u ∷ ts) × (has t.columns k ≡ true)) [
    | inl h ↦ (u, inl refl, h)
    | inr h ↦ let w = of-columns ts k h in (w.0, inr w.1, w.2)
  ]

module _ (r : RowState) (is : IsRowState r) (equal : r.nulls ≡ Equal) (fds : List Fd) (held : AreHeld r fds) where
  tables : List Table
  tables = synthesis (width r) fds

  -- a kept dependency has both sides in some table
  both : (fd : Fd) → Contains (canonical fds) fd → HasBothSides tables fd
  unfolding tables
  both fd h = TablesKeep-synthesis (width r) fds (All-from (λ (f : Fd). f.left < 2 ^ width r) fds (λ f l. (held f (Contains-listed f fds l)).left)) fd h

  kept-held : (fd : Fd) → Contains (canonical fds) fd → IsHeld r fd
  kept-held fd h = held fd (Contains-listed fd fds (canonical-listed fds fd (Listed-contained fd (canonical fds) h)))

  -- what is closed under the kept dependencies and has the columns of the whole table has all
  closed-all : (z : Columns) → IsClosed (canonical fds) z → ((t : Table) → Contains tables t → IsSubset (all (width r)) (reached fds t.columns) → IsSubset t.columns z) → IsSubset (all (width r)) z
  unfolding tables
  closed-all z c f =
      let w = (TablesReach-synthesis (width r) fds).whole in
      IsSubset-trans (subst (IsSubset (all (width r))) (sym (canonical-reached fds w.table.columns)) w.reaches)
      ((reached-closure (canonical fds) w.table.columns).smallest z (f w.table w.listed w.reaches) c)

  together : Columns
  together = columns_of (projections r tables)

  together-closed : IsClosed (canonical fds) together
  unfolding together
  together-closed = record { each = λ fd h s. let b = both fd h in columns-of r tables b.table fd.right (Listed-contained b.table tables b.listed) b.right }

  together-all : together ≡ all (width r)
  unfolding together tables
  together-all = same_set together (all (width r)) (λ k. same_test _ _
      (λ e. let w = of-columns r tables k e in has-all (width r) k ∙ lt-ltb k (width r) (has_within w.0.columns (width r) k (below w.0 w.1) w.2))
      (λ e. (closed-all together together-closed (λ t h i. record { each = λ j g. columns-of r tables t j (Listed-contained t tables h) g })).each k e))
    where
      below : (t : Table) → Listed t (synthesis (width r) fds) → t.columns < 2 ^ width r
      below t h = All-listed (λ (u : Table). u.columns < 2 ^ width r) t (synthesis (width r) fds)
          (synthesis-below (width r) fds (All-from (λ (f : Fd). f.right < width r) fds (λ f l. (held f (Contains-listed f fds l)).right))) h

  -- ---- rows
  matched-table : (p : Row) (t : Table) → IsMatched (projections r tables) p → Contains tables t → PartOf r t.columns (part t.columns p)
  matched-table p t m h = PartOf-projection r t.columns (part t.columns p)
      (m.each (projection_table r t.columns) (Contains-listed (projection_table r t.columns) (projections r tables) (Listed-map (λ (u : Table). projection_table r u.columns) t tables (Listed-contained t tables h))))

  live-matched : (i : ℕ) → Contains r.live i → IsMatched (projections r tables) (row r i)
  live-matched i h = record {
    each = λ u l.
        let w = Listed-map_which (λ (t : Table). projection_table r t.columns) u tables (Listed-contained u (projections r tables) l) in
        subst (λ (v : TableRows). Contains v.rows (part v.columns (row r i))) (sym w.2) (projection-part r w.0.columns i h);
  }

  row-wide : (i : ℕ) → Contains r.live i → length (row r i) ≡ width r
  row-wide i h =
      let p = live_positive r i is (Listed-contained i r.live h) in
      let l = live_numbered r i is (Listed-contained i r.live h) in
      is.widths (i - 1) [] (omega arith)

  -- a row that is matched, beside the live row that has its part in one table
  module _ (p : Row) (m : IsMatched (projections r tables) p) (i : ℕ) (live : Contains r.live i) (n : ℕ) (enough : (k : ℕ) → k < width r → k < n) where
    alike : Columns
    alike = agree Equal n p (row r i)

    alike-cell : (k : ℕ) → has alike k ≡ true → cell p k ≡ cell (row r i) k
    unfolding alike
    alike-cell k h = (agree-parts Equal n p (row r i) k h).1

    cell-alike : (k : ℕ) → k < n → cell p k ≡ cell (row r i) k → has alike k ≡ true
    unfolding alike
    cell-alike k l e = agree-from Equal n p (row r i) k l e

    -- two live rows that agree on a left side agree on the right column
    carried : (fd : Fd) (j : ℕ) → IsHeld r fd → Contains r.live j → ((k : ℕ) → has fd.left k ≡ true → cell (row r i) k ≡ cell (row r j) k) → cell (row r i) fd.right ≡ cell (row r j) fd.right
    unfolding has_target
    carried fd j is_held l f = elim (cases_eq i j) as (λ _. cell (row r i) fd.right ≡ cell (row r j) fd.right) [
      | inl e ↦ ap (λ (number : ℕ). cell (row r number) fd.right) e
      | inr ne ↦ (rows-agree r is equal i j fd.right (is_held.holds.each i j live l ne (record { each = λ k h. agree-rows r is equal i j k (has_within fd.left (width r) k is_held.left h) (f k h) }))).1
    ]

    alike-closed : IsClosed (canonical fds) alike
    alike-closed = record {
      each = λ fd h s.
          let b = both fd h in
          let q = matched-table p b.table m b.listed in
          let k_held = kept-held fd h in
          let same : (k : ℕ) → has b.table.columns k ≡ true → cell (row r q.number) k ≡ cell p k = λ k g. part-cells b.table.columns (row r q.number) p q.same k g in
          cell-alike fd.right (enough fd.right k_held.right)
          (sym (same fd.right b.right) ∙ sym (carried fd q.number k_held q.live (λ k g. sym (alike-cell k (s.each k g)) ∙ sym (same k (b.left.each k g)))));
    }

  matched-live : (p : Row) → length p ≡ width r → IsMatched (projections r tables) p → Contains (distinct_rows r) p
  unfolding tables
  matched-live p e m =
      let w = (TablesReach-synthesis (width r) fds).whole in
      let q = matched-table p w.table m w.listed in
      let n = w.table.columns + width r in
      let z = alike p m q.number q.live n (λ k l. omega arith) in
      let inside : IsSubset w.table.columns (alike p m q.number q.live n (λ k l. omega arith)) = record {
        each = λ k g. cell-alike p m q.number q.live n (λ k l. omega arith) k (let l = own k w.table.columns g in omega arith) (sym (part-cells w.table.columns (row r q.number) p q.same k g));
      } in
      let reach = IsSubset-trans (subst (IsSubset (all (width r))) (sym (canonical-reached fds w.table.columns)) w.reaches)
      ((reached-closure (canonical fds) w.table.columns).smallest (alike p m q.number q.live n (λ k l. omega arith)) inside (alike-closed p m q.number q.live n (λ k l. omega arith))) in
      let same = same_cells (width r) p (row r q.number) e (row-wide q.number q.live) (λ k l. alike-cell p m q.number q.live n (λ k l. omega arith) k (reach.each k (has-all (width r) k ∙ lt-ltb k (width r) l))) in
      subst (λ (t : Row). Contains (distinct_rows r) t) (part-all (width r) (row r q.number) (row-wide q.number q.live) ∙ sym same) (projection-part r (all (width r)) q.number q.live)
    where
      own : (k x : ℕ) → has x k ≡ true → k < x
      own k x h = has_within x x k (lt-pow x) h

  distinct-matched : (q : Row) → Contains (distinct_rows r) q → (length q ≡ width r) × IsMatched (projections r tables) q
  distinct-matched q h =
      let w = PartOf-projection r (all (width r)) q h in
      let e = row-wide w.number w.live in
      let i : row r w.number ≡ q = sym (part-all (width r) (row r w.number) e) ∙ w.same in
      (ap length (sym i) ∙ e, subst (IsMatched (projections r tables)) i (live-matched w.number w.live))

  pub TablesJoin-synthesis : TablesJoin r fds
  unfolding together tables
  TablesJoin-synthesis = record {
    columns = together-all;
    joined = record {
      exactly = λ q. (
        λ h. let w = distinct-matched q h in record { wide = w.0; matched = w.1 },
        λ m. matched-live q m.wide m.matched,
      );
      once = (ProjectionMeans-projection r (all (width r))).once;
    };
  }
