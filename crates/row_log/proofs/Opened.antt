-- A relation whose columns are coded.
use Rattle.std.proofs.Common.{◌≡◌, ◌<◌, ◌≤◌, ◌∙◌, ℕ, List, [], length, map, get_or, ap, sym, subst, arith, Result, Ok, Err}
use Rattle.std.specs.Prelude.{IfOk}
use Rattle.std.specs.List.{All}
use Rattle.std.specs.declared.alloc.AllocError.{AllocError}
use Rattle.std.proofs.lemmas.List.{length-map, get_or-map, get_or_default}
use Rattle.rel_base.specs.declared.limits.TheConstants.{MOST_ROWS}
use Rattle.rel_base.specs.declared.nulls.Nulls.{Nulls}
use Rattle.rel_base.specs.Cells.{Cell, Row, cell}
use Rattle.rel_base.specs.Relation.{Content, IsContent}
use Rattle.rel_base.specs.RowState.{RowState, opened}
use Rattle.row_log.specs.Column.{ColumnCells}
use Rattle.row_log.specs.Table.{no_column, coded_cells, AreColumnsOf, AreCodedRows}

module _ (r : Content) (cells : List (List Cell)) (is : IsContent r) (wide : length cells ≡ length r.names) (each : (j : ℕ) → j < length r.names → get_or cells j [] ≡ map (λ row. cell row j) r.rows) where
  pub few_cells : All (λ one. length one ≤ MOST_ROWS) cells
  few_cells j d l =
      let m : j < length r.names = omega (arith, l, wide) in
      let e = ap length (get_or_default cells j d [] l ∙ each j m) in
      let s = length-map r.rows (λ (row : Row). cell row j) in
      let t = is.short in
      omega (arith, e, s, t)

  columns_are : (nulls : Nulls) (columns : List ColumnCells) → columns ≡ map (coded_cells nulls) cells → AreColumnsOf nulls r.rows (length r.names) columns
  columns_are nulls columns e = record {
    long = ap length e ∙ length-map cells (coded_cells nulls) ∙ wide;
    each = λ j l.
        ap (λ (cs : List ColumnCells). get_or cs j no_column) e ∙ get_or-map (coded_cells nulls) cells j [] no_column (omega (arith, l, wide)) ∙ ap (coded_cells nulls) (each j l);
  }

  pub coded_rows : (nulls : Nulls) (names : Row) (count : ℕ) (columns : List ColumnCells) → names ≡ r.names → count ≡ length r.rows → columns ≡ map (coded_cells nulls) cells
      → AreCodedRows names nulls r.rows count columns
  coded_rows nulls names count columns named many e =
      subst (λ (ns : Row). AreCodedRows ns nulls r.rows count columns) (sym named) record {
        content = is;
        columns_are = columns_are nulls columns e;
        many = sym many;
      }

-- the log of the relation's names and rows is that of the relation
pub if_opened : (log : Result RowState AllocError) (nulls : Nulls) (limit : ℕ) (r : Content) (names : Row) (count : ℕ) (columns : List ColumnCells)
    → IfOk log (λ log. (rows : List Row) → AreCodedRows names nulls rows count columns → log ≡ opened nulls limit (record { names = names; rows = rows }))
    → names ≡ r.names → AreCodedRows names nulls r.rows count columns → IfOk log (λ log. log ≡ opened nulls limit r)
if_opened (Ok log) nulls limit r names count columns h named coded =
    h r.rows coded ∙ ap (λ (ns : Row). let c : Content = record { names = ns; rows = r.rows } in opened nulls limit c) named
if_opened (Err e) nulls limit r names count columns h named coded = tt
