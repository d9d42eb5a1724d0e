use Rattle.std.proofs.Common.{rules, ◌≡◌, ◌++◌, ◌∙◌, ℕ, List, map, take, drop, ap, ap₂, sym}
use Rattle.std.proofs.lemmas.List.{map-append, take-append-drop}
use Rattle.rel_base.specs.Cells.{Cell}
use Rattle.row_log.specs.Column.{ColumnCells}
use Rattle.row_log.specs.Table.{coded_cells}
use Rattle.rel_base.specs.declared.nulls.Nulls.{Nulls}
use Rattle.row_log.proofs.table.+columns_by+fn-columns_by-join+arg2+fn-columns_by-join+arg3.Goals as goal

-- the columns of the first cells and those of the others
halves : (nulls : Nulls) (n : ℕ) (cells few later : List (List Cell)) (first second all : List ColumnCells) → few ≡ take n cells → later ≡ drop n cells
    → first ≡ map (coded_cells nulls) few → second ≡ map (coded_cells nulls) later → all ≡ first ++ second → all ≡ map (coded_cells nulls) cells
halves nulls n cells few later first second all f l a b e =
    e ∙ ap₂ (λ (x y : List ColumnCells). x ++ y) (a ∙ ap (map (coded_cells nulls)) f) (b ∙ ap (map (coded_cells nulls)) l)
    ∙ sym (map-append (coded_cells nulls) (take n cells) (drop n cells)) ∙ ap (map (coded_cells nulls)) (take-append-drop n cells)

pub returns : goal.returns
returns g t c =
    halves c.args.nulls c.middle.result c.args.cells.items c.split_off.new.self.items c.in_ok-later.later.items c.in_ok-columns.columns.items c.in_ok-others.others.items c.append.new.self.items
    c.in_ok-later.ensures.items c.in_ok-later.ensures.tail (search rules) (search rules) c.in_ok-append.ensures.items
