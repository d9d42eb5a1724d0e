use Rattle.std.proofs.Common.{◌≡◌, ◌<◌, ◌∙◌, ℕ, List, ap, length, subst, sym}
use Rattle.std.specs.List.{All, AllZip}
use Rattle.col_set.specs.AllSets.{Listed-upto_within}
use Rattle.col_set.specs.ColSet.{upto}
use Rattle.rel_base.specs.Inclusion.{all_columns}
use Rattle.rel_base.specs.RowState.{RowState, width}
use Rattle.rel_base.proofs.States.{All-from}
use Rattle.row_log.specs.Distinct.{AreDistinctCells}
use Rattle.profile_text.proofs.Inclusions.{columns_pushed, relation_pushed}
use Rattle.profile_text.proofs.columns.Columns.push.Goals as goal

-- each column below the width is one of the relation's
within_width : (r : RowState) (n : ℕ) (numbers : List ℕ) → numbers ≡ upto n → n ≡ width r → All (λ (column : ℕ). column < width r) numbers
within_width r n numbers is wide = subst (All (λ (column : ℕ). column < width r)) (sym is) (subst (λ (m : ℕ). All (λ (column : ℕ). column < m) (upto n)) wide (All-from (λ (column : ℕ). column < n) (upto n) (λ a h. Listed-upto_within n a h)))

pub distinct_by-requires-after_bounds : goal.distinct_by-requires-after_bounds
distinct_by-requires-after_bounds g c κs within =
    within_width c.args.rows.now c.len-width.result c.deref.result.now (c.deref.ensures.value ∙ c.in_ok-numbers.ensures) (c.len-width.ensures ∙ ap length c.names.ensures.value)

pub returns : goal.returns
returns g c states are =
    let numbers : c.deref.result.now ≡ upto c.len-width.result = c.deref.ensures.value ∙ c.in_ok-numbers.ensures in
    let each : AllZip (AreDistinctCells c.args.rows.now) c.deref.result.now c.in_ok-cells.cells.items = c.in_ok-cells.ensures in
    relation_pushed states c.args.rows.now c.args.self.now.widths.items c.push.new.self.items c.append.new.self.items c.len-width.result are.widths_are (c.len-width.ensures ∙ ap length c.names.ensures.value) c.in_ok-push.ensures.items
    (columns_pushed c.args.rows.now (upto c.len-width.result) (all_columns states) c.args.self.now.cells.items c.in_ok-cells.cells.items c.append.new.self.items are.each
    (subst (λ (ns : List ℕ). AllZip (AreDistinctCells c.args.rows.now) ns c.in_ok-cells.cells.items) numbers each) c.in_ok-append.ensures.items)
