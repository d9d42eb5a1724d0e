use Rattle.std.proofs.Common.{◌<◌, ◌^◌, ℕ, List, subst, sym}
use Rattle.std.specs.List.{All}
use Rattle.std.proofs.lemmas.List.Elements.{All-append, All-drop}
use Rattle.rel_base.specs.declared.dependency.Table.{Table}
use Rattle.rel_base.specs.RowState.{width}
use Rattle.table_files.specs.declared.sheets.Sheet.{Sheet}
use Rattle.table_files.specs.Sheets.{IsSheet, table_behind}
use Rattle.table_files.proofs.Blocks.{told_more}
use Rattle.table_files.proofs.sheets.sheets_within.Goals as goal

pub loop-rest-preserved : goal.loop-rest-preserved
loop-rest-preserved g c =
    let inv = c.loop-rest.invariant in
    let P : ℕ × Table → Type 0 = λ numbered. numbered.1.columns < 2 ^ width c.args.rows.now in
    record {
      shown = inv.shown;
      below = subst (λ (xs : List (ℕ × Table)). All P xs) (sym c.split_at.ensures.back) (All-drop P c.min.result c.loop-rest.rest.now inv.below);
      are = subst (λ (xs : List Sheet). All (IsSheet c.args.rows.now) xs) (sym c.in_ok-append.ensures.items)
          (All-append (IsSheet c.args.rows.now) c.loop-rest.sheets.items c.in_ok-more.more.items inv.are c.in_ok-more.ensures.sheets);
      told = told_more table_behind c.min.result c.loop-rest.sheets.items c.in_ok-more.more.items c.append.new.self.items c.loop-rest.rest.now c.split_at.result.0.now c.split_at.result.1.now c.args.numbered.now
          c.split_at.ensures.front c.split_at.ensures.back c.in_ok-more.ensures.tables c.in_ok-append.ensures.items inv.told;
    }
