use Rattle.std.proofs.Common.{◌≡◌, ◌↔◌, ◌<◌, ◌∙◌, [], sym, get_or, subst, length, length-set, arith}
use Rattle.std.proofs.lemmas.List.{get_or_read}
use Rattle.rel_base.specs.Agreement.{Agrees}
use Rattle.row_log.specs.Column.{ColumnCells}
use Rattle.row_log.specs.Table.{no_column}
use Rattle.row_log.proofs.Rows.{AgreeBelow-more, agree-read}
use Rattle.row_log.proofs.table.agreement.Goals as goal

pub pair-one-requires-clause-first : goal.pair-one-requires-clause-first
pair-one-requires-clause-first c =
    let is = get_or_read c.args.columns.now c.loop-place.place c.index-columns-place.result c.loop-place-test.true c.index-columns-place.is no_column in
    subst (λ (x : ColumnCells). c.args.i < length x.cells) (sym is) (c.requires.first c.loop-place.place no_column c.loop-place-test.true)

pub pair-one-requires-clause-second : goal.pair-one-requires-clause-second
pair-one-requires-clause-second c =
    let is = get_or_read c.args.columns.now c.loop-place.place c.index-columns-place.result c.loop-place-test.true c.index-columns-place.is no_column in
    subst (λ (x : ColumnCells). c.args.j < length x.cells) (sym is) (c.requires.second c.loop-place.place no_column c.loop-place-test.true)

pub loop-place-preserved : goal.loop-place-preserved
loop-place-preserved c =
    let i = c.loop-place.invariant in
    let l = c.loop-place-test.true in
    let n = c.requires.narrow in
    let a = i.0 in
    let b = i.1 in
    let is = get_or_read c.args.columns.now c.loop-place.place c.index-columns-place.result l c.index-columns-place.is no_column in (
      length-set c.loop-place.first _ _ ∙ i.0,
      length-set c.loop-place.second _ _ ∙ i.1,
      AgreeBelow-more c.args.columns.now c.args.nulls c.args.i c.args.j c.loop-place.place c.loop-place.first c.loop-place.second c.pair-one.result.0 c.pair-one.result.1 i.2 (omega arith) (omega arith)
          (subst (λ (x : ColumnCells). (c.pair-one.result.0 ≡ c.pair-one.result.1) ↔ Agrees x.nulls (get_or x.cells c.args.i []) (get_or x.cells c.args.j [])) is c.pair-one.ensures)
          (c.requires.read c.loop-place.place no_column l),
    )

pub returns : goal.returns
returns c =
    let i = c.loop-place.invariant in
    let n = c.requires.narrow in
    let a = i.0 in
    let b = i.1 in
    let f = c.loop-place-test.false in
    agree-read c.args.columns.now c.args.nulls c.args.i c.args.j c.loop-place.place c.loop-place.first c.loop-place.second c.agree_codes.result i.2 f (omega arith) (omega arith) c.agree_codes.ensures.each
