use Rattle.std.proofs.Common.{◌≡◌, ◌∙◌, ◌∷◌, [], length, ap}
use Rattle.rel_base.specs.Covers.{CoverLists, covers}
use Rattle.rel_base.specs.Inclusion.{all_columns, inclusions}
use Rattle.rel_base.specs.RowState.{RowState}
use Rattle.normalize_text.specs.Normalize.{tables}
use Rattle.normalize_text.proofs.Drawn.{demo-counted}
use Rattle.task_base.proofs.Facts.{IfOk-map}
use Rattle.normalize_text.proofs.demo.counted.Goals as goal

pub returns : goal.returns
returns g c =
    let same : c.rows.result.now ≡ c.args.book.now.rows = c.rows.ensures.rows in
    let again : c.rows-2.result.now ≡ c.args.book.now.rows = c.rows-2.ensures.rows in
    let found : c.in_ok-found.found ≡ covers c.args.book.now.rows = c.in_ok-found.ensures in
    IfOk-map c.demo_line.result
    (λ text e. e ∙ demo-counted c.args.seed c.args.book.now.rows _ _ _ _ c.in_ok-tables.tables.items
    (ap length (c.keys.ensures.value ∙ ap (λ (l : CoverLists). l.keys) found))
    (ap length (c.fds.ensures.value ∙ ap (λ (l : CoverLists). l.fds) found))
    (c.in_ok-inclusions.ensures ∙ ap (λ (r : RowState). length (inclusions (all_columns (r ∷ [])))) same)
    (c.in_ok-tables.ensures ∙ ap tables again)
    (c.len.ensures ∙ c.in_ok-tables.tables.ok.0)) c.demo_line.ensures
