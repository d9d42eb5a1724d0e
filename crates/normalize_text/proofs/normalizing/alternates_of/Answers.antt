use Rattle.std.proofs.Common.{◌≡◌, ◌∙◌, ◌<◌, ◌^◌, List, ap, sym, subst}
use Rattle.std.specs.List.{All}
use Rattle.col_set.specs.ColSet.{Columns}
use Rattle.negative_cover.specs.Witnesses.{sets_of}
use Rattle.rel_base.specs.declared.dependency.Table.{Table}
use Rattle.rel_base.specs.Covers.{least_covers}
use Rattle.rel_base.specs.RowState.{RowState, width}
use Rattle.normalize_text.proofs.Tables.{tables_below}
use Rattle.normalize_text.proofs.normalizing.alternates_of.Goals as goal

pub returns : goal.returns
returns c =
    let r : RowState = c.args.book.now.rows in
    let sets : c.as_slice.result.now ≡ sets_of c.args.book.now.witnesses = c.as_slice.ensures.value ∙ c.in_ok-agree_sets.ensures ∙ ap sets_of c.witnesses.ensures in
    c.in_ok-found.ensures.others r c.requires.state c.requires.equal (c.requires.evidence ∙ ap (λ (ws : List Columns). least_covers (width r) ws) (sym sets))
    (subst (λ (ts : List Table). All (λ t. t.columns < 2 ^ width r) ts) (sym c.requires.tables) (tables_below r c.requires.state))
