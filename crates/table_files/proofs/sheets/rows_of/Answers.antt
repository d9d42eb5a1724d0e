use Rattle.std.proofs.Common.{◌≡◌, ◌<◌, ◌^◌, subst, sym, map}
use Rattle.col_set.specs.ColSet.{Columns}
use Rattle.rel_base.specs.Projection.{part, projection}
use Rattle.rel_base.specs.RowState.{row, width}
use Rattle.table_files.proofs.Rows.{first_rows-given}
use Rattle.table_files.proofs.sheets.rows_of.Goals as goal

pub returns-clause-given : goal.returns-clause-given
returns-clause-given c =
    first_rows-given c.args.snapshot.now c.args.rows.now _ c.in_ok-found.found.items c.names-names.ensures.state c.requires.shows c.in_ok-found.ensures.first

pub returns-clause-parts : goal.returns-clause-parts
returns-clause-parts c =
    let there : c.go_to.new.self.columns ≡ c.args.columns = c.in_ok-go_to.ensures.there in
    subst (λ (x : Columns). map (λ number. part x (row c.args.rows.now number)) c.in_ok-found.found.items ≡ projection c.args.rows.now x) there
    (c.in_ok-found.ensures.parts c.args.rows.now c.names-names.ensures.state c.requires.shows c.requires.equal (subst (λ (x : Columns). x < 2 ^ width c.args.rows.now) (sym there) c.requires.columns))
