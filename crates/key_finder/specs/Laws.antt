-- What the keys by agree sets have to do with the keys of projections.
use Rattle.std.specs.Prelude.{◌≡◌, ◌<◌, ◌^◌, ℕ, List}
use Rattle.col_set.specs.ColSet.{Columns}
use Rattle.rel_base.specs.declared.nulls.Nulls.TheVariants.{Equal}
use Rattle.rel_base.specs.CodeTable.{CodeTable}
use Rattle.rel_base.specs.RowState.{RowState, IsRowState, width}
use Rattle.rel_base.specs.Shows.{Shows, code_agree_sets}
use Rattle.rel_base.specs.Validity.{agree_sets}
use Rattle.rel_base.specs.Covers.{covers, least_covers}
use Rattle.lossless_join.specs.Parts.{projection_keys}
use Rattle.key_finder.specs.Keys.{keys_within}

-- The minimal keys of a projection are those by the agree sets of all live rows.
abbrev pub AgreeSetsTellKeys : Type 0
AgreeSetsTellKeys = (r : RowState) (s : Columns) → IsRowState r → r.nulls ≡ Equal → s < 2 ^ width r
    → projection_keys r s ≡ keys_within (width r) (agree_sets r) s

-- They are those by any agree sets that leave the relation's covers, as the witnesses of a finished search do.
abbrev pub EvidenceTellsKeys : Type 0
EvidenceTellsKeys = (r : RowState) (ws : List Columns) (s : Columns) → IsRowState r → r.nulls ≡ Equal → s < 2 ^ width r
    → covers r ≡ least_covers (width r) ws → projection_keys r s ≡ keys_within (width r) ws s

-- They are those by the agree sets of a snapshot that shows the rows.
abbrev pub SnapshotsTellKeys : Type 0
SnapshotsTellKeys = (t : CodeTable) (r : RowState) (s : Columns) → IsRowState r → Shows t r → r.nulls ≡ Equal → s < 2 ^ width r
    → projection_keys r s ≡ keys_within (width r) (code_agree_sets t) s
