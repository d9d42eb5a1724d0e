-- What references between tables say of the rows.
use Rattle.std.proofs.Common.{◌≡◌, ℕ, not, ◌&&◌, eqb, sym, ap, ◌∙◌, subst, List}
use Rattle.std.specs.List.{Contains, enumerate_from, filter}
use Rattle.std.proofs.lemmas.Bool.{true≢false, and_parts, not-true, eq-eqb}
use Rattle.col_set.specs.ColSet.{Columns, IsSubset, empty, columns, subset}
use Rattle.col_set.specs.Lists.{Listed-flat_map_which, Listed-map_which, Listed-filter_parts}
use Rattle.col_set.specs.Subsets.{subset-true}
use Rattle.col_set.proofs.EachColumn.{columns-listed}
use Rattle.col_set.proofs.Places.{Contains-listed, Listed-contained}
use Rattle.rel_base.specs.declared.dependency.Table.{Table}
use Rattle.rel_base.specs.Cells.{Row, cell}
use Rattle.rel_base.specs.RowState.{RowState, row}
use Rattle.rel_base.specs.Projection.{part, projection}
use Rattle.lossless_join.specs.Parts.{part_cell}
use Rattle.lossless_join.specs.Joining.{part_within}
use Rattle.lossless_join.proofs.PartCells.{map_same, part_cell-part}
use Rattle.lossless_join.proofs.Projected.{PartOf-projection, projection-part}
use Rattle.synth_3nf.specs.declared.reference.Reference.{Reference}
use Rattle.synth_3nf.specs.References.{has_key_of_other, references_from, references}
use Rattle.synth_laws.specs.Referred.{HasMatch, IsHeldReference, ReferencesHold}

-- the part of a part is that of the row
part_of_part : (s c : Columns) (q : Row) → IsSubset c s → part_within s c (part s q) ≡ part c q
unfolding part_within part
part_of_part s c q i = map_same (part_cell s (part s q)) (cell q) (columns c) (λ k l. part_cell-part s q k (i.each k (columns-listed c k l)))

matched : (r : RowState) (f : Reference) (from to : Table) → IsSubset f.columns from.columns → IsSubset f.columns to.columns → (p : Row) → Contains (projection r from.columns) p → HasMatch r f from to p
matched r f from to own others p h =
    let w = PartOf-projection r from.columns p h in
    record {
      match = part to.columns (row r w.number);
      listed = projection-part r to.columns w.number w.live;
      same = ap (part_within from.columns f.columns) (sym w.same) ∙ part_of_part from.columns f.columns (row r w.number) own ∙ sym (part_of_part to.columns f.columns (row r w.number) others);
    }

pub ReferencesHold-references : (r : RowState) (tables : List Table) (keys : List (ℕ × Columns)) → ReferencesHold r tables keys
unfolding references
ReferencesHold-references r tables keys inside f h =
    let w = Listed-flat_map_which (references_from keys) f (enumerate_from 1 tables) (Listed-contained f (references tables keys) h) in
    let v = Listed-map_which (λ (key : ℕ × Columns). record { from = w.0.0; columns = key.1; to = key.0 }) f (filter (has_key_of_other w.0) keys) w.2 in
    let q = Listed-filter_parts (has_key_of_other w.0) v.0 keys v.1 in
    let p = and_parts (not (eqb v.0.0 w.0.0) && not (eqb v.0.1 empty)) (subset v.0.1 w.0.1.columns) q.1 in
    let o = and_parts (not (eqb v.0.0 w.0.0)) (not (eqb v.0.1 empty)) p.0 in
    let k = inside v.0 (Contains-listed v.0 keys q.0) in
    subst (IsHeldReference r tables) (sym v.2) (record {
      from = w.0.1;
      to = k.table;
      first = record { listed = Contains-listed w.0 (enumerate_from 1 tables) w.1 };
      second = k.own;
      apart = λ e. true≢false (sym (eq-eqb v.0.0 w.0.0 e) ∙ not-true _ o.0);
      some = λ e. true≢false (sym (eq-eqb v.0.1 empty e) ∙ not-true _ o.1);
      own = subset-true p.1;
      others = k.inside;
      among = matched r (record { from = w.0.0; columns = v.0.1; to = v.0.0 }) w.0.1 k.table (subset-true p.1) k.inside;
    })
