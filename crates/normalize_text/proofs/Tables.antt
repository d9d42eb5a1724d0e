-- The tables of a relation.
use Rattle.std.proofs.Common.{◌≡◌, ◌∙◌, ◌<◌, ◌^◌, ℕ, ap, ap₂, List, [], ◌∷◌, ◌++◌, map, append_assoc}
use Rattle.std.specs.List.{All, enumerate_from}
use Rattle.std.proofs.lemmas.List.Elements.{All-map}
use Rattle.col_set.specs.ColSet.{Columns, all}
use Rattle.col_set.specs.Subsets.{subset_below}
use Rattle.rel_base.specs.declared.dependency.Table.{Table}
use Rattle.rel_base.specs.RowState.{IsRowState, RowState, width}
use Rattle.lossless_join.proofs.Heath.{all-below}
use Rattle.rel_base.proofs.States.{live_climbs}
use Rattle.fd_closure.specs.Keys.{table_key}
use Rattle.bcnf_split.specs.Split.{splits}
use Rattle.bcnf_split.proofs.Splitting.{SplitMeans-splits}
use Rattle.ports.specs.Lists.{File}
use Rattle.report_text.specs.Tables.{tables_text}
use Rattle.table_files.specs.Files.{table_file}
use Rattle.table_files.specs.Keys.{alternates}
use Rattle.normalize_text.specs.Normalize.{normalized, tables}
use Rattle.profile_text.specs.Reports.{reports}

-- the columns of each table are columns of the relation
pub tables_below : (r : RowState) → IsRowState r → All (λ t. t.columns < 2 ^ width r) (tables r)
tables_below r state =
    let inside = (SplitMeans-splits r (all (width r)) (live_climbs r state) (all-below (width r))).inside in
    All-map (λ (t : Table). t.columns < 2 ^ width r) (λ (t : Columns). record { columns = t; key = table_key r t }) (splits r (all (width r)))
    (λ i d h. subset_below (width r) (inside i d h) (all-below (width r)))

-- what is written of rows, by its parts
pub normalized-text : (prefix file : List ℕ) (r : RowState) (ts : List Table) (others : List (ℕ × Columns)) (before report lines : List ℕ) → ts ≡ tables r → others ≡ alternates r ts
    → report ≡ before ++ reports (file ∷ []) (r ∷ []) → lines ≡ report ++ tables_text ts others → lines ≡ before ++ (normalized prefix file r).text
unfolding normalized
normalized-text prefix file r ts others before report lines are by first more =
    more ∙ ap₂ (λ (x y : List ℕ). x ++ y) first (ap₂ tables_text are (by ∙ ap (alternates r) are)) ∙ append_assoc before (reports (file ∷ []) (r ∷ [])) (tables_text (tables r) (alternates r (tables r)))

pub normalized-files : (prefix file : List ℕ) (r : RowState) (ts : List Table) (files : List File) → ts ≡ tables r → files ≡ map (table_file prefix r) (enumerate_from 1 ts) → files ≡ (normalized prefix file r).files
unfolding normalized
normalized-files prefix file r ts files are made = made ∙ ap (λ (xs : List Table). map (table_file prefix r) (enumerate_from 1 xs)) are
