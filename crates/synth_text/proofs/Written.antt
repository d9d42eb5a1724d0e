-- What is written of rows, by its parts.
use Rattle.std.proofs.Common.{◌≡◌, ◌∙◌, ℕ, ap, ap₂, List, [], ◌∷◌, ◌++◌, map, append_assoc}
use Rattle.std.specs.List.{enumerate_from}
use Rattle.col_set.specs.ColSet.{Columns}
use Rattle.rel_base.specs.declared.dependency.Table.{Table}
use Rattle.rel_base.specs.RowState.{RowState}
use Rattle.ports.specs.Lists.{File}
use Rattle.profile_text.specs.Reports.{reports}
use Rattle.table_files.specs.Files.{table_file}
use Rattle.table_files.specs.Keys.{all_keys, alternates}
use Rattle.synth_text.specs.Synthesize.{synthesized, tables, tables_and_references}

pub synthesized-text : (most : ℕ) (prefix file : List ℕ) (r : RowState) (ts : List Table) (others every : List (ℕ × Columns)) (before report lines : List ℕ) → ts ≡ tables most r → others ≡ alternates r ts → every ≡ all_keys r ts
    → report ≡ before ++ reports (file ∷ []) (r ∷ []) → lines ≡ report ++ tables_and_references ts others every → lines ≡ before ++ (synthesized most prefix file r).text
unfolding synthesized
synthesized-text most prefix file r ts others every before report lines are besides all first more =
    more ∙ ap₂ (λ (x y : List ℕ). x ++ y) first (λ i. tables_and_references (are i) ((besides ∙ ap (alternates r) are) i) ((all ∙ ap (all_keys r) are) i))
    ∙ append_assoc before (reports (file ∷ []) (r ∷ [])) (tables_and_references (tables most r) (alternates r (tables most r)) (all_keys r (tables most r)))

pub synthesized-files : (most : ℕ) (prefix file : List ℕ) (r : RowState) (ts : List Table) (files : List File) → ts ≡ tables most r → files ≡ map (table_file prefix r) (enumerate_from 1 ts) → files ≡ (synthesized most prefix file r).files
unfolding synthesized
synthesized-files most prefix file r ts files are made = made ∙ ap (λ (xs : List Table). map (table_file prefix r) (enumerate_from 1 xs)) are
