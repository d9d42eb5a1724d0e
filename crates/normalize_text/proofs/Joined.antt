-- The files of `normalize` are a lossless split to normal form.
use Rattle.std.proofs.Common.{◌≡◌, ◌+◌, ℕ, refl, ap, List, [], ◌∷◌, map}
use Rattle.std.specs.List.{enumerate_from}
use Rattle.col_set.specs.ColSet.{Columns, all}
use Rattle.rel_base.specs.declared.nulls.Nulls.TheVariants.{Equal}
use Rattle.rel_base.specs.RowState.{IsRowState, RowState, width}
use Rattle.fd_closure.specs.Keys.{table_key}
use Rattle.bcnf_split.specs.Split.{splits}
use Rattle.lossless_join.proofs.Bcnf.{SplitToBcnf-splits}
use Rattle.normalize_text.specs.Joined.{AreLosslessTables, projection_text}
use Rattle.table_files.specs.Files.{table_file}
use Rattle.normalize_text.specs.Normalize.{normalized}

-- the texts of the files of tables of these columns
texts_are : (prefix : List ℕ) (r : RowState) (k : ℕ) (sets : List Columns)
    → map (λ file. file.1) (map (table_file prefix r) (enumerate_from k (map (λ (s : Columns). record { columns = s; key = table_key r s }) sets))) ≡ map (projection_text r) sets
texts_are prefix r k [] = refl
texts_are prefix r k (s ∷ sets) = ap (λ (texts : List (List ℕ)). projection_text r s ∷ texts) (texts_are prefix r (k + 1) sets)

pub lossless_tables : (prefix name : List ℕ) (r : RowState) → IsRowState r → r.nulls ≡ Equal → AreLosslessTables r (normalized prefix name r).files
unfolding normalized
lossless_tables prefix name r is equal =
    let split = SplitToBcnf-splits r is equal in
    record { sets = splits r (all (width r)); texts = texts_are prefix r 1 (splits r (all (width r))); normal = split.normal; joined = split.joined }
