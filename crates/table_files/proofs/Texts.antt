-- The text of a table's rows, line by line.
use Rattle.std.proofs.Common.{◌≡◌, ◌∙◌, ℕ, refl, sym, ap, List, [], ◌∷◌, ◌++◌, map}
use Rattle.std.specs.List.{flat_map}
use Rattle.col_set.specs.ColSet.{Columns, columns}
use Rattle.rel_base.specs.Cells.{Row, cell}
use Rattle.rel_base.specs.Projection.{part}
use Rattle.report_text.specs.Line.{line}
use Rattle.report_text.specs.Tables.{table_file_text}

flat_map-map : {X Y Z : Type 0} (f : Y → List Z) (g : X → Y) (xs : List X) → flat_map f (map g xs) ≡ flat_map (λ x. f (g x)) xs
flat_map-map f g [] = refl
flat_map-map f g (x ∷ xs) = ap (λ zs. f (g x) ++ zs) (flat_map-map f g xs)

-- the line of the names, and then those of the rows' cells in these columns
pub file-text : (s : Columns) (list : List ℕ) (names : Row) (row : ℕ → Row) (numbers : List ℕ) (text : List ℕ) → list ≡ columns s
    → text ≡ line (map (cell names) list) ++ flat_map (λ number. line (map (cell (row number)) list)) numbers → text ≡ table_file_text (part s names) (map (λ number. part s (row number)) numbers)
unfolding table_file_text part
file-text s list names row numbers text e are =
    are ∙ ap (λ (cs : List ℕ). line (map (cell names) cs) ++ flat_map (λ number. line (map (cell (row number)) cs)) numbers) e
    ∙ ap (λ (zs : List ℕ). line (map (cell names) (columns s)) ++ zs) (sym (flat_map-map line (λ (number : ℕ). map (cell (row number)) (columns s)) numbers))
