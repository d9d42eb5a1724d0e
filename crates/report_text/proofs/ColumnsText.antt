-- The text of a column set, column by column.
use Rattle.std.proofs.Common.{◌≡◌, ℕ, ◌+◌, List, [], ◌∷◌, ◌++◌, map, refl, sym, ap, ◌∙◌, append_assoc, Some, None}
use Rattle.std.specs.Prelude.{decimal}
use Rattle.std.specs.List.{join_with_byte, flat_map}
use Rattle.std.proofs.lemmas.List.{append-nil}
use Rattle.col_set.specs.ColSet.{columns, without, first}
use Rattle.col_set.proofs.EachColumn.{first-Some, first-None}
use Rattle.report_text.specs.Field.{columns_text, space}

-- the columns after the first, each after a space
abbrev pub columns_tail : List ℕ → List ℕ
columns_tail columns = flat_map (λ column. space ∷ decimal (column + 1)) columns

pub join-tail : (column : ℕ) (columns : List ℕ) → join_with_byte space (map (λ c. decimal (c + 1)) (column ∷ columns)) ≡ decimal (column + 1) ++ columns_tail columns
join-tail column [] = sym (append-nil (decimal (column + 1)))
join-tail column (next ∷ columns) = ap (λ t. decimal (column + 1) ++ (space ∷ t)) (join-tail next columns)

pub columns_text-none : (set : ℕ) → None ≡ first set → columns_text set ≡ []
unfolding columns_text
columns_text-none set e = rw (first-None set e) refl

pub columns_text-first : (set column rest : ℕ) (text : List ℕ) → Some column ≡ first set → rest ≡ without set column → text ≡ decimal (column + 1) → text ++ columns_tail (columns rest) ≡ columns_text set
unfolding columns_text
columns_text-first set column rest text e after written = rw (after, written, (first-Some set column e).columns_are) (sym (join-tail column (columns (without set column))))

pub columns_tail-more : (before text all : List ℕ) (set column rest : ℕ) → Some column ≡ first set → rest ≡ without set column → text ≡ (before ++ space ∷ []) ++ decimal (column + 1)
    → before ++ columns_tail (columns set) ≡ all → text ++ columns_tail (columns rest) ≡ all
columns_tail-more before text all set column rest e after written so_far =
    rw (after, written, append_assoc (before ++ space ∷ []) (decimal (column + 1)), append_assoc before) (rw (first-Some set column e).columns_are at so_far)

pub columns_tail-end : (text all : List ℕ) (set : ℕ) → None ≡ first set → text ++ columns_tail (columns set) ≡ all → text ≡ all
columns_tail-end text all set e so_far = sym (append-nil text) ∙ rw (first-None set e) at so_far
