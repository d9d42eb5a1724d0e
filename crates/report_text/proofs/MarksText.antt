-- The names of columns of a relation, one by one.
use Rattle.std.proofs.Common.{◌≡◌, ℕ, ◌+◌, List, [], ◌∷◌, ◌++◌, map, refl, sym, ap, append-nil, length, arith}
use Rattle.std.specs.List.{join_with_byte, flat_map}
use Rattle.report_text.specs.Field.{column_mark, marks_text, space}

-- the columns after the first, each after a space
abbrev pub marks_tail : ℕ → List ℕ → List ℕ
marks_tail relation columns = flat_map (λ column. space ∷ column_mark relation (column + 1)) columns

join-tail : (relation column : ℕ) (columns : List ℕ)
    → join_with_byte space (map (λ c. column_mark relation (c + 1)) (column ∷ columns)) ≡ column_mark relation (column + 1) ++ marks_tail relation columns
join-tail relation column [] = sym (append-nil (column_mark relation (column + 1)))
join-tail relation column (next ∷ columns) = ap (λ t. column_mark relation (column + 1) ++ (space ∷ t)) (join-tail relation next columns)

pub marks_text-first : (relation column : ℕ) (columns : List ℕ) → marks_text relation (column ∷ columns) ≡ column_mark relation (column + 1) ++ marks_tail relation columns
unfolding marks_text
marks_text-first relation column columns = join-tail relation column columns

pub marks_text-none : (relation : ℕ) (columns : List ℕ) → length columns ≡ 0 → marks_text relation columns ≡ []
unfolding marks_text
marks_text-none relation [] none = refl
marks_text-none relation (column ∷ columns) none = absurd (omega arith)
