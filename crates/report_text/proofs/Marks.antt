-- There is a mark for each column.
use Rattle.std.proofs.Common.{◌≡◌, ℕ, ◌+◌, ◌<◌, List, [], ◌∷◌, length, length-append, get_or, All, sum, refl, ap₂, sym, ◌∙◌}
use Rattle.std.specs.List.{enumerate_from, flat_map}
use Rattle.std.proofs.lemmas.List.FromFn.{length-map-range_with_len}
use Rattle.std.proofs.lemmas.List.Elements.{All-get_or}
use Rattle.std.proofs.lemmas.List.Sums.{sum_by-cons}
use Rattle.report_text.specs.Inclusions.{column_marks, relation_marks}
use Rattle.report_text.specs.Field.{column_mark}

length-marks_from : (n : ℕ) (widths : List ℕ) → length (flat_map relation_marks (enumerate_from n widths)) ≡ sum widths
length-marks_from n [] = refl
length-marks_from n (width ∷ widths) =
    length-append (relation_marks (n, width)) (flat_map relation_marks (enumerate_from (n + 1) widths))
    ∙ ap₂ (λ (a b : ℕ). a + b) (length-map-range_with_len (column_mark n) 1 width) (length-marks_from (n + 1) widths)
    ∙ sym (sum_by-cons (λ x. x) width widths)

length-column_marks : (widths : List ℕ) → length (column_marks widths) ≡ sum widths
unfolding column_marks
length-column_marks widths = length-marks_from 1 widths

abbrev pub AreWithin : List ℕ → List (ℕ × ℕ) → Type 0
AreWithin widths pairs = All (λ pair. (pair.0 < sum widths) × (pair.1 < sum widths)) pairs

-- both positions of a pair have a mark
pub within-marks : (widths : List ℕ) (pairs : List (ℕ × ℕ)) (marks : List (List ℕ)) (k : ℕ) → marks ≡ column_marks widths → AreWithin widths pairs → k < length pairs
    → ((get_or pairs k (0, 0)).0 < length marks) × ((get_or pairs k (0, 0)).1 < length marks)
within-marks widths pairs marks k same within there =
    rw (same, length-column_marks widths) (All-get_or (λ pair. (pair.0 < sum widths) × (pair.1 < sum widths)) pairs k (0, 0) there within)
