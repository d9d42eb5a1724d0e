-- Inclusions found from what is kept of relations.
use Rattle.std.proofs.Common.{◌≡◌, ◌∙◌, ◌+◌, ◌<◌, ◌≤◌, ◌&&◌, ◌||◌, not, inl, inr, ℕ, arith, Bool, true, false, refl, sym, ap, ap₂, subst, List, [], ◌∷◌, ◌++◌, length, map, filter, flat_map, get_or, append-nil}
use Rattle.std.specs.List.{All, AllZip, list_all, list_any, sum, sum_by}
use Rattle.std.proofs.lemmas.Bool.{eq-eqb}
use Rattle.std.proofs.lemmas.List.{length-append, map-append}
use Rattle.std.proofs.lemmas.List.Concat.{flat_map-append}
use Rattle.std.proofs.lemmas.List.Elements.{AllZip-get_or, All-cons, All-filter, All-nil, length_all_zip}
use Rattle.std.proofs.lemmas.List.Sums.{sum-map, sum_by-cons}
use Rattle.std.proofs.lemmas.List.FromFn.{length-map-range_with_len}
use Rattle.col_set.specs.AllSets.{Listed-upto_within}
use Rattle.col_set.specs.ColSet.{upto}
use Rattle.col_set.specs.Lists.{Listed, Listed-flat_map_which, Listed-map_which, filter_same}
use Rattle.rel_base.specs.Agreement.{same_cell}
use Rattle.rel_base.specs.Cells.{Cell}
use Rattle.rel_base.specs.RowState.{RowState, width}
use Rattle.rel_base.specs.Inclusion.{Included, all_columns, column_cells, included, inclusions}
use Rattle.rel_base.proofs.Parts.{Included-tested, included-true}
use Rattle.row_log.specs.Distinct.{AreDistinctCells}
use Rattle.cover_steps.proofs.Drafting.{AllZip-append}
use Rattle.inclusion_merge.specs.Candidates.{pairs_from}
use Rattle.report_text.specs.Inclusions.{inclusions_text}
use Rattle.profile_text.specs.Columns.{AreColumnsOf, SameFilled}
use Rattle.profile_text.specs.Reports.{inclusion_lines}

-- ---- the columns of one relation
same_filled : (r : RowState) (n : ℕ) (cells : List Cell) → AreDistinctCells r n cells → SameFilled (column_cells r n) cells
same_filled r n cells are = record { each = λ c filled. ((λ there. (are.each c).1 (there, filled)), (λ back. ((are.each c).0 back).0)) }

filled_each : (r : RowState) (ns : List ℕ) (found : List (List Cell)) → AllZip (AreDistinctCells r) ns found → AllZip SameFilled (map (column_cells r) ns) found
filled_each r [] [] h = h
filled_each r [] (f ∷ found) h = absurd h
filled_each r (n ∷ ns) [] h = absurd h
filled_each r (n ∷ ns) (f ∷ found) h = (same_filled r n f h.0, filled_each r ns found h.1)

pub columns_pushed : (r : RowState) (ns : List ℕ) (xs old found new : List (List Cell)) → AllZip SameFilled xs old → AllZip (AreDistinctCells r) ns found → new ≡ old ++ found
    → AllZip SameFilled (xs ++ map (column_cells r) ns) new
columns_pushed r ns xs old found new all each is = subst (AllZip SameFilled (xs ++ map (column_cells r) ns)) (sym is) (AllZip-append SameFilled xs (map (column_cells r) ns) old found all (filled_each r ns found each))

-- ---- one relation more
all_columns_more : (states : List RowState) (r : RowState) → all_columns (states ++ r ∷ []) ≡ all_columns states ++ map (column_cells r) (upto (width r))
all_columns_more states r =
    let f : RowState → List (List Cell) = λ s. map (column_cells s) (upto (width s)) in
    flat_map-append f states (r ∷ []) ∙ ap (λ ys. all_columns states ++ ys) (append-nil (f r))

pub relation_pushed : (states : List RowState) (r : RowState) (old new : List ℕ) (columns : List (List Cell)) (n : ℕ) → old ≡ map width states → n ≡ width r → new ≡ old ++ n ∷ []
    → AllZip SameFilled (all_columns states ++ map (column_cells r) (upto n)) columns → AreColumnsOf (states ++ r ∷ []) new columns
relation_pushed states r old new columns n widths wide is all = record {
  widths_are = is ∙ ap₂ (λ (ws : List ℕ) (w : ℕ). ws ++ w ∷ []) widths wide ∙ sym (map-append width states (r ∷ []));
  each = subst (λ (a : List (List Cell)). AllZip SameFilled a columns) (ap (λ (m : ℕ). all_columns states ++ map (column_cells r) (upto m)) wide ∙ sym (all_columns_more states r)) all;
}

-- ---- the same inclusions
module _ (xs ys : List (List Cell)) (all : AllZip SameFilled xs ys) where
  long : length xs ≡ length ys
  long = length_all_zip SameFilled xs ys all

  there : (i : ℕ) → i < length xs → SameFilled (get_or xs i []) (get_or ys i [])
  there i l = AllZip-get_or SameFilled xs ys i [] [] all l

  Included-there : (c d : ℕ) → Included xs c d → Included ys c d
  Included-there c d h =
      let e = long in
      let l = h.dependent in
      let m = h.referenced in
      record {
        dependent = omega arith;
        referenced = omega arith;
        other = h.other;
        each = λ a k filled. ((there d h.referenced).each a filled).0 (h.each a (((there c h.dependent).each a filled).1 k) filled);
      }

  Included-back : (c d : ℕ) → Included ys c d → Included xs c d
  Included-back c d h =
      let e = long in
      let l = h.dependent in
      let m = h.referenced in
      let l' : c < length xs = omega arith in
      let m' : d < length xs = omega arith in
      record {
        dependent = l';
        referenced = m';
        other = h.other;
        each = λ a k filled. ((there d m').each a filled).1 (h.each a (((there c l').each a filled).0 k) filled);
      }

same_answer : (a b : Bool) → (a ≡ true → b ≡ true) → (b ≡ true → a ≡ true) → a ≡ b
same_answer true b f g = sym (f refl)
same_answer false true f g = g refl
same_answer false false f g = refl

included_same : (xs ys : List (List Cell)) → AllZip SameFilled xs ys → (c d : ℕ) → c < length xs → d < length xs → included xs c d ≡ included ys c d
included_same xs ys all c d l m =
    let e = long xs ys all in
    same_answer (included xs c d) (included ys c d)
    (λ h. included-true ys c d (Included-there xs ys all c d (Included-tested xs c d l m h)))
    (λ h. included-true xs c d (Included-back xs ys all c d (Included-tested ys c d (omega arith) (omega arith) h)))

-- each column with each, of so many
pairs : ℕ → List (ℕ × ℕ)
pairs n = flat_map (λ c. map (λ d. (c, d)) (upto n)) (upto n)

pair_within : (n : ℕ) (p : ℕ × ℕ) → Listed p (pairs n) → (p.0 < n) × (p.1 < n)
unfolding pairs
pair_within n p h =
    let v = Listed-flat_map_which (λ (c : ℕ). map (λ d. (c, d)) (upto n)) p (upto n) h in
    let w = Listed-map_which (λ (d : ℕ). (v.0, d)) p (upto n) v.2 in
    let first : p.0 ≡ v.0 = ap (λ (q : ℕ × ℕ). q.0) w.2 in
    let second : p.1 ≡ w.0 = ap (λ (q : ℕ × ℕ). q.1) w.2 in
    let a = Listed-upto_within n v.0 v.1 in
    let b = Listed-upto_within n w.0 w.1 in
    (omega arith, omega arith)

pub inclusions_same : (xs ys : List (List Cell)) → AllZip SameFilled xs ys → inclusions xs ≡ inclusions ys
unfolding inclusions pairs
inclusions_same xs ys all =
    filter_same (λ p. included xs p.0 p.1) (λ p. included ys p.0 p.1) (pairs (length xs)) (λ p h. let w = pair_within (length xs) p h in included_same xs ys all p.0 p.1 w.0 w.1)
    ∙ ap (λ (n : ℕ). filter (λ p. included ys p.0 p.1) (pairs n)) (long xs ys all)

-- ---- places of columns
all_listed : {X : Type 0} (P : X → Type 0) (xs : List X) → ((x : X) → Listed x xs → P x) → All P xs
all_listed P [] f = All-nil P
all_listed P (x ∷ xs) f = All-cons P x xs (f x (inl refl)) (all_listed P xs (λ y h. f y (inr h)))

inclusions_within : (columns : List (List Cell)) → All (λ p. (p.0 < length columns) × (p.1 < length columns)) (inclusions columns)
unfolding inclusions pairs
inclusions_within columns =
    All-filter (λ p. included columns p.0 p.1) (λ p. (p.0 < length columns) × (p.1 < length columns)) (pairs (length columns))
    (all_listed (λ p. (p.0 < length columns) × (p.1 < length columns)) (pairs (length columns)) (pair_within (length columns)))

columns_counted : (states : List RowState) → length (all_columns states) ≡ sum_by width states
columns_counted [] = refl
columns_counted (r ∷ states) =
    length-append (map (column_cells r) (upto (width r))) (all_columns states)
    ∙ ap₂ (λ (m n : ℕ). m + n) (length-map-range_with_len (column_cells r) 0 (width r)) (columns_counted states) ∙ sym (sum_by-cons width r states)

columns_long : (states : List RowState) → length (all_columns states) ≡ sum (map width states)
columns_long states = columns_counted states ∙ sym (sum-map width states)

pub pairs_within : (states : List RowState) (widths : List ℕ) (columns : List (List Cell)) (found : List (ℕ × ℕ)) → AreColumnsOf states widths columns → found ≡ inclusions columns
    → All (λ p. (p.0 < sum widths) × (p.1 < sum widths)) found
pairs_within states widths columns found are is =
    let n : length columns ≡ sum widths = sym (length_all_zip SameFilled (all_columns states) columns are.each) ∙ columns_long states ∙ sym (ap sum are.widths_are) in
    subst (λ (m : ℕ). All (λ p. (p.0 < m) × (p.1 < m)) found) n
    (subst (λ (ps : List (ℕ × ℕ)). All (λ p. (p.0 < length columns) × (p.1 < length columns)) ps) (sym is) (inclusions_within columns))

-- the lines of pairs that were found among what is kept
pub inclusion_lines-found : (states : List RowState) (given widths : List ℕ) (columns : List (List Cell)) (found : List (ℕ × ℕ)) → AreColumnsOf states widths columns → given ≡ widths → found ≡ inclusions columns
    → inclusions_text given found ≡ inclusion_lines states
unfolding inclusion_lines
inclusion_lines-found states given widths columns found are same is =
    ap₂ inclusions_text (same ∙ are.widths_are) (is ∙ sym (inclusions_same (all_columns states) columns are.each))

-- ---- the columns of one relation as they are
same_itself : (xs : List (List Cell)) → AllZip SameFilled xs xs
same_itself [] = tt
same_itself (x ∷ xs) = (record { each = λ c filled. ((λ k. k), (λ k. k)) }, same_itself xs)

pub are_columns : (r : RowState) (n : ℕ) → n ≡ width r → AreColumnsOf (r ∷ []) (n ∷ []) (all_columns (r ∷ []))
are_columns r n e = record { widths_are = ap (λ (w : ℕ). w ∷ []) e; each = same_itself (all_columns (r ∷ [])) }

-- no column is included in itself
pub included_itself : (columns : List (List Cell)) (c : ℕ) → included columns c c ≡ false
unfolding included
included_itself columns c = ap (λ (b : Bool). not b && list_all (λ a. same_cell a [] || list_any (same_cell a) (get_or columns c [])) (get_or columns c [])) (eq-eqb c c refl)

-- the pairs of all dependent columns
pub inclusions-all : (r : RowState) (w n : ℕ) → w ≡ width r → n ≤ w → w ≤ n
    → filter (λ p. included (all_columns (r ∷ [])) p.0 p.1) (flat_map (λ c. pairs_from c (upto w)) (upto n)) ≡ inclusions (all_columns (r ∷ []))
unfolding inclusions
inclusions-all r w n wide most least =
    let long : length (all_columns (r ∷ [])) ≡ width r = ap length (append-nil (map (column_cells r) (upto (width r)))) ∙ length-map-range_with_len (column_cells r) 0 (width r) in
    let each : w ≡ length (all_columns (r ∷ [])) = wide ∙ sym long in
    let all : n ≡ length (all_columns (r ∷ [])) = omega arith in
    ap₂ (λ (k m : ℕ). filter (λ p. included (all_columns (r ∷ [])) p.0 p.1) (flat_map (λ c. pairs_from c (upto k)) (upto m))) each all
