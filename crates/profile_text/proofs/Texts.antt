-- The text of several reports, and what a run of `profile` comes to.
use Rattle.std.proofs.Common.{◌≡◌, ℕ, zero, suc, ◌+◌, ◌<◌, refl, sym, ap, ap₂, ◌∙◌, ◌≤◌, subst, arith, List, [], ◌∷◌, ◌++◌, length, get_or, take, append-nil}
use Rattle.std.specs.List.{flat_map, zip}
use Rattle.std.proofs.lemmas.List.{take_more}
use Rattle.std.proofs.lemmas.List.Concat.{flat_map-append}
use Rattle.rel_base.specs.Cells.{Cell, Row}
use Rattle.rel_base.specs.RowState.{RowState}
use Rattle.rel_base.specs.Covers.{CoverLists, covers}
use Rattle.report_text.specs.Report.{report_text}
use Rattle.profile_text.specs.Columns.{AreColumnsOf}
use Rattle.profile_text.specs.Reports.{report_of, inclusion_lines, reports}
use Rattle.task_base.proofs.Facts.{take_whole}

-- the report of a row state
pub report_text-of : (r : RowState) (name : List ℕ) (names : Row) (rows : ℕ) (found : CoverLists) → names ≡ r.names → rows ≡ length r.live → found ≡ covers r
    → report_text name names rows found ≡ report_of name r
unfolding report_of
report_text-of r name names rows found same live is = λ i. report_text name (same i) (live i) (is i)

-- ---- one more
zip_more : {X Y : Type 0} (xs : List X) (ys : List Y) (i : ℕ) (d : X) (e : Y) → i < length xs → i < length ys
    → zip (take (i + 1) xs) (take (i + 1) ys) ≡ zip (take i xs) (take i ys) ++ (get_or xs i d, get_or ys i e) ∷ []
zip_more [] ys i d e h g = absurd (omega arith)
zip_more (x ∷ xs) [] i d e h g = absurd (omega arith)
zip_more (x ∷ xs) (y ∷ ys) zero d e h g = refl
zip_more {X} {Y} (x ∷ xs) (y ∷ ys) (suc i) d e h g =
    let s : suc i + 1 ≡ suc (i + 1) = omega arith in
    ap (λ (j : ℕ). zip (take j (x ∷ xs)) (take j (y ∷ ys))) s ∙ ap (λ (ps : List (X × Y)). (x, y) ∷ ps) (zip_more xs ys i d e (omega arith) (omega arith))

-- the reports of the first n of these row states, and what is kept of them
pub record AreReports (names : List (List ℕ)) (states : List RowState) (n : ℕ) (text widths : List ℕ) (columns : List (List Cell)) : Type 0 where
  pub text_is : text ≡ flat_map (λ p. report_of p.0 p.1) (zip (take n names) (take n states))
  pub columns_are : AreColumnsOf (take n states) widths columns

module _ (names : List (List ℕ)) (states : List RowState) where
  pub AreReports-none : (text widths : List ℕ) (columns : List (List Cell)) → text ≡ [] → AreColumnsOf [] widths columns → AreReports names states 0 text widths columns
  AreReports-none text widths columns is are = record { text_is = is; columns_are = are }

  pub AreReports-more : (n : ℕ) (text text' widths widths' : List ℕ) (columns columns' : List (List Cell)) (name : List ℕ) (r : RowState)
      → n < length names → n < length states → name ≡ get_or names n [] → r ≡ get_or states n r → text' ≡ text ++ report_of name r
      → ((before : List RowState) → AreColumnsOf before widths columns → AreColumnsOf (before ++ r ∷ []) widths' columns')
      → AreReports names states n text widths columns → AreReports names states (n + 1) text' widths' columns'
  AreReports-more n text text' widths widths' columns columns' name r h g named at made more so_far =
      let f : List ℕ × RowState → List ℕ = λ p. report_of p.0 p.1 in
      record {
        text_is =
            made ∙ ap₂ (λ (u v : List ℕ). u ++ v) so_far.text_is (ap₂ report_of named at ∙ sym (append-nil (f (get_or names n [], get_or states n r))))
            ∙ sym (ap (flat_map f) (zip_more names states n [] r h g) ∙ flat_map-append f (zip (take n names) (take n states)) ((get_or names n [], get_or states n r) ∷ []));
        columns_are =
            subst (λ (before : List RowState). AreColumnsOf before widths' columns') (ap (λ (s : RowState). take n states ++ s ∷ []) at ∙ sym (take_more states n r g)) (more (take n states) so_far.columns_are);
      }

  pub AreReports-whole : (n : ℕ) (text widths : List ℕ) (columns : List (List Cell)) → length names ≤ n → length states ≤ n → AreReports names states n text widths columns
      → (text ≡ flat_map (λ p. report_of p.0 p.1) (zip names states)) × AreColumnsOf states widths columns
  AreReports-whole n text widths columns h g so_far = (
    so_far.text_is ∙ ap₂ (λ (ns : List (List ℕ)) (ss : List RowState). flat_map (λ p. report_of p.0 p.1) (zip ns ss)) (take_whole n names h) (take_whole n states g),
    subst (λ (ss : List RowState). AreColumnsOf ss widths columns) (take_whole n states g) so_far.columns_are,
  )

pub reports-whole : (names : List (List ℕ)) (states : List RowState) (text whole : List ℕ) → text ≡ flat_map (λ p. report_of p.0 p.1) (zip names states) → whole ≡ text ++ inclusion_lines states
    → whole ≡ reports names states
unfolding reports
reports-whole names states text whole is more = more ∙ ap (λ (t : List ℕ). t ++ inclusion_lines states) is
