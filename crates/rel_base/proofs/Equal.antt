-- Rows that are equal, and those that are not.
use Rattle.std.proofs.Common.{◌≡◌, ◌≢◌, ℕ, ◌<◌, true, false, not, sym, ap, ◌∙◌, [], length, get_or}
use Rattle.std.proofs.lemmas.Bool.{false_from_ne_true, not-true, true≢false}
use Rattle.std.proofs.lemmas.List.{ext_get_or}
use Rattle.rel_base.specs.Cells.{Cell, Row}
use Rattle.rel_base.specs.Agreement.{same_cell}
use Rattle.rel_base.specs.Projection.{same_row}
use lib.Pointwise.{pointwise_decides, bytes_decides}

pub same_row-false : (a b : Row) → (a ≢ b) → false ≡ same_row a b
same_row-false a b ne = sym (false_from_ne_true _ (λ e. ne ((pointwise_decides bytes_decides a b).0 e)))

pub same_row-long : (a b : Row) → (length a ≢ length b) → false ≡ same_row a b
same_row-long a b ne = same_row-false a b (λ e. ne (ap length e))

pub same_row-cell : (a b : Row) (k : ℕ) (x y : Cell) → x ≡ get_or a k [] → y ≡ get_or b k [] → (x ≢ y) → false ≡ same_row a b
same_row-cell a b k x y e f ne = same_row-false a b (λ i. ne (e ∙ ap (λ (r : Row). get_or r k []) i ∙ sym f))

-- the test `!=` of two cells
pub cells-differ : (x y : Cell) → true ≡ not (same_cell x y) → x ≢ y
cells-differ x y d e = true≢false (sym ((bytes_decides x y).1 e) ∙ not-true _ (sym d))

pub same_row-each : (a b : Row) → length a ≡ length b → ((k : ℕ) → k < length a → get_or a k [] ≡ get_or b k []) → true ≡ same_row a b
same_row-each a b l f = sym ((pointwise_decides bytes_decides a b).1 (ext_get_or [] a b l f))
