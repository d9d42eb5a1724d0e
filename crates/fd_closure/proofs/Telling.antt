-- The key of a table by the one pass and by the rows, and what it is.
use Rattle.std.proofs.Common.{◌≡◌, ℕ, ◌<◌, ◌≤◌, ◌^◌, true, ◌∙◌}
use Rattle.col_set.specs.ColSet.{IsSubset, subset}
use Rattle.col_set.specs.Subsets.{subset_below}
use Rattle.col_set.proofs.Places.{Climbs}
use Rattle.rel_base.specs.RowState.{RowState, width}
use Rattle.rel_base.specs.Covers.{covers}
use Rattle.fd_closure.specs.Determined.{determines_all}
use Rattle.fd_closure.specs.Closure.{closure_of}
use Rattle.fd_closure.specs.Keys.{shrunk, table_key}
use Rattle.fd_closure.specs.Laws.{KeyMeans}
use Rattle.fd_closure.proofs.Determined.{all-more, holds-all, holds-own, Determines-tested, determines-true}
use Rattle.fd_closure.proofs.Closing.{closure-determines}
use Rattle.fd_closure.proofs.Shrinking.{shrunk-above, shrunk-same, shrunk-inside, shrunk-passes, shrunk-minimal}

pub shrunk-table_key : (r : RowState) (s : ℕ) → width r ≤ 128 → s < 2 ^ width r → shrunk (λ x. subset s (closure_of (covers r).fds x)) 128 s ≡ table_key r s
unfolding table_key
shrunk-table_key r s l b =
    shrunk-above (λ x. subset s (closure_of (covers r).fds x)) 128 (width r) s b l
    ∙ shrunk-same (λ x. subset s (closure_of (covers r).fds x)) (λ x. determines_all r x s) (width r) s (λ y i. closure-determines r y s (subset_below (width r) i b) b)

itself : (r : RowState) (s : ℕ) → determines_all r s s ≡ true
itself r s = holds-all r s s (λ a h. holds-own r s a h)

pub table_key-inside : (r : RowState) (s : ℕ) → IsSubset (table_key r s) s
unfolding table_key
table_key-inside r s = shrunk-inside (λ x. determines_all r x s) (width r) s

pub table_key-determines : (r : RowState) (s : ℕ) → determines_all r (table_key r s) s ≡ true
unfolding table_key
table_key-determines r s = shrunk-passes (λ x. determines_all r x s) (width r) s (itself r s)

pub KeyMeans-table_key : (r : RowState) (s : ℕ) → Climbs r.live → s < 2 ^ width r → KeyMeans r s
unfolding table_key
KeyMeans-table_key r s up b = record {
  inside = table_key-inside r s;
  determines = Determines-tested r _ s (table_key-determines r s);
  smallest = λ x i d. (shrunk-minimal (λ x. determines_all r x s) (λ x y. all-more r x y s) (width r) s b (itself r s)).smallest x i (determines-true r x s up d);
}
