-- What is reached by more dependencies, and from more columns.
use Rattle.std.proofs.Common.{◌≡◌, true, false, sym, ◌∙◌, List}
use Rattle.std.proofs.lemmas.Bool.{true≢false, false_from_ne_true}
use Rattle.col_set.specs.ColSet.{Columns, IsSubset, has}
use Rattle.col_set.specs.Lists.{Listed}
use Rattle.col_set.specs.Subsets.{IsSubset-trans}
use Rattle.col_set.proofs.Places.{Contains-listed, Listed-contained}
use Rattle.rel_base.specs.declared.dependency.Fd.{Fd}
use Rattle.synth_3nf.specs.Reached.{reached, follows}
use Rattle.synth_3nf.proofs.Reaching.{reached-closure}

pub reached-own : (fds : List Fd) (x : Columns) → IsSubset x (reached fds x)
reached-own fds x = (reached-closure fds x).contains

pub reached-by : (fds : List Fd) (x : Columns) (fd : Fd) → Listed fd fds → IsSubset fd.left (reached fds x) → has (reached fds x) fd.right ≡ true
reached-by fds x fd h s = (reached-closure fds x).closed.each fd (Contains-listed fd fds h) s

pub reached-from : (fds : List Fd) (x y : Columns) → IsSubset x (reached fds y) → IsSubset (reached fds x) (reached fds y)
reached-from fds x y s = (reached-closure fds x).smallest (reached fds y) s (reached-closure fds y).closed

pub reached-more : (fds : List Fd) (x y : Columns) → IsSubset x y → IsSubset (reached fds x) (reached fds y)
reached-more fds x y s = reached-from fds x y (IsSubset-trans s (reached-own fds y))

pub reached-fewer : (fds gs : List Fd) (x : Columns) → ((fd : Fd) → Listed fd fds → Listed fd gs) → IsSubset (reached fds x) (reached gs x)
reached-fewer fds gs x h =
    let c = reached-closure gs x in
    (reached-closure fds x).smallest (reached gs x) c.contains (record { each = λ fd l s. c.closed.each fd (Contains-listed fd gs (h fd (Listed-contained fd fds l))) s })

pub follows-fewer : (fds gs : List Fd) (fd : Fd) → ((other : Fd) → Listed other fds → Listed other gs) → follows gs fd ≡ false → follows fds fd ≡ false
follows-fewer fds gs fd h e = false_from_ne_true _ (λ g. true≢false (sym ((reached-fewer fds gs fd.left h).each fd.right g) ∙ e))
