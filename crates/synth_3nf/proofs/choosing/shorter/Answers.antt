use Rattle.std.proofs.Common.{◌≡◌, ◌<◌, ◌∙◌, ℕ, Less, sym, ap, subst, List}
use Rattle.std.specs.Prelude.{nat_le}
use Rattle.std.proofs.lemmas.List.Elements.{All-filter}
use Rattle.std.proofs.lemmas.List.Kept.{AllPairs-filter}
use Rattle.col_set.specs.ColSet.{size}
use Rattle.col_set.specs.declared.col_set.TheConstants.{MOST_COLUMNS}
use Rattle.rel_base.specs.declared.dependency.Fd.{Fd}
use Rattle.rel_base.specs.Covers.{IsInOrder, fd_cmp}
use Rattle.synth_3nf.specs.Shorter.{shorter}
use Rattle.synth_3nf.proofs.choosing.shorter.Goals as goal

in_order : (most : ℕ) (fds : List Fd) → IsInOrder fds → IsInOrder (shorter most fds)
in_order most fds o = record {
  rising = AllPairs-filter (λ (one other : Fd). fd_cmp one other ≡ Less) (λ (fd : Fd). nat_le (size fd.left) most) fds o.rising;
  narrow = All-filter (λ (fd : Fd). nat_le (size fd.left) most) (λ (fd : Fd). fd.right < MOST_COLUMNS) fds o.narrow;
}

pub of-requires-clause-fds : goal.of-requires-clause-fds
of-requires-clause-fds c =
    subst IsInOrder (sym (c.in_ok-fds.ensures ∙ ap (shorter c.args.most) c.fds.ensures.value)) (in_order c.args.most c.args.covers.now.fds c.fds.ensures.order)
