-- Jobs that fit: with one old row at most the dependency holds among the old rows.
use Rattle.std.proofs.Common.{◌≡◌, ℕ, ◌<◌, ◌≤◌, ◌^◌, true, sym, subst, arith, ◌∙◌}
use Rattle.std.proofs.lemmas.Bool.{ltb-true}
use Rattle.col_set.specs.declared.target.Target.{Target}
use Rattle.col_set.specs.ColSet.{all, subset}
use Rattle.col_set.specs.Members.{has-all}
use Rattle.col_set.specs.Subsets.{subset-true, below_from}
use Rattle.col_set.proofs.Places.{Listed-contained}
use Rattle.rel_base.specs.Alike.{Alike}
use Rattle.rel_base.proofs.Alike.{alike-itself}
use Rattle.rel_base.specs.CodeTable.{CodeTable}
use Rattle.rel_base.specs.Shows.{holds_in_below, live_numbers}
use Rattle.rel_base.proofs.Shown.{holds_in_below-true}
use Rattle.stripped_partition.proofs.Live.{live_within}

-- two different rows have numbers above 1 and 0
pub one_row : (s : CodeTable) (end x : ℕ) (t : Target) → end ≤ 2 → holds_in_below end s x t ≡ true
one_row s end x t few = holds_in_below-true s end x t (record {
  each = λ i j h g m n ne w.
      let a = (live_within s i (Listed-contained i (live_numbers s) h)).0 in let b = (live_within s j (Listed-contained j (live_numbers s) g)).0 in
      absurd (ne (omega arith));
})

pub columns_below : (x n : ℕ) → subset x (all n) ≡ true → x < 2 ^ n
columns_below x n e = below_from x n (λ k h. ltb-true k n (sym (has-all n k) ∙ (subset-true e).each k h))

-- equal snapshots are alike
pub alike_same : (s u : CodeTable) → s ≡ u → Alike s u
alike_same s u e = subst (Alike s) e (alike-itself s)
