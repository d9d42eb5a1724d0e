use Rattle.std.proofs.Common.{◌≡◌, ℕ, ◌+◌, List, [], ◌∷◌, ◌++◌, map, sym, ap, ap₂, ◌∙◌}
use Rattle.std.proofs.lemmas.List.{map-append}
use Rattle.col_set.specs.ColSet.{empty, upto, with}
use Rattle.stripped_partition.specs.Stripped.{error_of, stripped}
use Rattle.stripped_partition.proofs.OrderLoops.{upto_more}
use Rattle.stripped_partition.proofs.weighing.weights.Goals as goal

-- one number more
more : (f : ℕ → ℕ) (xs : List ℕ) (k x : ℕ) → xs ≡ map f (upto k) → x ≡ f k → xs ++ x ∷ [] ≡ map f (upto (k + 1))
more f xs k x e g = ap₂ (λ (ys : List ℕ) (y : ℕ). ys ++ y ∷ []) e g ∙ sym (map-append f (upto k) (k ∷ [])) ∙ ap (map f) (sym (upto_more k))

pub loop-column-preserved : goal.loop-column-preserved
loop-column-preserved c =
    let s = c.args.snapshot.now in (
      c.in_ok-push.ensures.items
          ∙ more (λ k. error_of (stripped s (with empty k))) c.loop-column.weights.items c.loop-column.column c.error_count.result c.loop-column.invariant.0
          (c.error_count.ensures ∙ ap error_of (c.in_ok-groups.ensures.value empty c.in_ok-all.ensures.value)),
      c.in_ok-groups.ensures.clear,
    )
