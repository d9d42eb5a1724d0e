use Rattle.std.proofs.Common.{◌≡◌, ◌+◌, ◌∷◌, ◌++◌, ◌∙◌, ℕ, List, [], ap, sym, arith}
use Rattle.std.specs.List.{range_with_len}
use Rattle.plain_base.proofs.Folds.{range_more}
use Rattle.plain_base.proofs.plain_rows.numbers_to.Goals as goal

pub loop-place-preserved : goal.loop-place-preserved
loop-place-preserved c =
    let n = c.loop-place.place in
    c.in_ok-push.ensures.items ∙ ap (λ (xs : List ℕ). xs ++ (n + 1) ∷ []) c.loop-place.invariant
    ∙ ap (λ (i : ℕ). range_with_len 1 n ++ i ∷ []) (let e : n + 1 ≡ 1 + n = omega arith in e) ∙ sym (range_more n 1)
