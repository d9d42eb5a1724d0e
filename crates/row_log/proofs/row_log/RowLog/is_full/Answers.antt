use Rattle.std.proofs.Common.{◌≡◌, ◌+◌, ◌∙◌, ℕ, leb, ltb, ap, sym, arith}
use Rattle.std.proofs.lemmas.Bool.Decides.{nat_tests}
use Rattle.rel_base.specs.Batches.{is_full}
use Rattle.row_log.proofs.Log.{next-kept}
use Rattle.row_log.proofs.row_log.RowLog.is_full.Goals as goal

same : (m n k : ℕ) → k ≡ n + 1 → leb m n ≡ ltb m k
same m n k e = grind (arith, nat_tests)

pub returns : goal.returns
returns c =
    let v = c.self.inside in
    let n = next-kept v.names v.nulls v.limit v.columns.items v.live.items v.live_len c.self.invariant in
    let l = c.len.ensures ∙ v.live.ok.0 in
    same v.limit c.len.result _ (n ∙ ap (λ (k : ℕ). k + 1) (sym l)) ∙ ap is_full c.self.view_is
