use Rattle.std.proofs.Common.{◌≡◌, ◌∙◌, ap, length, arith}
use Rattle.std.specs.List.{range_with_len}
use Rattle.plain_base.proofs.Rows.{opened-state}
use Rattle.plain_base.proofs.plain_rows.PlainRows.opened.Goals as goal

pub invariant_of-result : goal.invariant_of-result
invariant_of-result c =
    let n : c.len.result ≡ length c.in_ok-given.given.items = let e = c.len.ensures in omega (arith, c.in_ok-given.given.ok.0) in
    opened-state c.args.nulls c.args.limits.rows c.args.relation c.in_ok-names.names c.in_ok-given.given.items c.in_ok-live.live.items c.names.ensures.bounds c.args.limits.few_rows
    (c.in_ok-names.ensures ∙ c.names.ensures.value) c.in_ok-given.ensures (c.in_ok-live.ensures ∙ ap (range_with_len 1) n)
