use Rattle.std.proofs.Common.{◌≡◌, ◌≢◌, ◌∙◌, ℕ, ap, arith, subst}
use Rattle.std.specs.Prelude.{◌↔◌}
use Rattle.col_set.specs.Listing.{Listed}
use Rattle.nary_ind.specs.Keys.{IsKeyBelow, packed}
use Rattle.nary_ind.proofs.Keying.{step-not, step-yes}
use Rattle.nary_ind.proofs.keys.keys_by_row.Goals as goal
use Rattle.nary_ind.proofs.keys.keys_by_row.Goals.{then-key-ne0+in_ok-push, else-key-ne0}

pub loop-row-preserved : goal.loop-row-preserved
loop-row-preserved c =
    let t = c.args.table.now in
    let cs = c.args.columns.now in
    elim c.if-key-ne0.branch [
      | then-key-ne0+in_ok-push w ↦
          step-yes t cs (λ key. key ≢ 0) c.loop-row.row c.loop-row.keys.items c.if-key-ne0.keys.items c.packed-key.result c.loop-row.invariant (c.packed-key.ensures ∙ ap packed c.key.ensures)
          (λ z. let f = w.if-key-ne0.true in absurd (omega arith)) (let r = w.keys-is in let i = w.in_ok-push.ensures.items in cc)
      | else-key-ne0 w ↦
          step-not t cs (λ key. key ≢ 0) c.loop-row.row c.loop-row.keys.items c.if-key-ne0.keys.items c.packed-key.result c.loop-row.invariant (c.packed-key.ensures ∙ ap packed c.key.ensures)
          (λ other. other (let f = w.if-key-ne0.false in omega arith)) (let r = w.keys-is in cc)
    ]

pub returns : goal.returns
returns c =
    let e : c.loop-row.row ≡ c.args.table.now.rows = let r = c.rows-row-end.ensures in let n = c.loop-row.auto.row-end in let f = c.loop-row-test.false in omega arith in
    subst (λ (n : ℕ). (key : ℕ) → Listed key c.loop-row.keys.items ↔ (IsKeyBelow n c.args.table.now c.args.columns.now key × (key ≢ 0))) e c.loop-row.invariant
