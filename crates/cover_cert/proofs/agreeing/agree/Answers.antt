use Rattle.std.proofs.Common.{◌+◌, sym, ◌∙◌, subst, arith}
use Rattle.cover_cert.proofs.Agreed.{Agreed, agreed_none, agreed_with, agreed_not, agreed_all}
use Rattle.cover_cert.proofs.agreeing.agree.Goals as goal
use Rattle.cover_cert.proofs.agreeing.agree.Goals.{then-code, else-code}

pub loop-column-init : goal.loop-column-init
loop-column-init c = agreed_none c.args.snapshot.now c.args.i c.args.j c.empty-columns.result c.empty-columns.ensures

pub loop-column-preserved : goal.loop-column-preserved
loop-column-preserved c =
    elim c.if-code.branch [
      | then-code w ↦
          agreed_with c.args.snapshot.now c.args.i c.args.j c.loop-column.column c.loop-column.columns c.if-code.columns c.loop-column.invariant
          (sym c.code.ensures ∙ w.if-code.true ∙ c.code-in-loop-column.ensures) (w.columns-is ∙ w.with-columns.ensures)
      | else-code w ↦
          subst (Agreed c.args.snapshot.now c.args.i c.args.j (c.loop-column.column + 1)) (sym w.columns-is)
          (agreed_not c.args.snapshot.now c.args.i c.args.j c.loop-column.column c.loop-column.columns c.loop-column.invariant
          (λ e. w.if-code.false (c.code.ensures ∙ e ∙ sym c.code-in-loop-column.ensures)))
    ]

pub returns : goal.returns
returns c = agreed_all c.args.snapshot.now c.args.i c.args.j c.loop-column.column c.loop-column.columns c.loop-column.invariant
    (let l = c.loop-column-test.false in let n = c.columns-column-end.ensures.value in let m = c.loop-column.auto.column-end in omega arith)
