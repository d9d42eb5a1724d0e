use Rattle.std.proofs.Common.{◌≡◌, ℕ, suc, ◌-◌, ◌∙◌, sym, ap, arith}
use Rattle.std.proofs.lemmas.Bool.{and_left, and_right}
use Rattle.col_set.specs.ColSet.{has}
use Rattle.fd_closure.proofs.Shrinking.{shrunk-dropped, shrunk-end, shrunk-kept}
use Rattle.synth_3nf.specs.Tables.{reaches_all, whole_key}
use Rattle.synth_3nf.proofs.tables.whole_key.Goals as goal
use Rattle.synth_3nf.proofs.tables.whole_key.Goals.{else-has-via-then-has+else-reaches_all, else-has-via-else-has}

pub loop-column-preserved-then-reaches_all : goal.loop-column-preserved-then-reaches_all
loop-column-preserved-then-reaches_all c =
    let l = c.loop-column-test.true in
    let e : c.loop-column.column ≡ suc (c.loop-column.column - 1) = omega arith in
    shrunk-dropped (reaches_all c.args.n c.args.kept.now) c.loop-column.column (c.loop-column.column - 1) c.loop-column.key c.without-key.result e (sym c.has.ensures ∙ c.if-has.true)
    (ap (λ (z : ℕ). reaches_all c.args.n c.args.kept.now z) (c.without-key.ensures ∙ sym c.without.ensures) ∙ sym c.reaches_all.ensures ∙ c.if-reaches_all.true) c.without-key.ensures
    ∙ c.loop-column.invariant

pub loop-column-preserved : goal.loop-column-preserved
loop-column-preserved c =
    let l = c.loop-column-test.true in
    let e : c.loop-column.column ≡ suc (c.loop-column.column - 1) = omega arith in
    shrunk-kept (reaches_all c.args.n c.args.kept.now) c.loop-column.column (c.loop-column.column - 1) c.loop-column.key e
    (elim c.else-has.branch [
      | else-has-via-then-has+else-reaches_all w ↦ and_right (has c.loop-column.key (c.loop-column.column - 1)) _
          (ap (λ (z : ℕ). reaches_all c.args.n c.args.kept.now z) (sym w.without.ensures) ∙ sym w.reaches_all.ensures ∙ w.if-reaches_all.false)
      | else-has-via-else-has w ↦ and_left _ _ (sym c.has.ensures ∙ w.if-has.false)
    ])
    ∙ c.loop-column.invariant

pub returns : goal.returns
unfolding whole_key
returns c = sym (shrunk-end (reaches_all c.args.n c.args.kept.now) c.loop-column.column c.loop-column.key c.loop-column-test.false) ∙ c.loop-column.invariant
