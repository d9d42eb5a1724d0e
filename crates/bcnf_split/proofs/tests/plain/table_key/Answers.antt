use Rattle.std.proofs.Common.{◌≡◌, suc, ◌-◌, ◌∙◌, sym, arith}
use Rattle.std.proofs.lemmas.Bool.{and_left, and_right}
use Rattle.col_set.specs.ColSet.{has}
use Rattle.fd_closure.specs.Determined.{determines_all}
use Rattle.fd_closure.proofs.Shrinking.{shrunk-dropped, shrunk-end, shrunk-kept}
use Rattle.bcnf_split.proofs.PlainSplit.{key_start, key_answer}
use Rattle.bcnf_split.proofs.tests.plain.table_key.Goals as goal
use Rattle.bcnf_split.proofs.tests.plain.table_key.Goals.{else-has-via-then-has+else-subset_of, else-has-via-else-has}

pub loop-column-init : goal.loop-column-init
loop-column-init c r e w b = key_start r c.args.s c.args.n w

pub loop-column-preserved-then-subset_of : goal.loop-column-preserved-then-subset_of
loop-column-preserved-then-subset_of c r e w b =
    let l = c.loop-column-test.true in
    let d : c.loop-column.column ≡ suc (c.loop-column.column - 1) = omega arith in
    shrunk-dropped (λ x. determines_all r x c.args.s) c.loop-column.column (c.loop-column.column - 1) c.loop-column.key c.without-key.result d (sym c.has.ensures ∙ c.if-has.true)
    (sym (key_answer r c.args.s c.args.n c.without.result c.without-key.result c.determined_columns.result c.subset_of.result w b (c.without.ensures ∙ sym c.without-key.ensures) (c.determined_columns.ensures r e w) c.subset_of.ensures) ∙ c.if-subset_of.true)
    c.without-key.ensures
    ∙ c.loop-column.invariant r e w b

pub loop-column-preserved : goal.loop-column-preserved
loop-column-preserved c r e w b =
    let l = c.loop-column-test.true in
    let d : c.loop-column.column ≡ suc (c.loop-column.column - 1) = omega arith in
    shrunk-kept (λ x. determines_all r x c.args.s) c.loop-column.column (c.loop-column.column - 1) c.loop-column.key d
    (elim c.else-has.branch [
      | else-has-via-then-has+else-subset_of v ↦ and_right (has c.loop-column.key (c.loop-column.column - 1)) _
          (sym (key_answer r c.args.s c.args.n v.without.result _ v.determined_columns.result v.subset_of.result w b v.without.ensures (v.determined_columns.ensures r e w) v.subset_of.ensures) ∙ v.if-subset_of.false)
      | else-has-via-else-has v ↦ and_left _ _ (sym c.has.ensures ∙ v.if-has.false)
    ])
    ∙ c.loop-column.invariant r e w b

pub returns : goal.returns
returns c r e w b = sym (shrunk-end (λ x. determines_all r x c.args.s) c.loop-column.column c.loop-column.key c.loop-column-test.false) ∙ c.loop-column.invariant r e w b
