use Rattle.std.proofs.Common.{◌<◌, ◌∙◌, ℕ, length, sym, subst, arith}
use Rattle.col_set.specs.Subsets.{has_within}
use Rattle.col_set.proofs.EachColumn.{first-Some}
use Rattle.validator.proofs.Chained.{agreeing_more, agreeing_not, agreeing_end}
use Rattle.validator.proofs.chain.agrees.Goals as goal

pub code-requires-clause-column : goal.code-requires-clause-column
code-requires-clause-column c =
    has_within c.loop-column.left (length c.args.snapshot.now.codes) c.in-Some.column c.loop-column.invariant.within (first-Some c.loop-column.left c.in-Some.column c.in-Some.ensures.value).had

pub code-requires-in-Some-clause-column : goal.code-requires-in-Some-clause-column
code-requires-in-Some-clause-column c =
    has_within c.loop-column.left (length c.args.snapshot.now.codes) c.in-Some.column c.loop-column.invariant.within (first-Some c.loop-column.left c.in-Some.column c.in-Some.ensures.value).had

pub returns-then-code : goal.returns-then-code
returns-then-code c =
    sym (sym c.loop-column.invariant.same ∙ agreeing_not c.args.snapshot.now c.args.i c.args.j c.loop-column.left c.in-Some.column (first-Some c.loop-column.left c.in-Some.column c.in-Some.ensures.value).had
    (λ e. c.if-code.true (c.code.ensures ∙ e ∙ sym c.code-in-Some.ensures)))

pub loop-column-smaller : goal.loop-column-smaller
loop-column-smaller c = subst (λ (n : ℕ). n < c.loop-column.left) (sym c.without-left.ensures) (first-Some c.loop-column.left c.in-Some.column c.in-Some.ensures.value).smaller

pub loop-column-preserved : goal.loop-column-preserved
loop-column-preserved c =
    let rest = first-Some c.loop-column.left c.in-Some.column c.in-Some.ensures.value in
    let less : c.without-left.result < c.loop-column.left = subst (λ (n : ℕ). n < c.loop-column.left) (sym c.without-left.ensures) rest.smaller in
    let was = c.loop-column.invariant.within in record {
      same =
          agreeing_more c.args.snapshot.now c.args.i c.args.j c.loop-column.left c.in-Some.column c.without-left.result c.in-Some.ensures.value
          (has_within c.loop-column.left (length c.args.snapshot.now.codes) c.in-Some.column was rest.had) (sym c.code.ensures ∙ c.if-code.false ∙ c.code-in-Some.ensures) c.without-left.ensures
          ∙ c.loop-column.invariant.same;
      within = omega arith;
    }

pub returns : goal.returns
returns c = sym (agreeing_end c.args.snapshot.now c.args.i c.args.j c.loop-column.left c.in_default.ensures.value) ∙ c.loop-column.invariant.same
