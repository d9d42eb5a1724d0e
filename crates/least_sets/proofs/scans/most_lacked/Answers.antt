use Rattle.std.proofs.Common.{◌∙◌, ℕ, ◌<◌, sym, ap, subst, arith}
use Rattle.col_set.specs.ColSet.{IsSubset, has}
use Rattle.col_set.specs.Subsets.{IsSubset-trans}
use Rattle.col_set.proofs.EachColumn.{first-Some, first-None}
use Rattle.least_sets.proofs.Branches.{no_columns, without_inside}
use Rattle.least_sets.proofs.scans.most_lacked.Goals as goal
use Rattle.least_sets.proofs.scans.most_lacked.Goals.{then-count-most, else-count-most}

pub returns-in_err-best-clause-none : goal.returns-in_err-best-clause-none
returns-in_err-best-clause-none g c = λ e. no_columns c.args.columns (first-None c.args.columns c.in_err-best.ensures.value)

pub returns-then-eq-clause-some : goal.returns-then-eq-clause-some
returns-then-eq-clause-some g c = (first-Some c.args.columns c.in_ok-best.best c.in_ok-best.ensures.value).had

pub loop-column-init : goal.loop-column-init
loop-column-init g c = record {
  best = (first-Some c.args.columns c.in_ok-best.best c.in_ok-best.ensures.value).had;
  bound = c.in_ok-best.ensures.bound;
  within = subst (λ (v : ℕ). IsSubset v c.args.columns) (sym c.without-rest.ensures) (without_inside c.args.columns c.in_ok-best.best);
}

pub loop-column-preserved : goal.loop-column-preserved
loop-column-preserved g c =
    let had = (first-Some c.loop-column.rest c.in-Some.column c.in-Some.ensures.value).had in record {
      best = elim c.if-count-most.branch [
        | then-count-most w ↦ ap (has c.args.columns) w.best-is ∙ c.loop-column.invariant.within.each c.in-Some.column had
        | else-count-most w ↦ ap (has c.args.columns) w.best-is ∙ c.loop-column.invariant.best
      ];
      bound = elim c.if-count-most.branch [
        | then-count-most w ↦ subst (λ (k : ℕ). k < 128) (sym w.best-is) c.in-Some.ensures.bound
        | else-count-most w ↦ subst (λ (k : ℕ). k < 128) (sym w.best-is) c.loop-column.invariant.bound
      ];
      within = subst (λ (v : ℕ). IsSubset v c.args.columns) (sym c.without-rest-in-Some.ensures) (IsSubset-trans (without_inside c.loop-column.rest c.in-Some.column) c.loop-column.invariant.within);
    }

pub loop-column-smaller : goal.loop-column-smaller
loop-column-smaller g c = let a = (first-Some c.loop-column.rest c.in-Some.column c.in-Some.ensures.value).smaller in let r = c.without-rest-in-Some.ensures in omega (arith, a, r)
