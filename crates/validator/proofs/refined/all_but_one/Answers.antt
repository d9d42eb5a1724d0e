use Rattle.std.proofs.Common.{◌<◌, ◌^◌, ℕ, length, sym, ap, ◌∙◌, subst, arith}
use Rattle.std.proofs.lemmas.Option.{same_Some}
use Rattle.col_set.specs.ColSet.{with}
use Rattle.col_set.specs.Subsets.{has_within}
use Rattle.col_set.proofs.EachColumn.{first-Some}
use Rattle.stripped_partition.specs.Stripped.{stripped}
use Rattle.stripped_partition.proofs.Refining.{in_its_order}
use Rattle.validator.proofs.Refinements.{no_columns, with-without}
use Rattle.validator.proofs.refined.all_but_one.Goals as goal

pub returns-in_default-clause-partition : goal.returns-in_default-clause-partition
returns-in_default-clause-partition c =
    in_its_order c.args.snapshot.now c.args.columns _
    (c.in_ok-of_all.ensures.value ∙ ap (stripped c.args.snapshot.now) (sym (no_columns c.args.columns c.in_default.ensures.value)))

pub returns-clause-partition : goal.returns-clause-partition
returns-clause-partition c = in_its_order c.args.snapshot.now c.without-wanted.result _ c.in_ok-partition.ensures

pub by_each-requires : goal.by_each-requires
by_each-requires c =
    let r = (first-Some c.args.columns c.in-Some.least c.in-Some.ensures.value).smaller in
    let l = c.requires in
    subst (λ (n : ℕ). n < 2 ^ length c.args.snapshot.now.codes) (sym c.without-wanted.ensures) (omega arith)

pub returns-clause-columns : goal.returns-clause-columns
returns-clause-columns c =
    ap (λ (x : ℕ). with x c.in-Some.least) c.without-wanted.ensures ∙ with-without c.args.columns c.in-Some.least (first-Some c.args.columns c.in-Some.least c.in-Some.ensures.value).had

pub returns-clause-by : goal.returns-clause-by
returns-clause-by c x e =
    subst (λ (k : ℕ). k < length c.args.snapshot.now.codes) (same_Some c.in-Some.least x e)
    (has_within c.args.columns (length c.args.snapshot.now.codes) c.in-Some.least c.requires (first-Some c.args.columns c.in-Some.least c.in-Some.ensures.value).had)
