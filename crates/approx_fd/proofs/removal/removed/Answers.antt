use Rattle.std.proofs.Common.{◌∙◌, ap, ℕ, Option, unwrap_or}
use Rattle.col_set.specs.declared.target.Target.TheVariants.{Col}
use Rattle.approx_fd.proofs.Calls.{removed-all}
use Rattle.approx_fd.proofs.Removing.{removed-shown}
use Rattle.approx_fd.proofs.removal.removed.Goals as goal

pub returns-clause-by_codes : goal.returns-clause-by_codes
returns-clause-by_codes c = removed-all c.args.snapshot.now c.args.partition.now c.args.column c.unwrap_or.result c.columns-bounds.ensures.bounds c.requires.column (c.unwrap_or.ensures ∙ ap (λ (o : Option ℕ). unwrap_or o 4294967295) c.removed_up_to-count.ensures.value)

pub returns-clause-rows : goal.returns-clause-rows
returns-clause-rows c x r are is shows = returns-clause-by_codes c x are ∙ removed-shown c.args.snapshot.now r is shows x (Col c.args.column)
