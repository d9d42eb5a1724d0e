use Rattle.std.proofs.Common.{subst}
use Rattle.rel_base.specs.CodeTable.{CodeTable}
use Rattle.rel_base.specs.Alike.{Alike}
use Rattle.rel_base.proofs.Alike.{alike-itself}
use Rattle.validator.proofs.stores.violations.Goals as goal

pub violations-requires-clause-alike : goal.violations-requires-clause-alike
violations-requires-clause-alike g c = subst (λ (t : CodeTable). Alike c.args.store.now t) c.requires.same (alike-itself c.args.store.now)
