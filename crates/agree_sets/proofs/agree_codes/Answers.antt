use Rattle.std.proofs.Common.{◌∙◌}
use Rattle.agree_sets.proofs.Places.{bits-agree_set, agree_set-each}
use Rattle.agree_sets.proofs.agree_codes.Goals as goal

pub returns-clause-set : goal.returns-clause-set
returns-clause-set c = c.of_bits.ensures ∙ c.agreement.ensures ∙ bits-agree_set c.args.a.now c.args.b.now c.requires.same

pub returns-clause-each : goal.returns-clause-each
returns-clause-each c = agree_set-each _ c.args.a.now c.args.b.now (returns-clause-set c)
