use Rattle.std.proofs.Common.{sym, subst}
use Rattle.validator.specs.Verdicts.{AreFound}
use Rattle.validator.proofs.Exactly.{exactly, found_of}
use Rattle.validator.proofs.store.Store.validate.Goals as goal

pub verdict_of-requires : goal.verdict_of-requires
verdict_of-requires g c =
    subst (AreFound c.args.job.now.snapshot c.args.job.now.left c.args.job.now.target) (sym c.deref.ensures.value)
    (found_of c.args.job.now c.in_ok-pairs.pairs.items c.in_ok-pairs.ensures.pairs c.in_ok-pairs.ensures.groups c.in_ok-pairs.ensures.exactly)

pub returns-clause-exactly : goal.returns-clause-exactly
returns-clause-exactly g c = exactly c.args.job.now c.verdict_of.result c.verdict_of.ensures
