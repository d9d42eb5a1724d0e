use Rattle.std.proofs.Common.{◌≡◌, refl, rules}
use Rattle.validator.proofs.KeptLists.{kept_from}
use Rattle.validator.proofs.cache.Kept.of.Goals as goal

pub returns-clause-kept : goal.returns-clause-kept
returns-clause-kept c s are =
    let e : c.in_ok-partition.partition.value ≡ c.args.partition = search rules in
    kept_from s _ c.args.columns c.args.partition e refl are
