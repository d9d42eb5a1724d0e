use Rattle.std.proofs.Common.{◌≡◌, refl, rules}
use Rattle.validator.proofs.KeptLists.{kept_as}
use Rattle.validator.proofs.cache.Kept.shared.Goals as goal

pub returns : goal.returns
returns c s are =
    let e : c.in_ok-clone.field-0.value ≡ c.args.self.now.partition.value = search rules in
    kept_as s c.args.self.now _ e refl are
