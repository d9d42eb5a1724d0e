use Rattle.std.proofs.lemmas.List.{get_or-replicate}
use Rattle.validator.proofs.cache.no_weights.Goals as goal

pub returns : goal.returns
returns c s column l ne = absurd (ne (get_or-replicate 128 column 4294967295 0 l))
