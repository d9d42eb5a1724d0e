use Rattle.std.proofs.Common.{◌≡◌, length}
use Rattle.std.specs.List.{All}
use Rattle.validator.proofs.stores.levelled.Given as goal

abbrev pub invariant-loop-k : goal.invariant-loop-k
invariant-loop-k l = All (λ store. store ≡ l.own) l.others × (length l.others ≡ length l.initial.others)
