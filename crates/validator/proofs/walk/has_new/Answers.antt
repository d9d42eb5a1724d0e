use Rattle.std.proofs.Common.{◌≡◌, ◌<◌, ◌-◌, ℕ, List, length, get_or, arith}
use Rattle.std.specs.List.{All}
use Rattle.std.specs.List.Sorted.{IsStrictlyIncreasing}
use Rattle.std.proofs.lemmas.Bool.{leb-false}
use Rattle.std.proofs.lemmas.List.{get_or_read}
use Rattle.col_set.proofs.Places.{Climbs-increasing}
use Rattle.rel_base.proofs.States.{All-from}
use Rattle.validator.proofs.Targets.{last_greatest}
use Rattle.validator.proofs.walk.has_new.Goals as goal

all_old : (group : List ℕ) (from last : ℕ) → IsStrictlyIncreasing group → 0 < length group → last ≡ get_or group (length group - 1) 0 → last < from → All (λ (row : ℕ). row < from) group
all_old group from last up some e l = All-from (λ (row : ℕ). row < from) group (λ row h.
    let m = last_greatest group row (length group - 1) (Climbs-increasing group up) h (omega arith) in omega arith)

pub returns : goal.returns
returns c e =
    let some = c.requires.some in
    let n = c.number.ensures.value in let m = c.number-2.ensures.value in let t = leb-false _ _ e in
    let last : c.index-group-group.result ≡ get_or c.args.group.now (length c.args.group.now - 1) 0 = get_or_read c.args.group.now (length c.args.group.now - 1) c.index-group-group.result (omega arith) c.index-group-group.is 0 in
    all_old c.args.group.now c.args.from c.index-group-group.result c.requires.rising some last (omega arith)
