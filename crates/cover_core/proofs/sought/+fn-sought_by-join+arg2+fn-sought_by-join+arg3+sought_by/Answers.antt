use Rattle.std.proofs.Common.{◌++◌, rules}
use Rattle.std.specs.List.{All}
use Rattle.std.proofs.lemmas.List.Elements.{All-append}
use Rattle.cover_steps.proofs.Evidences.{All-permuted}
use Rattle.cover_core.specs.Waiting.{IsSought}
use Rattle.cover_core.proofs.sought.+fn-sought_by-join+arg2+fn-sought_by-join+arg3+sought_by.Goals as goal

pub returns : goal.returns
returns g t c =
    let P = IsSought c.args.draft.now.width in
    let one : All P c.in_ok-one.field-0.items = search rules in
    let other : All P c.in_ok-other.field-0.items = search rules in
    All-permuted P (c.in_ok-one.field-0.items ++ c.in_ok-other.field-0.items) c.in_ok-list.list.items c.in_ok-list.ensures (All-append P c.in_ok-one.field-0.items c.in_ok-other.field-0.items one other)
