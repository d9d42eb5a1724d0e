use Rattle.cover_core.specs.Waiting.{IsWanted}
use Rattle.cover_steps.proofs.Evidences.{All-permuted}
use Rattle.cover_core.proofs.sought.collected.Goals as goal

pub returns : goal.returns
returns c = All-permuted (IsWanted c.args.wanted.now) c.in_ok-list.list.items c.sort_unstable_by_key.new.self.items c.sort_unstable_by_key.ensures.permutation c.in_ok-list.ensures
