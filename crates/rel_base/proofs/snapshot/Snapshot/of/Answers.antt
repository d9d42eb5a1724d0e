use Rattle.std.proofs.Common.{◌∙◌, ap, count_by}
use Rattle.rel_base.proofs.Live.{live_count-is}
use Rattle.rel_base.proofs.snapshot.Snapshot.of.Goals as goal

pub counted-requires-clause-count : goal.counted-requires-clause-count
counted-requires-clause-count c = c.count_live-live_count.ensures ∙ ap (count_by (λ flag. flag)) c.deref.ensures.value ∙ live_count-is _ c.requires
