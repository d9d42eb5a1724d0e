use Rattle.std.proofs.Common.{◌≡◌, drop}
use Rattle.candidate_cover.specs.Cands.{width}
use Rattle.cover_core.specs.Waiting.{marked_each}
use Rattle.cover_core.proofs.waiting.mark_each.Given as goal

abbrev pub invariant-loop-waiting : goal.invariant-loop-waiting
invariant-loop-waiting l = (marked_each l.candidates (drop l.waiting-index l.list) l.to ≡ marked_each l.initial.candidates l.list l.to) × (width l.candidates ≡ width l.initial.candidates)
