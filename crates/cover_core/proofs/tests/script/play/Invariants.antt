use Rattle.rel_base.specs.JobParts.{JobParts}
use Rattle.cover_steps.specs.Sound.{Fits}
use Rattle.cover_core.proofs.tests.script.play.Given as goal

abbrev pub invariant-loop-place : goal.invariant-loop-place
invariant-loop-place g l = (job : JobParts) → Fits l.fn.book.rows job → Fits l.book.rows job
