use Rattle.synth_3nf.proofs.Outer.{AreOuter}
use Rattle.synth_3nf.proofs.tables.outermost.Given as goal

abbrev pub invariant-loop-place : goal.invariant-loop-place
invariant-loop-place l = AreOuter l.tables l.place l.kept.items
