use Rattle.negative_cover.specs.LiveRows.{AreLiveBetween}
use Rattle.negative_cover.proofs.live_rows.live_between.Given as goal

abbrev pub invariant-loop-number : goal.invariant-loop-number
invariant-loop-number l = AreLiveBetween l.snapshot l.fn.from l.number l.rows.items
