use Rattle.std.proofs.Common.{sym, ◌∙◌}
use Rattle.cover_cert.proofs.Pairs.{odd-at, odd-none, all-more}
use Rattle.cover_cert.proofs.agreeing.first_odd_pair.Goals as goal

pub returns-then-not-names_rows : goal.returns-then-not-names_rows
returns-then-not-names_rows c = odd-at c.args.snapshot.now c.args.pairs.now c.loop-place.place _ c.loop-place-test.true (sym c.names_rows.ensures ∙ c.if-not-names_rows.true) c.loop-place.invariant

pub returns : goal.returns
returns c = odd-none c.args.snapshot.now c.args.pairs.now c.loop-place.place c.loop-place-test.false c.loop-place.invariant

pub loop-place-preserved : goal.loop-place-preserved
loop-place-preserved c = all-more c.args.snapshot.now c.args.pairs.now c.loop-place.place _ c.loop-place-test.true (sym c.names_rows.ensures ∙ c.if-not-names_rows.false) c.loop-place.invariant
