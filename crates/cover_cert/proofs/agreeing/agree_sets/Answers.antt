use Rattle.std.proofs.Common.{◌<◌, ℕ, sym, subst}
use Rattle.cover_cert.proofs.Judged.{first_below, second_below}
use Rattle.cover_cert.proofs.agreeing.agree_sets.Goals as goal

pub agree-requires-clause-first : goal.agree-requires-clause-first
agree-requires-clause-first c = subst (λ (i : ℕ). i < c.args.snapshot.now.to) (sym c.of-first.ensures) (first_below c.args.snapshot.now _ c.columns-bounds.ensures.bounds (c.requires c.loop-pair.pair-index _ c.loop-pair-test.true))

pub agree-requires-clause-second : goal.agree-requires-clause-second
agree-requires-clause-second c = subst (λ (i : ℕ). i < c.args.snapshot.now.to) (sym c.of-second.ensures) (second_below c.args.snapshot.now _ c.columns-bounds.ensures.bounds (c.requires c.loop-pair.pair-index _ c.loop-pair-test.true))
