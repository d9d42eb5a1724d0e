use Rattle.std.proofs.Common.{◌∙◌, sym, arith}
use Rattle.std.proofs.lemmas.Bool.{not-true}
use Rattle.stripped_partition.proofs.Live.{live_within}
use Rattle.validator.proofs.NewRows.{pairs_given, told_apart}
use Rattle.validator.proofs.newer.pair_with.Goals as goal

pub partner-requires-clause-given : goal.partner-requires-clause-given
partner-requires-clause-given g c = (live_within c.args.snapshot.now c.args.row c.requires.live).1

pub is_told-requires-clause-given : goal.is_told-requires-clause-given
is_told-requires-clause-given g c = pairs_given c.args.snapshot.now c.args.asked.now.left c.args.asked.now.target c.args.pairs.now c.args.row c.requires.pairs

pub is_told-requires-clause-row : goal.is_told-requires-clause-row
is_told-requires-clause-row g c = let l = (live_within c.args.snapshot.now c.args.row c.requires.live).1 in let b = c.in_ok-other.ensures.before in omega arith

pub returns-then-differ-clause-told : goal.returns-then-differ-clause-told
returns-then-differ-clause-told g c = (
  told_apart c.args.snapshot.now c.args.asked.now.left c.args.asked.now.target c.args.pairs.now c.args.row c.in_ok-other.other c.requires.live c.in_ok-other.ensures (not-true _ (sym (c.differ.ensures.value c.args.snapshot.now c.requires.asked.target c.requires.targets) ∙ c.if-differ.true)),
  c.is_told.ensures.no c.if-is_told.false,
)
