use Rattle.std.proofs.Common.{sym, subst}
use Rattle.col_set.specs.ColSet.{report_cmp}
use Rattle.col_set.specs.declared.target.Target.TheVariants.{Col, RowId}
use Rattle.col_set.specs.Evidence.{least}
use Rattle.col_set.proofs.More.{Rises-least}
use Rattle.col_set.proofs.Places.{AllPairs-rises}
use Rattle.rel_base.specs.Covers.{AreKeysInOrder, IsInOrder}
use Rattle.rel_base.proofs.Ordered.{fds-in_order}
use Rattle.plain_base.proofs.pairwise.least_covers.Goals as goal

pub of-requires-clause-keys : goal.of-requires-clause-keys
of-requires-clause-keys c = subst AreKeysInOrder (sym c.in_ok-keys.ensures) (AllPairs-rises report_cmp _ (Rises-least c.args.columns c.args.agree_sets.now RowId))

pub of-requires-clause-fds : goal.of-requires-clause-fds
of-requires-clause-fds c = subst IsInOrder (sym c.in_ok-fds.ensures)
    (fds-in_order (λ a. least c.args.columns c.args.agree_sets.now (Col a)) c.args.columns c.requires (λ a l. Rises-least c.args.columns c.args.agree_sets.now (Col a)))
