use Rattle.std.proofs.Common.{length, subst, sym, ◌^◌, ◌<◌}
use Rattle.rel_base.specs.CodeTable.{CodeTable}
use Rattle.col_set.specs.Subsets.{subset_below}
use Rattle.key_finder.proofs.rounds.disproofs_of.Goals as goal

pub go_to-requires : goal.go_to-requires
go_to-requires c = subst (λ (t : CodeTable). c.args.key < 2 ^ length t.codes) (sym c.requires.path) (subset_below (length c.args.snapshot.now.codes) c.requires.key c.requires.columns)
