use Rattle.std.proofs.Common.{◌∙◌}
use Rattle.synth_3nf.proofs.Tabling.{reaches-found}
use Rattle.synth_3nf.proofs.tables.reaches_all.Goals as goal

pub returns : goal.returns
returns c = c.subset_of.ensures ∙ reaches-found c.args.kept.now c.args.n c.args.x c.closure_under.result c.all.result c.requires.narrow c.closure_under.ensures c.all.ensures
