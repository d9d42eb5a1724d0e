use Rattle.col_set.specs.declared.target.Target.TheVariants.{Col}
use Rattle.rel_base.proofs.Valid.{holds-key}
use Rattle.rel_base.proofs.laws.a_key_determines_every_column.Goals as goal

pub returns : goal.returns
returns c r x a e = holds-key r x (Col a) e
