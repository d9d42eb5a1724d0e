use Rattle.profile_cli.proofs.Lossless.{lossless}
use Rattle.profile_cli.proofs.laws.normalize_writes_a_lossless_split.Goals as goal

pub returns : goal.returns
returns c words workers prefix file limits files input o is out zero = lossless words workers prefix file limits files input o is out zero
