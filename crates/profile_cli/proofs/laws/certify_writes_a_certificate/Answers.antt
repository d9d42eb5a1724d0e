use Rattle.profile_cli.proofs.Lossless.{certified}
use Rattle.profile_cli.proofs.laws.certify_writes_a_certificate.Goals as goal

pub returns : goal.returns
returns c words workers name file limits files input o is of done = certified words workers name file limits files input o is of done
