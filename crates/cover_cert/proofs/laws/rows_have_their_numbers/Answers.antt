use Rattle.cover_cert.proofs.Certified.{numbers}
use Rattle.cover_cert.proofs.laws.rows_have_their_numbers.Goals as goal

pub returns : goal.returns
returns c = numbers
