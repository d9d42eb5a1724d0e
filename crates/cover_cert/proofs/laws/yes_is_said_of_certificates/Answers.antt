use Rattle.cover_cert.proofs.Certified.{yes_is_said}
use Rattle.cover_cert.proofs.laws.yes_is_said_of_certificates.Goals as goal

pub returns : goal.returns
returns c = yes_is_said
