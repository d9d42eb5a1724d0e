use Rattle.cover_cert.proofs.Certified.{lists}
use Rattle.cover_cert.proofs.laws.certificates_list_covers.Goals as goal

pub returns : goal.returns
returns c = lists
