use Rattle.std.proofs.Common.{refl, ap, ◌∷◌, []}
use Rattle.rel_base.specs.Relation.{Content}
use Rattle.profile_cli.proofs.Files.{read_is, refused_is}
use Rattle.profile_cli.proofs.reading.relation_of.Goals as goal

pub returns-in-Read-clause-bytes : goal.returns-in-Read-clause-bytes
returns-in-Read-clause-bytes g c short =
    let is = read_is c.args.means.now.limits c.args.bytes.now c.args.bytes.now c.in-Read.relation refl short c.in-Read.ensures.accepted c.in-Read.ensures.content in
    (is.0, ap (λ (r : Content). r ∷ []) is.1, refl)

pub returns-in-Refused-clause-bytes : goal.returns-in-Refused-clause-bytes
returns-in-Refused-clause-bytes g c short = refused_is c.args.means.now.limits c.args.bytes.now c.args.bytes.now c.in-Refused.rec c.in-Refused.why refl short c.in-Refused.ensures.refused
