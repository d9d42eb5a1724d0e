use Rattle.cover_cert.proofs.Held.{failing-record, none-failing}
use Rattle.cover_cert.proofs.holding.first_failing.Goals as goal

pub returns-then-place-claims : goal.returns-then-place-claims
returns-then-place-claims g c = failing-record c.args.snapshot.now c.args.claims.now c.args.number c.in_ok-place.place c.in_ok-place.ensures c.if-place-claims.true

pub returns : goal.returns
returns g c = none-failing c.args.snapshot.now c.args.claims.now c.args.number c.in_ok-place.place c.in_ok-place.ensures c.if-place-claims.false
