use Rattle.std.proofs.Common.{◌∙◌, ap}
use Rattle.approx_fd.specs.Search.{Searching}
use Rattle.approx_fd.proofs.Gathering.{keys-all}
use Rattle.approx_fd.proofs.Listing.{near_keys-shown}
use Rattle.approx_fd.proofs.approximate.near_keys.Goals as goal

pub returns-clause-by_codes : goal.returns-clause-by_codes
returns-clause-by_codes c = keys-all c.args.snapshot.now c.args.errors c.in_ok-search.search c.in_ok-found.found.items (ap (λ (s : Searching). s.table) c.in_ok-search.ensures) (ap (λ (s : Searching). s.most) c.in_ok-search.ensures) c.in_ok-found.ensures.found

pub returns-clause-rows : goal.returns-clause-rows
returns-clause-rows c r is shows = returns-clause-by_codes c ∙ near_keys-shown c.args.snapshot.now r is shows c.args.errors
