use Rattle.std.proofs.Common.{◌∙◌, ◌<◌, ap, sym, subst, length}
use Rattle.rel_base.specs.CodeTable.{CodeTable}
use Rattle.approx_fd.specs.Search.{Searching}
use Rattle.approx_fd.proofs.Gathering.{one-column}
use Rattle.approx_fd.proofs.Sweeping.{found-in}
use Rattle.approx_fd.proofs.by_workers.dependencies_on.Goals as goal

pub settled_by-requires-clause-column : goal.settled_by-requires-clause-column
settled_by-requires-clause-column c = subst (λ (s : CodeTable). c.args.column < length s.codes) (sym (ap (λ (s : Searching). s.table) c.in_ok-search.ensures)) c.requires.column

pub settled_by-requires-clause-found : goal.settled_by-requires-clause-found
settled_by-requires-clause-found c = found-in c.in_ok-search.search.table c.args.snapshot.now c.in_ok-search.search.most c.args.errors c.args.known.now
    (sym (ap (λ (s : Searching). s.table) c.in_ok-search.ensures)) (sym (ap (λ (s : Searching). s.most) c.in_ok-search.ensures)) c.requires.known

pub returns : goal.returns
returns c = one-column c.args.snapshot.now c.args.errors c.in_ok-search.search c.args.column c.new-list.result.items c.push_all.new.found.items c.as_slice.result.now
    (ap (λ (s : Searching). s.table) c.in_ok-search.ensures) (ap (λ (s : Searching). s.most) c.in_ok-search.ensures) c.new-list.ensures.items
    (c.as_slice.ensures.value ∙ c.in_ok-lefts.ensures.found) c.in_ok-push_all.ensures
