use Rattle.std.proofs.Common.{◌∙◌, ◌<◌, ℕ, ap, sym, subst, length, le_antisymm}
use Rattle.rel_base.specs.CodeTable.{CodeTable}
use Rattle.approx_fd.specs.Search.{Searching}
use Rattle.approx_fd.proofs.Gathering.{gathered-more, gathered-all}
use Rattle.approx_fd.proofs.Sweeping.{found-in}
use Rattle.approx_fd.proofs.Listing.{approximate-shown}
use Rattle.approx_fd.proofs.approximate.approx.Goals as goal

pub settled_by-requires-clause-column : goal.settled_by-requires-clause-column
settled_by-requires-clause-column c = subst (λ (s : CodeTable). c.loop-column.column < length s.codes) (sym c.loop-column.invariant.table)
    (subst (λ (n : ℕ). c.loop-column.column < n) c.columns-column-end.ensures.value c.loop-column-test.true)

pub settled_by-requires-clause-found : goal.settled_by-requires-clause-found
settled_by-requires-clause-found c = found-in c.loop-column.search.table c.in_ok-search.search.table c.loop-column.search.most c.in_ok-search.search.most c.in_ok-known.known
    (ap (λ (s : Searching). s.table) c.in_ok-search.ensures ∙ sym c.loop-column.invariant.table) (ap (λ (s : Searching). s.most) c.in_ok-search.ensures ∙ sym c.loop-column.invariant.most) c.in_ok-known.ensures.found

pub loop-column-preserved : goal.loop-column-preserved
loop-column-preserved c = record {
  table = c.in_ok-lefts.ensures.table ∙ c.loop-column.invariant.table;
  most = c.in_ok-lefts.ensures.most ∙ c.loop-column.invariant.most;
  found = gathered-more c.args.snapshot.now c.args.errors c.loop-column.search c.loop-column.column c.loop-column.found.items c.push_all.new.found.items c.as_slice-in-loop-column.result.now
      c.loop-column.invariant.table c.loop-column.invariant.most c.loop-column.invariant.found (c.as_slice-in-loop-column.ensures.value ∙ c.in_ok-lefts.ensures.found) c.in_ok-push_all.ensures;
}

pub returns-clause-by_codes : goal.returns-clause-by_codes
returns-clause-by_codes c = gathered-all c.args.snapshot.now c.args.errors c.loop-column.column c.loop-column.found.items
    (le_antisymm c.loop-column.auto.column-end c.loop-column-test.false ∙ c.columns-column-end.ensures.value) c.loop-column.invariant.found

pub returns-clause-rows : goal.returns-clause-rows
returns-clause-rows c r is shows = returns-clause-by_codes c ∙ approximate-shown c.args.snapshot.now r is shows c.args.errors
