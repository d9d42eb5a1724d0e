use Rattle.std.proofs.Common.{◌≡◌, ◌∙◌, ℕ, List, ap, length, refl}
use Rattle.std.specs.List.{flat_map}
use Rattle.col_set.specs.ColSet.{upto}
use Rattle.approx_fd.specs.Approximate.{approx_to_in}
use Rattle.approx_fd.proofs.Gathering.{within-columns, gathered-all}
use Rattle.approx_fd.proofs.Joining.{items}
use Rattle.approx_fd.proofs.Listing.{approximate-shown}
use Rattle.approx_fd.proofs.by_workers.approx_by.Goals as goal

pub swept_by-requires-clause-columns : goal.swept_by-requires-clause-columns
swept_by-requires-clause-columns g c = λ _ _. within-columns (length c.args.snapshot.now.codes) c.as_slice-columns.result.now (c.as_slice-columns.ensures.value ∙ c.in_ok-all.ensures ∙ ap upto c.columns.ensures.value)

pub lists_by-requires-clause-columns : goal.lists_by-requires-clause-columns
lists_by-requires-clause-columns g c = λ _ _. within-columns (length c.args.snapshot.now.codes) c.as_slice-columns.result.now (c.as_slice-columns.ensures.value ∙ c.in_ok-all.ensures ∙ ap upto c.columns.ensures.value)

pub returns-clause-by_codes : goal.returns-clause-by_codes
returns-clause-by_codes g c = gathered-all c.args.snapshot.now c.args.errors (length c.args.snapshot.now.codes) c.in_ok-found.found.items refl
    (c.in_ok-found.ensures ∙ ap (flat_map items) c.as_slice.ensures.value ∙ c.in_ok-lists.ensures ∙ ap (flat_map (approx_to_in c.args.errors c.args.snapshot.now)) (c.as_slice-columns.ensures.value ∙ c.in_ok-all.ensures ∙ ap upto c.columns.ensures.value))

pub returns-clause-rows : goal.returns-clause-rows
returns-clause-rows g c r is shows = returns-clause-by_codes g c ∙ approximate-shown c.args.snapshot.now r is shows c.args.errors
