use Rattle.std.proofs.Common.{◌∙◌, sym, ap}
use Rattle.indexmap.specs.IndexSet.{insert_all}
use Rattle.rel_base.specs.Projection.{same_row}
use Rattle.lossless_join.proofs.Indexing.{no_matches, all_matches, place_given, group_found}
use Rattle.lossless_join.proofs.natural_join.push_matches.Goals as goal

pub returns-in_default : goal.returns-in_default
returns-in_default c = sym (ap (insert_all same_row c.args.whole.now.keys) (no_matches c.args.width c.args.table.now c.args.common c.args.row.now c.in_ok-part.part c.in_ok-part.ensures c.args.index.now.keys.keys c.args.index.now.groups.items c.requires.index (sym c.in_default.ensures.found)))

pub row-other-requires : goal.row-other-requires
row-other-requires c = place_given c.args.table.now c.args.common c.in_ok-part.part c.as_slice-place-items.result.now c.loop-place.place-index
    (group_found c.args.table.now c.args.common c.args.index.now.keys.keys c.args.index.now.groups.items c.requires.index c.in_ok-part.part c.in-Some.group c.index.result.now c.as_slice-place-items.result.now c.in-Some.ensures.index c.in-Some.ensures.within c.index.ensures c.as_slice-place-items.ensures)
    c.loop-place-test.true

pub returns : goal.returns
returns c = c.loop-place.invariant ∙ ap (insert_all same_row c.args.whole.now.keys) (all_matches c.args.width c.args.table.now c.args.common c.args.row.now c.in_ok-part.part c.in_ok-part.ensures c.as_slice-place-items.result.now c.loop-place.place-index
    (group_found c.args.table.now c.args.common c.args.index.now.keys.keys c.args.index.now.groups.items c.requires.index c.in_ok-part.part c.in-Some.group c.index.result.now c.as_slice-place-items.result.now c.in-Some.ensures.index c.in-Some.ensures.within c.index.ensures c.as_slice-place-items.ensures)
    c.loop-place-test.false)
