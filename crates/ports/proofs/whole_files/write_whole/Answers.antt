use Rattle.std.proofs.Common.{◌∙◌, refl, rules}
use Rattle.std.proofs.lemmas.List.{take_rest}
use Rattle.ports.proofs.Contents.{more-nil}
use Rattle.ports.proofs.Shelves.{WritesOn-more}
use Rattle.ports.proofs.whole_files.write_whole.Goals as goal

pub loop-done-init : goal.loop-done-init
loop-done-init g c = (
  search rules,
  record {
    still = search rules;
    content_is = more-nil _ _;
    reads = search rules;
    writes = search rules;
  },
  refl,
  refl,
)

pub loop-done-preserved : goal.loop-done-preserved
loop-done-preserved g c =
    let shelf = g.H.Shelf in
    let write = c.in-Took.ensures in
    let appended = rw take_rest at write.appended in
    (search rules, WritesOn-more shelf.opened shelf.content _ _ _ _ _ _ _ c.args.bytes.now _ _ c.loop-done.invariant.1 write.opened appended.2 write.reads write.writes, write.opens ∙ c.loop-done.invariant.2, write.taken ∙ c.loop-done.invariant.3)
