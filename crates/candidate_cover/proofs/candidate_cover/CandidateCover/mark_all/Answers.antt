use Rattle.std.proofs.Common.{◌≡◌, ◌<◌, ◌∙◌, sym, ap, arith, List, length, map, set, rules}
use Rattle.std.proofs.lemmas.List.{get_or-map, length-map}
use Rattle.std.proofs.lemmas.List.Edits.{map_over_more}
use Rattle.candidate_cover.specs.declared.cand.Cand.{Cand}
use Rattle.candidate_cover.specs.Lists.{CandLists}
use Rattle.candidate_cover.specs.AllMarked.{all_marked}
use Rattle.candidate_cover.specs.Marks.{cands}
use Rattle.candidate_cover.proofs.Remarked.{map-set}
use Rattle.candidate_cover.proofs.candidate_cover.CandidateCover.mark_all.Goals as goal

pub loop-place-preserved : goal.loop-place-preserved
loop-place-preserved c =
    let trees = c.loop-place.self-inside.columns.items in
    let tree = c.index_mut.result.now in
    let m : c.loop-place.place < length trees = search rules in
    let shown : length (map cands c.self.inside.columns.items) ≡ length c.args.self.now.columns = ap (λ (l : CandLists). length l.columns) c.self.view_is in
    let many : length (map cands c.self.inside.columns.items) ≡ length c.self.inside.columns.items = length-map c.self.inside.columns.items cands in
    let l : c.loop-place.place < length c.args.self.now.columns = omega arith in (
      c.loop-place.invariant.0,
      map-set cands trees c.loop-place.place c.mark_all-in-loop-place.new.self
          ∙ ap (λ (cs : List Cand). set (map cands trees) c.loop-place.place cs) c.mark_all-in-loop-place.ensures
          ∙ map_over_more (all_marked c.args.to) c.args.self.now.columns (map cands trees) c.loop-place.place (cands tree) l c.loop-place.invariant.1
          (ap cands c.index_mut.ensures.value ∙ sym (get_or-map cands trees c.loop-place.place tree (cands tree) m)),
    )
