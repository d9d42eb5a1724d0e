use Rattle.std.proofs.Common.{◌≡◌, ◌<◌, ◌∙◌, sym, ap, arith, List, length, map, set, rules}
use Rattle.std.proofs.lemmas.List.{get_or-map, length-map}
use Rattle.std.proofs.lemmas.List.Edits.{map_over_more}
use Rattle.candidate_cover.specs.declared.cand.Cand.{Cand}
use Rattle.candidate_cover.specs.Lists.{CandLists}
use Rattle.candidate_cover.specs.Cands.{all_free}
use Rattle.candidate_cover.specs.Marks.{cands}
use Rattle.candidate_cover.proofs.Remarked.{map-set}
use Rattle.candidate_cover.proofs.candidate_cover.CandidateCover.free.Goals as goal

pub loop-column-preserved : goal.loop-column-preserved
loop-column-preserved c =
    let trees = c.loop-column.self-inside.columns.items in
    let tree = c.index_mut.result.now in
    let m : c.loop-column.column < length trees = search rules in
    let shown : length (map cands c.self.inside.columns.items) ≡ length c.args.self.now.columns = ap (λ (l : CandLists). length l.columns) c.self.view_is in
    let many : length (map cands c.self.inside.columns.items) ≡ length c.self.inside.columns.items = length-map c.self.inside.columns.items cands in
    let l : c.loop-column.column < length c.args.self.now.columns = omega arith in (
      c.loop-column.invariant.0,
      map-set cands trees c.loop-column.column c.free-in-loop-column.new.self
          ∙ ap (λ (cs : List Cand). set (map cands trees) c.loop-column.column cs) c.free-in-loop-column.ensures
          ∙ map_over_more all_free c.args.self.now.columns (map cands trees) c.loop-column.column (cands tree) l c.loop-column.invariant.1
          (ap cands c.index_mut.ensures.value ∙ sym (get_or-map cands trees c.loop-column.column tree (cands tree) m)),
    )
