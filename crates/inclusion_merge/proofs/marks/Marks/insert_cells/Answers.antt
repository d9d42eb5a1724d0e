use Rattle.std.proofs.Common.{◌≡◌, ℕ, true, List, [], arith, subst}
use Rattle.inclusion_merge.specs.Marks.{is_marked}
use Rattle.inclusion_merge.proofs.Asking.{each_more}
use Rattle.inclusion_merge.proofs.marks.Marks.insert_cells.Goals as goal

pub loop-place-preserved : goal.loop-place-preserved
loop-place-preserved c =
    let cells = c.args.column.now in
    let place = c.loop-place.place in
    let new = is_marked c.insert.new.self in
    record {
      grows = λ a e. c.insert.ensures.grows a (c.loop-place.invariant.grows a e);
      each =
          each_more (λ (a : List ℕ). new a ≡ true) cells [] place (omega arith) (λ a h. c.insert.ensures.grows a (c.loop-place.invariant.each a h))
          (subst (λ (a : List ℕ). new a ≡ true) c.cell.ensures c.insert.ensures.has);
    }
