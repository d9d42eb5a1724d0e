use Rattle.std.proofs.Common.{◌≡◌, ◌∙◌, ℕ, true, List, [], arith, subst, sym}
use Rattle.inclusion_merge.specs.Marks.{is_marked}
use Rattle.inclusion_merge.proofs.Asking.{each_more}
use Rattle.inclusion_merge.proofs.marks.Marks.has_all.Goals as goal

pub loop-place-preserved : goal.loop-place-preserved
loop-place-preserved c =
    let has = is_marked c.args.self.now in
    each_more (λ (a : List ℕ). has a ≡ true) c.args.column.now [] c.loop-place.place (omega arith) c.loop-place.invariant (subst (λ (a : List ℕ). has a ≡ true) c.cell.ensures (sym c.has.ensures ∙ c.if-not-has.false))
