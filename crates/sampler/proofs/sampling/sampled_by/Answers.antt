use Rattle.std.proofs.Common.{List, Vec, sym, subst}
use Rattle.std.specs.declared.alloc.Global.{Global}
use Rattle.std.specs.List.{All}
use Rattle.negative_cover.specs.declared.negative_cover.Witness.{Witness}
use Rattle.sampler.specs.Agreeing.{IsNear}
use Rattle.sampler.proofs.Together.{all_with}
use Rattle.sampler.proofs.sampling.sampled_by.Goals as goal

pub loop-own-preserved : goal.loop-own-preserved
loop-own-preserved g c =
    let P : Witness → Type 0 = IsNear c.args.rows.now c.args.snapshot.now in
    let Q : Vec Witness Global → Type 0 = λ own. All P own.items in
    let each = subst (λ (vs : List (Vec Witness Global)). All Q vs) (sym c.as_slice-own-items.ensures.value) c.in_ok-each.ensures in
    let own = subst Q (sym c.own-item.is) (each c.loop-own.own-index c.own-item.result c.loop-own-test.true) in
    all_with P c.loop-own.all.items c.as_slice-in-loop-own.result.now c.extend_from_slice.new.self.items c.in_ok-extend_from_slice.ensures.items c.loop-own.invariant (subst (λ (ws : List Witness). All P ws) (sym c.as_slice-in-loop-own.ensures.value) own)
