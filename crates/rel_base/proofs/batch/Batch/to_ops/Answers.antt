use Rattle.std.proofs.Common.{◌∙◌, ◌++◌, ◌∷◌, ◌+◌, [], ap, ap₂, sym, arith, List, ℕ, get_or}
use Rattle.std.proofs.lemmas.List.{take_more}
use Rattle.rel_base.specs.declared.batch.Op.{Op}
use Rattle.rel_base.specs.declared.batch.Op.TheVariants.{Delete}
use Rattle.rel_base.proofs.batch.Batch.to_ops.Goals as goal

pub loop-place-preserved : goal.loop-place-preserved
loop-place-preserved c =
    let now = c.args.self.now in
    let k = c.loop-place._place in
    let p = c.loop-place.invariant.place in
    let q = c.next-cursor.ensures.place in record {
      items =
          c.in_ok-push.ensures.items
          ∙ ap₂ (λ (ops : List Op) (op : Op). ops ++ op ∷ []) c.loop-place.invariant.items
          (c.in_ok-op.ensures ∙ c.change.ensures (Delete 0) ∙ ap (λ (i : ℕ). get_or now i (Delete 0)) p)
          ∙ sym (take_more now k (Delete 0) (let l = c.loop-place-test.true in let n = c.len-place-end.ensures in omega arith));
      is = c.next-cursor.ensures.cursor;
      place = q ∙ ap (λ (i : ℕ). i + 1) p;
    }
