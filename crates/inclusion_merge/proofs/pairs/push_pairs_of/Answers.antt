use Rattle.std.proofs.Common.{◌∙◌, ℕ, Vec, ap, sym}
use Rattle.std.specs.declared.alloc.Global.{Global}
use Rattle.inclusion_merge.specs.Candidates.{is_left}
use Rattle.inclusion_merge.proofs.Pairing.{row_left, row_pushed}
use Rattle.inclusion_merge.proofs.pairs.push_pairs_of.Goals as goal
use Rattle.inclusion_merge.proofs.pairs.push_pairs_of.Goals.{then-is_pair+in_ok-push, else-is_pair}

pub loop-referenced-preserved : goal.loop-referenced-preserved
loop-referenced-preserved c =
    let p = is_left c.args.kept.now in
    elim c.if-is_pair.branch [
      | then-is_pair+in_ok-push w ↦
          row_pushed p c.args.dependent c.loop-referenced.referenced c.args.pairs.now.items c.loop-referenced.pairs.items c.if-is_pair.pairs.items c.loop-referenced.invariant
          (sym c.is_pair.ensures ∙ w.if-is_pair.true) (ap (λ (v : Vec (ℕ × ℕ) Global). v.items) w.pairs-is ∙ w.in_ok-push.ensures.items)
      | else-is_pair w ↦
          row_left p c.args.dependent c.loop-referenced.referenced c.args.pairs.now.items c.loop-referenced.pairs.items c.if-is_pair.pairs.items c.loop-referenced.invariant
          (sym c.is_pair.ensures ∙ w.if-is_pair.false) (ap (λ (v : Vec (ℕ × ℕ) Global). v.items) w.pairs-is)
    ]
