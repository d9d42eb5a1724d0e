use Rattle.std.proofs.Common.{◌-◌, ◌++◌, ◌∙◌, ℕ, List, ap, arith}
use lib.Lanes.{chunk}
use Rattle.rel_base.specs.LentCodes.{lent}
use Rattle.negative_cover.proofs.Parts.{parts}
use Rattle.negative_cover.proofs.agreeing.between.Goals as goal

pub returns : goal.returns
returns c =
    let first = c.min.ensures in
    let count = c.len-count.ensures in
    let last = c.min-2.ensures in
    ap (λ (xs : List ℕ). xs ++ chunk c.saturating_sub.result (c.saturating_sub-2.result - c.saturating_sub.result) c.args.own.now) c.between.ensures
    ∙ parts (lent c.args.shared) c.args.own.now c.args.start c.args.end c.min.result (c.min-2.result - c.min.result) c.saturating_sub.result (c.saturating_sub-2.result - c.saturating_sub.result)
    c.requires.order (λ h. omega arith) (λ h. let o = c.requires.order in omega arith) (λ h g. omega arith) (λ h. let o = c.requires.order in omega arith) (let a = c.saturating_sub.ensures in omega arith) (let a = c.saturating_sub-2.ensures in omega arith)
