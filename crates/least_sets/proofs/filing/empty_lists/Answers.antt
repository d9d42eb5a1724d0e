use Rattle.std.proofs.Common.{◌≡◌, ◌∙◌, ℕ, [], List, replicate, ap, arith}
use Rattle.least_sets.proofs.Filed.{empty_more}
use Rattle.least_sets.proofs.filing.empty_lists.Goals as goal

pub loop-column-preserved : goal.loop-column-preserved
loop-column-preserved c = empty_more c.loop-column.lists.items c.push.new.self.items c.new.result c.loop-column.column c.loop-column.invariant c.in_ok-push.ensures.items c.new.ensures.items

pub returns : goal.returns
returns c =
    let low = c.loop-column.auto.column-end in
    let high = c.loop-column-test.false in
    let all : c.loop-column.column ≡ c.args.columns = omega (arith, low, high) in
    c.loop-column.invariant ∙ ap (λ (n : ℕ). replicate {A = List ℕ} n []) all
