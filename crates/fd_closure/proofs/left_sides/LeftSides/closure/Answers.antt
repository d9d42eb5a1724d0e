use Rattle.std.proofs.Common.{◌∙◌, ℕ, List, length, sym, subst}
use Rattle.col_set.specs.ColSet.{IsSubset}
use Rattle.fd_closure.specs.Blocks.{AreFiled}
use Rattle.fd_closure.specs.Closure.{Tells}
use Rattle.fd_closure.proofs.Filing.{block_step, joined_own, joined_told}
use Rattle.fd_closure.proofs.left_sides.LeftSides.closure.Goals as goal

pub returns-clause-own : goal.returns-clause-own
returns-clause-own c =
    let w = c.fold_subsets_of.ensures.joined (block_step c.as_slice-sides.result.now c.args.x) (λ a y v b h. h.1) in
    subst (IsSubset c.args.x) (sym w.2) (joined_own c.as_slice-sides.result.now c.args.x w.0)

pub returns-clause-told : goal.returns-clause-told
returns-clause-told c fds t =
    let w = c.fold_subsets_of.ensures.joined (block_step c.as_slice-sides.result.now c.args.x) (λ a y v b h. h.1) in
    w.2 ∙ joined_told c.as_slice-sides.result.now c.args.x c.self.inside.blocks w.0 fds
    (subst (λ (s : List (ℕ × ℕ)). AreFiled s c.self.inside.blocks (length s)) (sym c.as_slice-sides.ensures.value) c.self.invariant) w.1
    (subst (Tells fds) (sym (c.as_slice-sides.ensures.value ∙ c.self.view_is)) t)
