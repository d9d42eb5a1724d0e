use Rattle.std.proofs.Common.{◌≡◌, ℕ, subst, sym, arith}
use Rattle.rel_base.specs.RowState.{RowState}
use Rattle.row_log.specs.Applying.{IsEnded}
use Rattle.row_log.proofs.Changing.{live-few, placed-ended, IsLog-revived, kept-revived}
use Rattle.row_log.proofs.row_log.RowLog.revive.Goals as goal

-- the number as it was read
at : (r s : RowState) (m n : ℕ) → m ≡ n → IsEnded r n s → IsEnded r m s
at r s m n e h = subst (λ (k : ℕ). IsEnded r k s) (sym e) h

pub index_mut-requires : goal.index_mut-requires
index_mut-requires c =
    let v = c.self.inside in
    let l = (placed-ended v.names v.nulls v.limit v.columns.items v.live.items v.live_len c.self.invariant c.requires.0 c.args.self.now c.number.result c.self.view_is
    (at c.requires.0 c.args.self.now c.number.result c.args.number c.number.ensures.value c.requires.1)).1 in
    let o = v.live.ok.0 in
    omega arith

pub overflow_add-self : goal.overflow_add-self
overflow_add-self c =
    let v = c.self.inside in
    let l = live-few v.names v.nulls v.limit v.columns.items v.live.items v.live_len c.self.invariant in
    let s = c.self.invariant.short in
    omega arith

pub invariant_of-self : goal.invariant_of-self
invariant_of-self c =
    let v = c.self.inside in
    IsLog-revived v.names v.nulls v.limit v.columns.items v.live.items v.live_len c.self.invariant c.requires.0 c.args.self.now c.number.result c.self.view_is
    (at c.requires.0 c.args.self.now c.number.result c.args.number c.number.ensures.value c.requires.1)

pub returns : goal.returns
returns c r e =
    let v = c.self.inside in
    kept-revived v.names v.nulls v.limit v.columns.items v.live.items v.live_len c.self.invariant r c.args.self.now c.number.result c.self.view_is
    (at r c.args.self.now c.number.result c.args.number c.number.ensures.value e)
