use Rattle.std.proofs.Common.{◌≡◌, ◌∙◌, ℕ, true, subst, ap, sym, arith}
use Rattle.rel_base.specs.RowState.{RowState}
use Rattle.rel_base.specs.Batches.{is_live, deleted}
use Rattle.row_log.proofs.Log.{kept}
use Rattle.row_log.proofs.Changing.{placed-live, IsLog-ended, kept-ended}
use Rattle.row_log.proofs.row_log.RowLog.end.Goals as goal

-- the row is live by what is kept
live_in : (r s : RowState) (m n : ℕ) → r ≡ s → m ≡ n → is_live s n ≡ true → is_live r m ≡ true
live_in r s m n e q h = subst (λ (k : ℕ). is_live r k ≡ true) (sym q) (subst (λ (x : RowState). is_live x n ≡ true) (sym e) h)

pub index_mut-requires : goal.index_mut-requires
index_mut-requires c =
    let v = c.self.inside in
    let l = placed-live v.names v.nulls v.limit v.columns.items v.live.items v.live_len c.self.invariant c.number.result c.number.ensures.positive
    (live_in (kept v.names v.nulls v.limit v.columns.items v.live.items) c.args.self.now c.number.result c.args.number c.self.view_is c.number.ensures.value c.requires) in
    let o = v.live.ok.0 in
    omega arith

pub invariant_of-self : goal.invariant_of-self
invariant_of-self c =
    let v = c.self.inside in
    IsLog-ended v.names v.nulls v.limit v.columns.items v.live.items v.live_len c.self.invariant c.number.result c.number.ensures.positive
    (live_in (kept v.names v.nulls v.limit v.columns.items v.live.items) c.args.self.now c.number.result c.args.number c.self.view_is c.number.ensures.value c.requires)

pub returns : goal.returns
returns c =
    let v = c.self.inside in
    kept-ended v.names v.nulls v.limit v.columns.items v.live.items v.live_len c.self.invariant c.number.result c.number.ensures.positive
    (live_in (kept v.names v.nulls v.limit v.columns.items v.live.items) c.args.self.now c.number.result c.args.number c.self.view_is c.number.ensures.value c.requires)
    ∙ ap (deleted (kept v.names v.nulls v.limit v.columns.items v.live.items)) c.number.ensures.value ∙ ap (λ (r : RowState). deleted r c.args.number) c.self.view_is
