use Rattle.std.proofs.Common.{◌≡◌, ◌-◌, ◌<◌, ◌∙◌, ℕ, List, length, ap, ap₂, sym, subst, arith}
use Rattle.std.specs.List.{All}
use Rattle.rel_base.specs.declared.nulls.Nulls.{Nulls}
use Rattle.rel_base.specs.Agreement.{agree}
use Rattle.rel_base.specs.RowState.{RowState}
use Rattle.rel_base.specs.Validity.{agree_of}
use Rattle.row_log.specs.Column.{ColumnCells}
use Rattle.row_log.specs.Table.{row_at, IsColumnOf}
use Rattle.row_log.proofs.Log.{placed, agree-kept}
use Rattle.row_log.proofs.row_log.RowLog.agree.Goals as goal

-- each column is long enough
long : (nulls : Nulls) (n p : ℕ) (columns seen : List ColumnCells) → All (IsColumnOf nulls n) columns → seen ≡ columns → p < n → All (λ x. p < length x.cells) seen
long nulls n p columns seen each e l = subst (λ (cs : List ColumnCells). All (λ x. p < length x.cells) cs) (sym e) (λ k d m. let f = (each k d m).long in omega arith)

pub agreement-requires-clause-first : goal.agreement-requires-clause-first
agreement-requires-clause-first c =
    let v = c.self.inside in
    let p = c.number.ensures.positive in
    let q = c.number.ensures.value in
    let f = placed v.names v.nulls v.limit v.columns.items v.live.items v.live_len c.self.invariant c.args.self.now c.self.view_is c.args.i (omega arith) c.requires.first in
    long v.nulls (length v.live.items) (c.number.result - 1) v.columns.items c.deref.result.now c.self.invariant.each c.deref.ensures.value (omega arith)

pub agreement-requires-clause-second : goal.agreement-requires-clause-second
agreement-requires-clause-second c =
    let v = c.self.inside in
    let s = c.number-2.ensures.positive in
    let t = c.number-2.ensures.value in
    let g = placed v.names v.nulls v.limit v.columns.items v.live.items v.live_len c.self.invariant c.args.self.now c.self.view_is c.args.j (omega arith) c.requires.second in
    long v.nulls (length v.live.items) (c.number-2.result - 1) v.columns.items c.deref.result.now c.self.invariant.each c.deref.ensures.value (omega arith)

pub returns : goal.returns
returns c =
    let v = c.self.inside in
    let p = c.number.ensures.positive in
    let q = c.number.ensures.value in
    let f = placed v.names v.nulls v.limit v.columns.items v.live.items v.live_len c.self.invariant c.args.self.now c.self.view_is c.args.i (omega arith) c.requires.first in
    let s = c.number-2.ensures.positive in
    let t = c.number-2.ensures.value in
    let g = placed v.names v.nulls v.limit v.columns.items v.live.items v.live_len c.self.invariant c.args.self.now c.self.view_is c.args.j (omega arith) c.requires.second in
    agree-kept v.names v.nulls v.limit v.columns.items v.live.items v.live_len c.self.invariant c.args.i c.args.j c.agreement.result f g
    (c.agreement.ensures
    ∙ ap₂ (λ (i j : ℕ). agree v.nulls (length c.deref.result.now) (row_at c.deref.result.now (i - 1)) (row_at c.deref.result.now (j - 1))) c.number.ensures.value c.number-2.ensures.value
    ∙ ap (λ (cs : List ColumnCells). agree v.nulls (length cs) (row_at cs (c.args.i - 1)) (row_at cs (c.args.j - 1))) c.deref.ensures.value)
    ∙ ap (λ (r : RowState). agree_of r c.args.i c.args.j) c.self.view_is
