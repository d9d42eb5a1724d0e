use Rattle.std.proofs.Common.{◌≡◌, ◌+◌, ◌-◌, ◌<◌, ◌∙◌, Bool, true, false, eqb, ltb, ℕ, List, length, get_or, refl, ap, ap₂, sym, arith}
use Rattle.std.proofs.lemmas.Bool.{le-ltb}
use Rattle.std.proofs.lemmas.List.{get_or_read_under, get_or_past}
use Rattle.rel_base.specs.RowState.{RowState, next}
use Rattle.rel_base.specs.Batches.{is_live}
use Rattle.std.specs.List.{list_any}
use Rattle.row_log.specs.Table.{live_of}
use Rattle.row_log.proofs.Flags.{any-live_of, flag_within}
use Rattle.row_log.proofs.Log.{next-kept}
use Rattle.row_log.proofs.row_log.RowLog.is_live.Goals as goal

-- the answer is the row's flag
flag : (flags : List Bool) (r s : RowState) (number given : ℕ) (b : Bool) → r ≡ s → r.live ≡ live_of flags → number ≡ given → 0 < number → b ≡ get_or flags (number - 1) false → b ≡ is_live s given
flag flags r s number given b e l q p f =
    f ∙ sym (any-live_of flags number p) ∙ ap (list_any (eqb number)) (sym l) ∙ ap₂ (λ (r : RowState) (k : ℕ). is_live r k) e q

-- a row whose flag is set was given
given : (flags : List Bool) (s : RowState) (number n : ℕ) (b : Bool) → next s ≡ length flags + 1 → number ≡ n → 0 < number → b ≡ get_or flags (number - 1) false → b ≡ true → n < next s
given flags s number n b l q p e t = let w = flag_within flags (number - 1) (sym e ∙ t) in omega arith

pub returns-then-place-len : goal.returns-then-place-len
returns-then-place-len c =
    let v = c.self.inside in
    let e = get_or_read_under v.live.items (c.number.result - 1) c.len.result c.index.result.now false c.index.ensures c.if-place-len.true (c.len.ensures ∙ v.live.ok.0) in
    let n = next-kept v.names v.nulls v.limit v.columns.items v.live.items v.live_len c.self.invariant in record {
      value = flag v.live.items _ c.args.self.now c.number.result c.args.number c.index.result.now c.self.view_is refl c.number.ensures.value c.number.ensures.positive e;
      given = given v.live.items c.args.self.now c.number.result c.args.number c.index.result.now (sym (ap next c.self.view_is) ∙ n) c.number.ensures.value c.number.ensures.positive e;
    }

pub returns-else-place-len : goal.returns-else-place-len
returns-else-place-len c =
    let v = c.self.inside in
    let l = c.if-place-len.false in
    let m = c.len.ensures ∙ v.live.ok.0 in
    let e = le-ltb (c.number.result - 1) c.len.result l ∙ sym (get_or_past v.live.items (c.number.result - 1) false (omega arith)) in
    let n = next-kept v.names v.nulls v.limit v.columns.items v.live.items v.live_len c.self.invariant in record {
      value = flag v.live.items _ c.args.self.now c.number.result c.args.number (ltb (c.number.result - 1) c.len.result) c.self.view_is refl c.number.ensures.value c.number.ensures.positive e;
      given = given v.live.items c.args.self.now c.number.result c.args.number (ltb (c.number.result - 1) c.len.result) (sym (ap next c.self.view_is) ∙ n) c.number.ensures.value c.number.ensures.positive e;
    }
