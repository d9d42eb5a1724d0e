use Rattle.std.proofs.Common.{◌≡◌, ◌+◌, ◌∙◌, ◌++◌, ◌∷◌, ap, ap₂, arith, ℕ, List, [], length}
use Rattle.rel_base.specs.Packed.{packed_cells}
use Rattle.rel_base.proofs.Packed.{length-packed, packed-more}
use Rattle.rel_base.proofs.cells.Cells.push.Goals as goal

pub returns-clause-pushed : goal.returns-clause-pushed
returns-clause-pushed c =
    let bytes = c.self.inside.bytes in
    let ends = c.self.inside.ends in
    let end : c.len-2.result ≡ length bytes.items + length c.args.cell.now = let a = c.len-2.ensures in let b = c.in_ok-extend_from_slice.ensures.len in let w = bytes.ok.0 in omega (arith, a, b, w) in
    ap₂ (λ (xs es : List ℕ). packed_cells xs es) c.in_ok-extend_from_slice.ensures.items (c.append.ensures ∙ ap (λ (xs : List ℕ). xs ++ c.len-2.result ∷ []) c.in_ok-reserve.ensures.items)
    ∙ packed-more bytes.items ends.items c.args.cell.now c.len-2.result c.self.invariant end
    ∙ ap (λ (cells : List (List ℕ)). cells ++ c.args.cell.now ∷ []) c.self.view_is

pub returns-clause-few : goal.returns-clause-few
returns-clause-few c =
    let n = length-packed c.extend_from_slice.new.self.items c.append.new.list.items in
    let o = c.append.new.list.ok.0 in
    let s = c.append.new.list.small in
    omega arith
