use Rattle.std.proofs.Common.{◌≡◌, ◌∙◌, ◌≤◌, ap, ap₂, arith, ℕ, List, length, take}
use Rattle.rel_base.specs.Packed.{start_at, packed_cells}
use Rattle.rel_base.proofs.Packed.{length-packed, packed-first, ArePacked-first}
use Rattle.rel_base.proofs.cells.Cells.truncate.Goals as goal

-- so many cells are there
within : (count : ℕ) (bytes ends : List ℕ) (now : List (List ℕ)) → count ≤ length now → packed_cells bytes ends ≡ now → count ≤ length ends
within count bytes ends now l e = let a = ap length e in let b = length-packed bytes ends in omega arith

pub start_at-size-requires : goal.start_at-size-requires
start_at-size-requires c =
    let v = c.self.inside in
    let l = within c.args.count v.bytes.items v.ends.items c.args.self.now c.requires c.self.view_is in
    let d = ap length c.deref.ensures.value in omega arith

pub invariant_of-self : goal.invariant_of-self
invariant_of-self c =
    let v = c.self.inside in
    let l = within c.args.count v.bytes.items v.ends.items c.args.self.now c.requires c.self.view_is in
    let s : c.start_at-size.result ≡ start_at v.ends.items c.args.count = c.start_at-size.ensures ∙ ap (λ (es : List ℕ). start_at es c.args.count) c.deref.ensures.value in
    rw (c.truncate.ensures.items, c.truncate-2.ensures.items, s) (ArePacked-first v.bytes.items v.ends.items c.self.invariant c.args.count l)

pub returns : goal.returns
returns c =
    let v = c.self.inside in
    let l = within c.args.count v.bytes.items v.ends.items c.args.self.now c.requires c.self.view_is in
    let s : c.start_at-size.result ≡ start_at v.ends.items c.args.count = c.start_at-size.ensures ∙ ap (λ (es : List ℕ). start_at es c.args.count) c.deref.ensures.value in
    ap₂ (λ (xs es : List ℕ). packed_cells xs es) (c.truncate.ensures.items ∙ ap (λ (n : ℕ). take n v.bytes.items) s) c.truncate-2.ensures.items
    ∙ packed-first v.bytes.items v.ends.items c.self.invariant c.args.count l
    ∙ ap (take c.args.count) c.self.view_is
