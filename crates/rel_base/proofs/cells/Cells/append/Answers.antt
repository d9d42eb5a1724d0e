use Rattle.std.proofs.Common.{◌≡◌, ◌+◌, ◌∙◌, ◌++◌, ap, ap₂, arith, ℕ, List, length, map, take, drop}
use Rattle.std.proofs.lemmas.List.{append-nil, drop_all, length-map, take_all}
use Rattle.rel_base.specs.Packed.{packed_cells}
use Rattle.rel_base.proofs.PackedBehind.{packed-both, ArePacked-both, moved}
use Rattle.rel_base.proofs.cells.Cells.append.Goals as goal

-- all places were moved
all_moved : (n start by : ℕ) (ends now new : List ℕ) → n ≡ length ends → start ≡ by → now ≡ ends → new ≡ map (λ end. start + end) now
    → take n (new ++ drop (length new) ends) ≡ moved by ends
all_moved n start by ends now new e f g h =
    let is : new ≡ moved by ends = h ∙ ap₂ (λ (m : ℕ) (xs : List ℕ). map (λ end. m + end) xs) f g in
    let l : length new ≡ length ends = ap length is ∙ length-map ends (λ end. by + end) in
    ap (λ (xs : List ℕ). take n (new ++ xs)) (drop_all (length new) ends (omega (arith, l))) ∙ ap (take n) (append-nil new) ∙ take_all n new (omega (arith, e, l)) ∙ is

pub invariant_of-self-in_default : goal.invariant_of-self-in_default
invariant_of-self-in_default c =
    let own = c.self.inside in
    let others = c.others.inside in
    let start : c.len-start.result ≡ length own.bytes.items = c.len-start.ensures ∙ own.bytes.ok.0 in
    let ends : c.extend_from_slice.new.self.items ≡ own.ends.items ++ moved (length own.bytes.items) others.ends.items =
    c.in_ok-extend_from_slice.ensures.items ∙ ap (λ (xs : List ℕ). own.ends.items ++ xs) (c.deref.ensures.value
    ∙ all_moved others.ends.len c.len-start.result (length own.bytes.items) others.ends.items c.deref_mut.result.now c.move_by.new.ends others.ends.ok.0 start c.deref_mut.ensures.value c.move_by.ensures) in
    let bytes : c.extend_from_slice-2.new.self.items ≡ own.bytes.items ++ others.bytes.items = c.in_default.ensures.items ∙ ap (λ (xs : List ℕ). own.bytes.items ++ xs) c.deref-2.ensures.value in
    rw (ends, bytes) (ArePacked-both own.bytes.items own.ends.items others.bytes.items others.ends.items c.self.invariant c.others.invariant
    (let f = c.if-len-start.false in let l = c.len.ensures in let o = others.bytes.ok.0 in let few = c.self.invariant.few in omega (arith, f, l, o, start, few)))

pub returns-clause-appended : goal.returns-clause-appended
returns-clause-appended c =
    let own = c.self.inside in
    let others = c.others.inside in
    let start : c.len-start.result ≡ length own.bytes.items = c.len-start.ensures ∙ own.bytes.ok.0 in
    let ends : c.extend_from_slice.new.self.items ≡ own.ends.items ++ moved (length own.bytes.items) others.ends.items =
    c.in_ok-extend_from_slice.ensures.items ∙ ap (λ (xs : List ℕ). own.ends.items ++ xs) (c.deref.ensures.value
    ∙ all_moved others.ends.len c.len-start.result (length own.bytes.items) others.ends.items c.deref_mut.result.now c.move_by.new.ends others.ends.ok.0 start c.deref_mut.ensures.value c.move_by.ensures) in
    let bytes : c.extend_from_slice-2.new.self.items ≡ own.bytes.items ++ others.bytes.items = c.in_default.ensures.items ∙ ap (λ (xs : List ℕ). own.bytes.items ++ xs) c.deref-2.ensures.value in
    ap₂ (λ (xs es : List ℕ). packed_cells xs es) bytes ends
    ∙ packed-both own.bytes.items own.ends.items others.bytes.items others.ends.items c.self.invariant c.others.invariant
    ∙ ap₂ (λ (xs ys : List (List ℕ)). xs ++ ys) c.self.view_is c.others.view_is
