use Rattle.std.proofs.Common.{◌≡◌, ◌<◌, ◌∙◌, ap, arith, ℕ, List, [], length, get_or, refl}
use Rattle.std.proofs.lemmas.List.{get_or_default}
use Rattle.rel_base.specs.Packed.{start_at, end_at}
use Rattle.rel_base.proofs.Packed.{length-packed, packed-read}
use Rattle.rel_base.proofs.cells.Cells.get.Goals as goal

-- the place is one of an end
there : (place n m : ℕ) (now packed : List (List ℕ)) → place < length now → packed ≡ now → length packed ≡ n → m ≡ n → place < m
there place n m now packed l e f g = let h = ap length e in omega (arith, l, h, f, g)

pub start_at-start-requires : goal.start_at-start-requires
start_at-start-requires c =
    let l = there c.args.place (length c.self.inside.ends.items) (length c.deref.result.now) c.args.self.now _ c.requires c.self.view_is (length-packed c.self.inside.bytes.items c.self.inside.ends.items) (ap length c.deref.ensures.value) in
    omega (arith, l)

pub index-requires : goal.index-requires
index-requires c = there c.args.place (length c.self.inside.ends.items) c.self.inside.ends.len c.args.self.now _ c.requires c.self.view_is (length-packed c.self.inside.bytes.items c.self.inside.ends.items) c.self.inside.ends.ok.0

pub part-requires-clause-order : goal.part-requires-clause-order
part-requires-clause-order c =
    let ends = c.self.inside.ends.items in
    let l = there c.args.place (length ends) (length ends) c.args.self.now _ c.requires c.self.view_is (length-packed c.self.inside.bytes.items ends) refl in
    let s : c.start_at-start.result ≡ start_at ends c.args.place = c.start_at-start.ensures ∙ ap (λ (es : List ℕ). start_at es c.args.place) c.deref.ensures.value in
    let e : c.index.result.now ≡ end_at ends c.args.place = c.index.ensures ∙ get_or_default ends c.args.place c.index.result.now 0 l in
    let a = c.self.invariant.ascending c.args.place l in
    omega (arith, s, e, a)

pub part-requires-clause-within : goal.part-requires-clause-within
part-requires-clause-within c =
    let ends = c.self.inside.ends.items in
    let l = there c.args.place (length ends) (length ends) c.args.self.now _ c.requires c.self.view_is (length-packed c.self.inside.bytes.items ends) refl in
    let e : c.index.result.now ≡ end_at ends c.args.place = c.index.ensures ∙ get_or_default ends c.args.place c.index.result.now 0 l in
    let a = c.self.invariant.within c.args.place l in
    let b = ap length c.deref-2.ensures.value in
    omega (arith, e, a, b)

pub returns : goal.returns
returns c =
    let ends = c.self.inside.ends.items in
    let l = there c.args.place (length ends) (length ends) c.args.self.now _ c.requires c.self.view_is (length-packed c.self.inside.bytes.items ends) refl in
    let s : c.start_at-start.result ≡ start_at ends c.args.place = c.start_at-start.ensures ∙ ap (λ (es : List ℕ). start_at es c.args.place) c.deref.ensures.value in
    let e : c.index.result.now ≡ end_at ends c.args.place = c.index.ensures ∙ get_or_default ends c.args.place c.index.result.now 0 l in
    c.part.ensures ∙ packed-read c.self.inside.bytes.items ends c.args.place c.start_at-start.result c.index.result.now c.deref-2.result.now l c.deref-2.ensures.value s e
    ∙ ap (λ (cells : List (List ℕ)). get_or cells c.args.place []) c.self.view_is
