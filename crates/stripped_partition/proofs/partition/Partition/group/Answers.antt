use Rattle.std.proofs.Common.{◌≡◌, ◌<◌, ◌≤◌, ℕ, List, [], length, get_or, slice_range, sym, ap, ap₂, ◌∙◌, rules, arith}
use Rattle.std.proofs.lemmas.List.{get_or_read}
use Rattle.stripped_partition.specs.Groups.{cut, start_at, IsCut}
use Rattle.stripped_partition.proofs.Cuts.{length-cut, get_or-cut, ends_at, Ends}
use Rattle.stripped_partition.proofs.partition.Partition.group.Goals as goal

in_ends : (rows ends : List ℕ) (groups : List (List ℕ)) (k : ℕ) → cut 0 rows ends ≡ groups → k < length groups → k < length ends
in_ends rows ends groups k v l = let e = ap length v in let f = length-cut 0 rows ends in omega arith

bounds : (rows ends : List ℕ) (groups : List (List ℕ)) (k : ℕ) → IsCut rows ends → cut 0 rows ends ≡ groups → k < length groups → Ends (length rows) ends k
bounds rows ends groups k is v l = ends_at (length rows) ends k is.rise (in_ends rows ends groups k v l)

group_is : (rows ends : List ℕ) (groups : List (List ℕ)) (k start end : ℕ) → cut 0 rows ends ≡ groups → k < length groups → start ≡ start_at ends k → end ≡ get_or ends k 0
    → slice_range rows start end ≡ get_or groups k []
group_is rows ends groups k start end v l s e =
    ap₂ (λ (a b : ℕ). slice_range rows a b) s e ∙ sym (get_or-cut rows ends k (in_ends rows ends groups k v l)) ∙ ap (λ (gs : List (List ℕ)). get_or gs k []) v

pub start_of-start-requires : goal.start_of-start-requires
start_of-start-requires c =
    let l = in_ends c.self.inside.rows.items c.self.inside.ends.items c.args.self.now c.args.k c.self.view_is c.requires in
    let e = ap length c.deref.ensures.value in omega arith

pub index-requires : goal.index-requires
index-requires c =
    let l = in_ends c.self.inside.rows.items c.self.inside.ends.items c.args.self.now c.args.k c.self.view_is c.requires in
    omega (arith, c.self.inside.ends.ok.0)

pub slice_bounds-result-count : goal.slice_bounds-result-count
slice_bounds-result-count c =
    let w = bounds c.self.inside.rows.items c.self.inside.ends.items c.args.self.now c.args.k c.self.invariant c.self.view_is c.requires in
    let l = in_ends c.self.inside.rows.items c.self.inside.ends.items c.args.self.now c.args.k c.self.view_is c.requires in
    let a = w.rising in
    let s = c.start_of-start.ensures ∙ ap (λ (es : List ℕ). start_at es c.args.k) c.deref.ensures.value in
    let e = get_or_read c.self.inside.ends.items c.args.k c.index.result.now l c.index.ensures 0 in
    omega arith

pub slice_bounds-result-start : goal.slice_bounds-result-start
slice_bounds-result-start c =
    let w = bounds c.self.inside.rows.items c.self.inside.ends.items c.args.self.now c.args.k c.self.invariant c.self.view_is c.requires in
    let l = in_ends c.self.inside.rows.items c.self.inside.ends.items c.args.self.now c.args.k c.self.view_is c.requires in
    let a = w.rising in
    let s = c.start_of-start.ensures ∙ ap (λ (es : List ℕ). start_at es c.args.k) c.deref.ensures.value in
    let e = get_or_read c.self.inside.ends.items c.args.k c.index.result.now l c.index.ensures 0 in
    let goal : c.start_of-start.result ≤ c.index.result.now = omega arith in
    search rules

pub slice_bounds-result-end : goal.slice_bounds-result-end
slice_bounds-result-end c =
    let w = bounds c.self.inside.rows.items c.self.inside.ends.items c.args.self.now c.args.k c.self.invariant c.self.view_is c.requires in
    let l = in_ends c.self.inside.rows.items c.self.inside.ends.items c.args.self.now c.args.k c.self.view_is c.requires in
    let b = w.within in
    let e = get_or_read c.self.inside.ends.items c.args.k c.index.result.now l c.index.ensures 0 in
    let m = ap length c.deref-2.ensures.value in
    let goal : c.index.result.now ≤ length c.deref-2.result.now = omega arith in
    search rules

pub returns : goal.returns
returns c =
    let l = in_ends c.self.inside.rows.items c.self.inside.ends.items c.args.self.now c.args.k c.self.view_is c.requires in
    ap (λ (xs : List ℕ). slice_range xs c.start_of-start.result c.index.result.now) c.deref-2.ensures.value
    ∙ group_is c.self.inside.rows.items c.self.inside.ends.items c.args.self.now c.args.k c.start_of-start.result c.index.result.now c.self.view_is c.requires
    (c.start_of-start.ensures ∙ ap (λ (es : List ℕ). start_at es c.args.k) c.deref.ensures.value) (get_or_read c.self.inside.ends.items c.args.k c.index.result.now l c.index.ensures 0)

pub offset_bounds-deref-start : goal.offset_bounds-deref-start
offset_bounds-deref-start c =
    let w = bounds c.self.inside.rows.items c.self.inside.ends.items c.args.self.now c.args.k c.self.invariant c.self.view_is c.requires in
    let l = in_ends c.self.inside.rows.items c.self.inside.ends.items c.args.self.now c.args.k c.self.view_is c.requires in
    let a = w.rising in
    let b = w.within in
    let m = c.self.invariant.short in
    let s = c.start_of-start.ensures ∙ ap (λ (es : List ℕ). start_at es c.args.k) c.deref.ensures.value in
    record { fits = omega arith }
