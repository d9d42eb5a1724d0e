use Rattle.std.proofs.Common.{◌≡◌, ◌<◌, ◌≤◌, ◌+◌, ◌∷◌, ◌++◌, ℕ, List, [], length, get_or, slice_range, sym, ap, ap₂, ◌∙◌, rules, arith, vec_len}
use Rattle.std.proofs.lemmas.List.{get_or_read}
use Rattle.stripped_partition.specs.Groups.{cut, start_at, IsCut}
use Rattle.stripped_partition.proofs.Cuts.{get_or-cut, ends_at}
use Rattle.stripped_partition.proofs.order.push_group.Goals as goal

-- a group lies within the rows
within : (rows ends : List ℕ) (k start end : ℕ) → IsCut rows ends → k < length ends → start ≡ start_at ends k → end ≡ get_or ends k 0 → (start < end) × (end ≤ length rows)
within rows ends k start end is l s e = let w = ends_at (length rows) ends k is.rise l in let a = w.rising in let b = w.within in (omega arith, omega arith)

group_is : (rows ends : List ℕ) (k start end : ℕ) → k < length ends → start ≡ start_at ends k → end ≡ get_or ends k 0 → slice_range rows start end ≡ get_or (cut 0 rows ends) k []
group_is rows ends k start end l s e = ap₂ (λ (a b : ℕ). slice_range rows a b) s e ∙ sym (get_or-cut rows ends k l)

pub offset_bounds-deref-start : goal.offset_bounds-deref-start
offset_bounds-deref-start c =
    let g = c.args.groups.now in
    let l : c.args.k < length g.ends.items = (let p = c.requires.place in omega (arith, g.ends.ok.0)) in
    let w = within g.rows.items g.ends.items c.args.k c.start_of-start.result c.index.result.now c.requires.cut l (c.start_of-start.ensures ∙ ap (λ (es : List ℕ). start_at es c.args.k) c.deref.ensures.value) (get_or_read g.ends.items c.args.k c.index.result.now l c.index.ensures 0) in
    let a = w.0 in let b = w.1 in let s = c.requires.cut.short in record { fits = omega arith }

pub slice_bounds-extend_from_slice-count : goal.slice_bounds-extend_from_slice-count
slice_bounds-extend_from_slice-count c =
    let g = c.args.groups.now in
    let l : c.args.k < length g.ends.items = (let p = c.requires.place in omega (arith, g.ends.ok.0)) in
    let w = within g.rows.items g.ends.items c.args.k c.start_of-start.result c.index.result.now c.requires.cut l (c.start_of-start.ensures ∙ ap (λ (es : List ℕ). start_at es c.args.k) c.deref.ensures.value) (get_or_read g.ends.items c.args.k c.index.result.now l c.index.ensures 0) in
    let a = w.0 in omega arith

pub slice_bounds-extend_from_slice-start : goal.slice_bounds-extend_from_slice-start
slice_bounds-extend_from_slice-start c =
    let g = c.args.groups.now in
    let l : c.args.k < length g.ends.items = (let p = c.requires.place in omega (arith, g.ends.ok.0)) in
    let w = within g.rows.items g.ends.items c.args.k c.start_of-start.result c.index.result.now c.requires.cut l (c.start_of-start.ensures ∙ ap (λ (es : List ℕ). start_at es c.args.k) c.deref.ensures.value) (get_or_read g.ends.items c.args.k c.index.result.now l c.index.ensures 0) in
    let a = w.0 in let h : c.start_of-start.result ≤ c.index.result.now = omega arith in search rules

pub slice_bounds-extend_from_slice-end : goal.slice_bounds-extend_from_slice-end
slice_bounds-extend_from_slice-end c =
    let g = c.args.groups.now in
    let l : c.args.k < length g.ends.items = (let p = c.requires.place in omega (arith, g.ends.ok.0)) in
    let w = within g.rows.items g.ends.items c.args.k c.start_of-start.result c.index.result.now c.requires.cut l (c.start_of-start.ensures ∙ ap (λ (es : List ℕ). start_at es c.args.k) c.deref.ensures.value) (get_or_read g.ends.items c.args.k c.index.result.now l c.index.ensures 0) in
    let b = w.1 in let m = ap length c.deref-2.ensures.value in let h : c.index.result.now ≤ length c.deref-2.result.now = omega arith in search rules

pub returns-clause-rows : goal.returns-clause-rows
returns-clause-rows c =
    let g = c.args.groups.now in
    let l : c.args.k < length g.ends.items = (let p = c.requires.place in omega (arith, g.ends.ok.0)) in
    let start = c.start_of-start.ensures ∙ ap (λ (es : List ℕ). start_at es c.args.k) c.deref.ensures.value in
    let end = get_or_read g.ends.items c.args.k c.index.result.now l c.index.ensures 0 in
    c.in_ok-extend_from_slice.ensures.items
    ∙ ap (λ (xs : List ℕ). c.args.laid.now.rows.items ++ xs) (ap (λ (xs : List ℕ). slice_range xs c.start_of-start.result c.index.result.now) c.deref-2.ensures.value ∙ group_is g.rows.items g.ends.items c.args.k c.start_of-start.result c.index.result.now l start end)

pub returns-clause-ends : goal.returns-clause-ends
returns-clause-ends c =
    let g = c.args.groups.now in
    let l : c.args.k < length g.ends.items = (let p = c.requires.place in omega (arith, g.ends.ok.0)) in
    let start = c.start_of-start.ensures ∙ ap (λ (es : List ℕ). start_at es c.args.k) c.deref.ensures.value in
    let end = get_or_read g.ends.items c.args.k c.index.result.now l c.index.ensures 0 in
    let made = c.len.ensures ∙ c.in_ok-extend_from_slice.ensures.len in
    c.in_ok-push.ensures.items
    ∙ ap (λ (n : ℕ). c.args.laid.now.ends.items ++ n ∷ []) (made ∙ ap (λ (xs : List ℕ). vec_len c.args.laid.now.rows + length xs) (ap (λ (xs : List ℕ). slice_range xs c.start_of-start.result c.index.result.now) c.deref-2.ensures.value ∙ group_is g.rows.items g.ends.items c.args.k c.start_of-start.result c.index.result.now l start end))
