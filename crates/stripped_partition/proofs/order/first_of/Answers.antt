use Rattle.std.proofs.Common.{◌<◌, ℕ, List, length, get_or, sym, ap, ◌∙◌, arith}
use Rattle.std.proofs.lemmas.List.{get_or_read}
use Rattle.stripped_partition.specs.Groups.{start_at, IsCut}
use Rattle.stripped_partition.proofs.Cuts.{ends_at, first-cut}
use Rattle.stripped_partition.proofs.order.first_of.Goals as goal

within : (rows ends : List ℕ) (k : ℕ) → IsCut rows ends → k < length ends → start_at ends k < length rows
within rows ends k is l = let w = ends_at (length rows) ends k is.rise l in let a = w.rising in let b = w.within in omega arith

pub index-requires : goal.index-requires
index-requires c =
    let g = c.args.groups.now in
    let l : c.args.k < length g.ends.items = (let p = c.requires.place in omega (arith, g.ends.ok.0)) in
    let w = within g.rows.items g.ends.items c.args.k c.requires.cut l in
    let s = c.start_of.ensures ∙ ap (λ (es : List ℕ). start_at es c.args.k) c.deref.ensures.value in
    omega (arith, g.rows.ok.0)

pub returns : goal.returns
returns c =
    let g = c.args.groups.now in
    let l : c.args.k < length g.ends.items = (let p = c.requires.place in omega (arith, g.ends.ok.0)) in
    let w = within g.rows.items g.ends.items c.args.k c.requires.cut l in
    let s = c.start_of.ensures ∙ ap (λ (es : List ℕ). start_at es c.args.k) c.deref.ensures.value in
    get_or_read g.rows.items c.start_of.result c.index.result.now (omega arith) c.index.ensures 0
    ∙ ap (λ (i : ℕ). get_or g.rows.items i 0) s ∙ sym (first-cut g.rows.items g.ends.items c.args.k c.requires.cut l)
