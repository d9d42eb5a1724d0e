use Rattle.std.proofs.Common.{◌≡◌, ◌<◌, ◌≤◌, ◌+◌, ◌++◌, ℕ, List, length, zip, get_or, replicate, slice_range, refl, sym, ap, ap₂, ◌∙◌, subst, subst₂, arith, rules, vec_len}
use Rattle.std.specs.List.{concat, flat_map}
use Rattle.stripped_partition.specs.Groups.{cut, ends_of, EndsRise, IsCut, IsFlat}
use Rattle.stripped_partition.specs.Splits.{parts}
use Rattle.stripped_partition.proofs.Cuts.{length-slice}
use Rattle.stripped_partition.proofs.PlacingStep.{long_pairs}
use Rattle.stripped_partition.proofs.SplitLoop.{Splitted, splitted_none, splitted_more, splitted_all, bounds, zip-slice}
use Rattle.stripped_partition.proofs.groups.split_groups.Goals as goal

pub loop-end-init : goal.loop-end-init
loop-end-init c =
    subst₂ (λ (rows ends : List ℕ). Splitted (length c.args.slots.now) (zip c.args.rows.now c.args.codes.now) c.args.ends.now rows ends c.args.slots.now 0 0) (sym c.requires.none.0) (sym c.requires.none.1)
    (splitted_none (length c.args.slots.now) (zip c.args.rows.now c.args.codes.now) c.args.ends.now c.args.slots.now c.requires.clear refl)

-- the next group lies within the rows
within : (bound : ℕ) (rows codes ends rows_made ends_made slots : List ℕ) (i start : ℕ) → IsCut rows ends → length codes ≡ length rows → Splitted bound (zip rows codes) ends rows_made ends_made slots i start → i < length ends
    → (start < get_or ends i 0) × (get_or ends i 0 ≤ length rows) × (length rows_made + length (slice_range rows start (get_or ends i 0)) ≤ 1000000)
within bound rows codes ends rows_made ends_made slots i start is coded p l =
    let n = long_pairs rows codes coded in
    let w = bounds bound (zip rows codes) ends rows_made ends_made slots i start p (subst (λ (m : ℕ). EndsRise 0 m ends) (sym n) is.rise) l (get_or ends i 0) refl in
    let a = w.0 in let b = w.1 in let s = is.short in let f = p.few in
    let e = length-slice rows start (get_or ends i 0) (omega arith) (omega arith) in
    (a, omega arith, omega arith)

-- as many rows as codes
sliced : (rows codes : List ℕ) (start end : ℕ) → length codes ≡ length rows → start ≤ end → end ≤ length rows → length (slice_range codes start end) ≡ length (slice_range rows start end)
sliced rows codes start end coded l m = length-slice codes start end l (omega arith) ∙ sym (length-slice rows start end l m)

pub slice_bounds-split_clear-count : goal.slice_bounds-split_clear-count
slice_bounds-split_clear-count c =
    let w = within (length c.loop-end.slots) c.args.rows.now c.args.codes.now c.args.ends.now c.loop-end.groups.rows.items c.loop-end.groups.ends.items c.loop-end.slots c.loop-end.end-index c.loop-end.start c.requires.cut c.requires.coded c.loop-end.invariant c.loop-end-test.true in
    let a = w.0 in omega arith

pub slice_bounds-split_clear-start : goal.slice_bounds-split_clear-start
slice_bounds-split_clear-start c =
    let w = within (length c.loop-end.slots) c.args.rows.now c.args.codes.now c.args.ends.now c.loop-end.groups.rows.items c.loop-end.groups.ends.items c.loop-end.slots c.loop-end.end-index c.loop-end.start c.requires.cut c.requires.coded c.loop-end.invariant c.loop-end-test.true in
    let a = w.0 in let g : c.loop-end.start ≤ get_or c.args.ends.now c.loop-end.end-index 0 = omega arith in search rules

pub slice_bounds-split_clear-end : goal.slice_bounds-split_clear-end
slice_bounds-split_clear-end c =
    let w = within (length c.loop-end.slots) c.args.rows.now c.args.codes.now c.args.ends.now c.loop-end.groups.rows.items c.loop-end.groups.ends.items c.loop-end.slots c.loop-end.end-index c.loop-end.start c.requires.cut c.requires.coded c.loop-end.invariant c.loop-end-test.true in
    let g : get_or c.args.ends.now c.loop-end.end-index 0 ≤ length c.args.rows.now = w.1 in search rules

pub slice_bounds-split_clear-count-in-loop-end : goal.slice_bounds-split_clear-count-in-loop-end
slice_bounds-split_clear-count-in-loop-end c =
    let w = within (length c.loop-end.slots) c.args.rows.now c.args.codes.now c.args.ends.now c.loop-end.groups.rows.items c.loop-end.groups.ends.items c.loop-end.slots c.loop-end.end-index c.loop-end.start c.requires.cut c.requires.coded c.loop-end.invariant c.loop-end-test.true in
    let a = w.0 in omega arith

pub slice_bounds-split_clear-start-in-loop-end : goal.slice_bounds-split_clear-start-in-loop-end
slice_bounds-split_clear-start-in-loop-end c =
    let w = within (length c.loop-end.slots) c.args.rows.now c.args.codes.now c.args.ends.now c.loop-end.groups.rows.items c.loop-end.groups.ends.items c.loop-end.slots c.loop-end.end-index c.loop-end.start c.requires.cut c.requires.coded c.loop-end.invariant c.loop-end-test.true in
    let a = w.0 in let g : c.loop-end.start ≤ get_or c.args.ends.now c.loop-end.end-index 0 = omega arith in search rules

pub slice_bounds-split_clear-end-in-loop-end : goal.slice_bounds-split_clear-end-in-loop-end
slice_bounds-split_clear-end-in-loop-end c =
    let w = within (length c.loop-end.slots) c.args.rows.now c.args.codes.now c.args.ends.now c.loop-end.groups.rows.items c.loop-end.groups.ends.items c.loop-end.slots c.loop-end.end-index c.loop-end.start c.requires.cut c.requires.coded c.loop-end.invariant c.loop-end-test.true in
    let b = w.1 in let e = c.requires.coded in
    let g : get_or c.args.ends.now c.loop-end.end-index 0 ≤ length c.args.codes.now = omega arith in search rules

pub split_clear-requires : goal.split_clear-requires
split_clear-requires c =
    let w = within (length c.loop-end.slots) c.args.rows.now c.args.codes.now c.args.ends.now c.loop-end.groups.rows.items c.loop-end.groups.ends.items c.loop-end.slots c.loop-end.end-index c.loop-end.start c.requires.cut c.requires.coded c.loop-end.invariant c.loop-end-test.true in
    record {
      short = (let s = w.2 in omega (arith, c.loop-end.groups.rows.ok.0));
      coded = sliced c.args.rows.now c.args.codes.now c.loop-end.start (get_or c.args.ends.now c.loop-end.end-index 0) c.requires.coded (let a = w.0 in omega arith) w.1;
      clear = c.loop-end.invariant.clear;
    }

-- one more group is split
more : (rows codes ends rows_made ends_made slots : List ℕ) (i start made : ℕ) → IsCut rows ends → length codes ≡ length rows → Splitted (length slots) (zip rows codes) ends rows_made ends_made slots i start → i < length ends
    → (end : ℕ) (rows_after ends_after slots_after : List ℕ) → end ≡ get_or ends i 0 → made ≡ length rows_made
    → rows_after ≡ rows_made ++ concat (parts (length slots) (zip (slice_range rows start (get_or ends i 0)) (slice_range codes start (get_or ends i 0))))
    → ends_after ≡ ends_made ++ ends_of made (parts (length slots) (zip (slice_range rows start (get_or ends i 0)) (slice_range codes start (get_or ends i 0))))
    → length slots_after ≡ length slots → slots_after ≡ replicate (length slots_after) 0
    → Splitted (length slots_after) (zip rows codes) ends rows_after ends_after slots_after (i + 1) end
more rows codes ends rows_made ends_made slots i start made is coded p l end rows_after ends_after slots_after e m er ee long clear =
    let n = long_pairs rows codes coded in
    let part : zip (slice_range rows start (get_or ends i 0)) (slice_range codes start (get_or ends i 0)) ≡ slice_range (zip rows codes) start end = zip-slice rows codes start (get_or ends i 0) ∙ ap (λ (k : ℕ). slice_range (zip rows codes) start k) (sym e) in
    subst (λ (b : ℕ). Splitted b (zip rows codes) ends rows_after ends_after slots_after (i + 1) end) (sym long)
    (splitted_more (length slots) (zip rows codes) ends rows_made ends_made slots i start p (subst (λ (m : ℕ). EndsRise 0 m ends) (sym n) is.rise) l end rows_after ends_after slots_after e
    (er ∙ ap (λ (es : List (ℕ × ℕ)). rows_made ++ concat (parts (length slots) es)) part)
    (ee ∙ ap₂ (λ (k : ℕ) (es : List (ℕ × ℕ)). ends_made ++ ends_of k (parts (length slots) es)) m part)
    long clear)

pub loop-end-preserved : goal.loop-end-preserved
loop-end-preserved c =
    let at = c.loop-end.groups in
    let made : vec_len at.rows ≡ length at.rows.items = omega (arith, at.rows.ok.0) in
    more c.args.rows.now c.args.codes.now c.args.ends.now at.rows.items at.ends.items c.loop-end.slots c.loop-end.end-index c.loop-end.start (vec_len at.rows) c.requires.cut c.requires.coded c.loop-end.invariant c.loop-end-test.true
    (get_or c.args.ends.now c.loop-end.end-index 0) c.split_clear.new.groups.rows.items c.split_clear.new.groups.ends.items c.split_clear.new.slots refl made c.in_ok-split_clear.ensures.parts.laid c.in_ok-split_clear.ensures.parts.cuts
    c.split_clear.auto.slots
    (c.in_ok-split_clear.ensures.clear ∙ ap (λ (n : ℕ). replicate n 0) (sym c.split_clear.auto.slots))

pub returns-clause-flat : goal.returns-clause-flat
returns-clause-flat c = subst (λ (b : ℕ). IsFlat c.loop-end.groups.rows.items c.loop-end.groups.ends.items (flat_map (parts b) (cut 0 (zip c.args.rows.now c.args.codes.now) c.args.ends.now))) c.loop-end.auto.slots
    (splitted_all (length c.loop-end.slots) (zip c.args.rows.now c.args.codes.now) c.args.ends.now c.loop-end.groups.rows.items c.loop-end.groups.ends.items c.loop-end.slots c.loop-end.end-index c.loop-end.start c.loop-end-test.false c.loop-end.invariant)

pub returns-clause-clear : goal.returns-clause-clear
returns-clause-clear c = c.loop-end.invariant.clear ∙ ap (λ (n : ℕ). replicate n 0) c.loop-end.auto.slots
