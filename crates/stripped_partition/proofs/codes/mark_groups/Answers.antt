use Rattle.std.proofs.Common.{◌≡◌, ◌<◌, ◌≤◌, ◌+◌, [], ℕ, suc, List, length, get_or, cond, slice_range, refl, sym, ap, ◌∙◌, arith, rules}
use Rattle.rel_base.proofs.States.{All-listed}
use Rattle.stripped_partition.specs.Groups.{cut, start_at, IsCut}
use Rattle.stripped_partition.proofs.Cuts.{length-cut, get_or-cut, ends_at, few_ends}
use Rattle.stripped_partition.proofs.Coding.{has_row, tabled_none, tabled_more, tabled_all}
use Rattle.stripped_partition.proofs.Refining.{cut_listed}
use Rattle.stripped_partition.proofs.codes.mark_groups.Goals as goal

pub loop-k-init : goal.loop-k-init
loop-k-init c =
    (refl, tabled_none (cut 0 c.args.rows.now c.args.ends.now) c.args.table.now 4294967295 (few c.args.rows.now c.args.ends.now c.requires.cut) c.requires.none)
  where
    few : (rows ends : List ℕ) → IsCut rows ends → length (cut 0 rows ends) ≤ 4294967295
    few rows ends is = let n = length-cut 0 rows ends in let f = few_ends rows ends is in let s = is.short in omega arith

-- the next group lies within the rows
within : (rows ends : List ℕ) (k start : ℕ) → IsCut rows ends → k < length ends → start ≡ start_at ends k → (start < get_or ends k 0) × (get_or ends k 0 ≤ length rows)
within rows ends k start is l s = let w = ends_at (length rows) ends k is.rise l in let a = w.rising in let b = w.within in (omega arith, omega arith)

group_is : (rows ends : List ℕ) (k start : ℕ) → k < length ends → start ≡ start_at ends k → slice_range rows start (get_or ends k 0) ≡ get_or (cut 0 rows ends) k []
group_is rows ends k start l s = ap (λ (a : ℕ). slice_range rows a (get_or ends k 0)) s ∙ sym (get_or-cut rows ends k l)

pub slice_bounds-mark-count : goal.slice_bounds-mark-count
slice_bounds-mark-count c =
    let w = within c.args.rows.now c.args.ends.now c.loop-k.k c.loop-k.start c.requires.cut c.loop-k-test.true c.loop-k.invariant.0 in let a = w.0 in omega arith

pub slice_bounds-mark-start : goal.slice_bounds-mark-start
slice_bounds-mark-start c =
    let w = within c.args.rows.now c.args.ends.now c.loop-k.k c.loop-k.start c.requires.cut c.loop-k-test.true c.loop-k.invariant.0 in let a = w.0 in
    let h : c.loop-k.start ≤ get_or c.args.ends.now c.loop-k.k 0 = omega arith in search rules

pub slice_bounds-mark-end : goal.slice_bounds-mark-end
slice_bounds-mark-end c =
    let h : get_or c.args.ends.now c.loop-k.k 0 ≤ length c.args.rows.now = (within c.args.rows.now c.args.ends.now c.loop-k.k c.loop-k.start c.requires.cut c.loop-k-test.true c.loop-k.invariant.0).1 in search rules

pub overflow_cast-k : goal.overflow_cast-k
overflow_cast-k c =
    let l = c.loop-k-test.true in let f = few_ends c.args.rows.now c.args.ends.now c.requires.cut in let s = c.requires.cut.short in
    record { fits = omega arith }

pub loop-k-preserved : goal.loop-k-preserved
loop-k-preserved c =
    let n = length-cut 0 c.args.rows.now c.args.ends.now in
    let l = c.loop-k-test.true in
    let same = group_is c.args.rows.now c.args.ends.now c.loop-k.k c.loop-k.start c.loop-k-test.true c.loop-k.invariant.0 in (
      ap (start_at c.args.ends.now) (let e : suc c.loop-k.k ≡ c.loop-k.k + 1 = omega arith in e),
      tabled_more (cut 0 c.args.rows.now c.args.ends.now) c.loop-k.table c.mark.new.table c.loop-k.k (omega arith) c.loop-k.invariant.1 c.mark.auto.table
          (λ i m. c.mark.ensures i m ∙ ap (λ (g : List ℕ). cond (has_row g i) c.loop-k.k (get_or c.loop-k.table i 0)) same)
          (λ i h. let e = c.loop-k.auto.table in let r = All-listed (λ (row : ℕ). row < length c.args.table.now) i c.args.rows.now c.requires.within (cut_listed c.args.rows.now c.args.ends.now c.requires.cut c.loop-k.k c.loop-k-test.true i h) in omega arith),
    )

pub returns : goal.returns
returns c =
    let n = length-cut 0 c.args.rows.now c.args.ends.now in let l = c.loop-k-test.false in
    tabled_all (cut 0 c.args.rows.now c.args.ends.now) c.loop-k.table c.loop-k.k (omega arith) c.loop-k.invariant.1
