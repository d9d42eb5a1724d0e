use Rattle.std.proofs.Common.{◌≡◌, ◌∙◌, ◌+◌, ℕ, List, ap, arith, map, take, drop, set, get_or, length, ◌++◌, ◌≤◌}
use Rattle.std.proofs.lemmas.List.{append-nil, drop_all, take_all, get_or_default}
use Rattle.std.proofs.lemmas.List.Edits.{map_over_more}
use Rattle.rel_base.proofs.cells.move_by.Goals as goal

pub loop-end-preserved : goal.loop-end-preserved
loop-end-preserved c =
    let end : ℕ = get_or c.loop-end.ends c.loop-end.end-index 0 in
    ap (set c.loop-end.ends c.loop-end.end-index) (omega arith)
    ∙ map_over_more (λ (n : ℕ). c.args.start + n) c.args.ends.now c.loop-end.ends c.loop-end.end-index end c.loop-end-test.true c.loop-end.invariant
    (get_or_default c.loop-end.ends c.loop-end.end-index 0 end (let t = c.loop-end-test.true in let s = c.loop-end.auto.ends in omega (arith, t, s)))

-- all were moved
all_moved : (start i : ℕ) (ends moved : List ℕ) → moved ≡ map (λ end. start + end) (take i ends) ++ drop i ends → length ends ≤ i → moved ≡ map (λ end. start + end) ends
all_moved start i ends moved e l =
    e ∙ ap (λ (xs : List ℕ). map (λ end. start + end) (take i ends) ++ xs) (drop_all i ends l) ∙ append-nil (map (λ end. start + end) (take i ends))
    ∙ ap (map (λ end. start + end)) (take_all i ends l)

pub returns : goal.returns
returns c = all_moved c.args.start c.loop-end.end-index c.args.ends.now c.loop-end.ends c.loop-end.invariant (let f = c.loop-end-test.false in omega (arith, f))
