use Rattle.std.proofs.Common.{◌≡◌, ◌≤◌, ◌∷◌, ◌++◌, [], ℕ, List, ap, ◌∙◌, arith}
use Rattle.col_set.specs.ColSet.{empty}
use Rattle.stripped_partition.proofs.Whole.{nothing_cut, whole_cut, whole_is_cut}
use Rattle.stripped_partition.proofs.partition.Partition.of_all.Goals as goal

pub returns-then-len-lt2-clause-value : goal.returns-then-len-lt2-clause-value
returns-then-len-lt2-clause-value c =
    let l = c.if-len-lt2.true in let e = c.len.ensures in
    nothing_cut c.args.snapshot.now c.new-rows.result.items c.new-ends.result.items c.in_ok-rows.rows.items c.new-ends.ensures.items c.in_ok-rows.ensures.rows (omega (arith, c.in_ok-rows.rows.ok.0))

pub returns-then-len-lt2-clause-of : goal.returns-then-len-lt2-clause-of
returns-then-len-lt2-clause-of c = record { columns = empty; is = returns-then-len-lt2-clause-value c }

two_rows : (n m k : ℕ) → 2 ≤ n → n ≡ m → k ≡ m → 2 ≤ k
two_rows n m k l e f = omega arith

-- a push onto an empty list
only : (new old : List ℕ) (n : ℕ) → new ≡ old ++ n ∷ [] → old ≡ [] → new ≡ n ∷ []
only new old n e f = e ∙ ap (λ (xs : List ℕ). xs ++ n ∷ []) f

pub overflow_cast-len : goal.overflow_cast-len
overflow_cast-len c =
    let s = c.in_ok-rows.ensures.short in let e = c.len-2.ensures in
    record { fits = omega arith }

pub invariant_of-result-2 : goal.invariant_of-result-2
invariant_of-result-2 c =
    whole_is_cut c.args.snapshot.now c.in_ok-rows.rows.items c.push.new.self.items c.len-2.result c.in_ok-rows.ensures.rows (only _ _ _ c.in_ok-push.ensures.items c.new-ends.ensures.items)
    (let e = c.len-2.ensures in omega (arith, c.in_ok-rows.rows.ok.0)) (two_rows _ _ _ c.if-len-lt2.false c.len.ensures c.len-2.ensures)
    (let s = c.in_ok-rows.ensures.short in omega (arith, c.in_ok-rows.rows.ok.0))

pub returns-clause-value : goal.returns-clause-value
returns-clause-value c =
    whole_cut c.args.snapshot.now c.in_ok-rows.rows.items c.push.new.self.items c.len-2.result c.in_ok-rows.ensures.rows (only _ _ _ c.in_ok-push.ensures.items c.new-ends.ensures.items)
    (let e = c.len-2.ensures in omega (arith, c.in_ok-rows.rows.ok.0)) (two_rows _ _ _ c.if-len-lt2.false c.len.ensures c.len-2.ensures)

pub returns-clause-of : goal.returns-clause-of
returns-clause-of c = record { columns = empty; is = returns-clause-value c }
